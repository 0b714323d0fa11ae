-- Laws of lists that are seen as functions: one of zeros, and stores: one, two one after the other, and two that exchange what two places hold.
-- Assumes nothing.
use Rattle.std.specs.Prelude.{ℤ, pos}
use mathlib.Core.Path.{◌≡◌, refl, sym, ◌∙◌, ap, fun_ext}
use mathlib.Core.List.{List}
use Prim.Native.Nat.{ℕ, zero, suc, ◌≤◌, ◌<◌}
use native.Mathlib.Omega.{arith}
use borrow.Author.Tests.{eqb-true, eqb-false}
use lib.Dec.{eqb}
use lib.ListN.{length, get_or, set, replicate, length-set}
use lib.Seq.{get_or-set_same, get_or-set_other, set-get_or}
use lib.Ieee.{Float, nan}
use Rattle.model.specs.Matrix.{vec, naturals, places, put, swapped}
use Rattle.model.specs.Lapack.{integers}
use Rattle.model.proofs.Cases.{test}

-- ---- zeros, one store, and two

module _ {A : Type 0} (z : A) where
  none_stored : (n : ℕ) → ◌≡◌ {A = ℕ → A} (λ i. get_or (replicate n z) i z) (λ i. z)
  none_stored n = fun_ext (every n)
    where
      every : (m i : ℕ) → get_or (replicate m z) i z ≡ z
      every zero i = refl
      every (suc m) zero = refl
      every (suc m) (suc i) = every m i

  stored : (xs : List A) (i : ℕ) (v : A) → i < length xs → ◌≡◌ {A = ℕ → A} (λ a. get_or (set xs i v) a z) (put (λ a. get_or xs a z) i v)
  unfolding put
  stored xs i v h =
      fun_ext λ a. test (eqb a i)
      (λ p. rw (p, eqb-true a i p) (get_or-set_same xs i v z h))
      (λ p. rw p (get_or-set_other xs i a v z (eqb-false a i p)))

  -- ys is xs with y at e, then x at k
  both-stored : (xs ys : List A) (k e : ℕ) (x y : A) → ys ≡ set (set xs e y) k x → k ≤ e → e < length xs
      → ◌≡◌ {A = ℕ → A} (λ a. get_or ys a z) (put (put (λ a. get_or xs a z) e y) k x)
  both-stored xs ys k e x y h l m =
      ap {B = ℕ → A} (λ (zs : List A). λ a. get_or zs a z) h ∙ stored (set xs e y) k x (rw (length-set xs e y) (omega arith))
      ∙ ap {B = ℕ → A} (λ (f : ℕ → A). put f k x) (stored xs e y m)

pub naturals-zeros : (n : ℕ) → naturals (replicate n 0) ≡ (λ i. 0)
unfolding naturals
naturals-zeros n = none_stored 0 n

pub integers-zeros : (n : ℕ) → integers (replicate n (pos 0)) ≡ (λ i. pos 0)
unfolding integers
integers-zeros n = none_stored (pos 0) n

pub both-naturals : (xs ys : List ℕ) (k e x y x' y' : ℕ) → ys ≡ set (set xs e y) k x → x ≡ x' → y ≡ y' → k ≤ e → e < length xs
    → naturals ys ≡ put (put (naturals xs) e y') k x'
unfolding naturals
both-naturals xs ys k e x y x' y' h p q l m = both-stored 0 xs ys k e x y h l m ∙ rw (p, q) refl

pub both-vec : (xs ys : List Float) (k e : ℕ) (x y x' y' : Float) → ys ≡ set (set xs e y) k x → x ≡ x' → y ≡ y' → k ≤ e → e < length xs
    → vec ys ≡ put (put (vec xs) e y') k x'
unfolding vec
both-vec xs ys k e x y x' y' h p q l m = both-stored nan xs ys k e x y h l m ∙ rw (p, q) refl

pub both-integers : (xs ys : List ℤ) (k e : ℕ) (x y : ℤ) → ys ≡ set (set xs e y) k x → k ≤ e → e < length xs
    → integers ys ≡ put (put (integers xs) e y) k x
unfolding integers
both-integers xs ys k e x y h l m = both-stored (pos 0) xs ys k e x y h l m

-- ---- places of an order

-- within the list the default plays no part
pub place_at : (xs : List ℕ) (i : ℕ) → i < length xs → get_or xs i 0 ≡ places xs i
unfolding places
place_at xs i l = sym (get_or-set_same xs i (get_or xs i 0) i l) ∙ ap (λ (zs : List ℕ). get_or zs i i) (set-get_or xs i 0)

places-set : (xs : List ℕ) (i v : ℕ) → i < length xs → places (set xs i v) ≡ put (places xs) i v
unfolding places put
places-set xs i v h =
    fun_ext λ a. test (eqb a i)
    (λ p. rw (p, eqb-true a i p) (get_or-set_same xs i v i h))
    (λ p. rw p (get_or-set_other xs i a v a (eqb-false a i p)))

-- two stores exchange two places, which may be one
stores-swap : (f g h : ℕ → ℕ) (p q a b : ℕ) → a ≡ f p → b ≡ f q → g ≡ put f p b → h ≡ put g q a → h ≡ swapped f p q
unfolding put swapped
stores-swap f g h p q a b ea eb eg eh =
    eh ∙ rw eg (fun_ext λ i. test (eqb i q)
    (λ z. rw z (test (eqb i p) (λ y. rw y (ea ∙ ap f (sym (eqb-true i p y) ∙ eqb-true i q z))) (λ y. rw y ea)))
    (λ z. rw z (test (eqb i p) (λ y. rw y eb) (λ y. rw y))))

-- of a list
pub swap-places : (xs ys : List ℕ) (p q : ℕ) → p < length xs → q < length xs → ys ≡ set (set xs p (get_or xs q 0)) q (get_or xs p 0)
    → places ys ≡ swapped (places xs) p q
swap-places xs ys p q h l e =
    let put_first : List ℕ = set xs p (get_or xs q 0) in
    stores-swap (places xs) (places put_first) (places ys) p q (get_or xs p 0) (get_or xs q 0) (place_at xs p h) (place_at xs q l)
    (places-set xs p (get_or xs q 0) h)
    (ap places e ∙ places-set put_first q (get_or xs p 0) (rw (length-set xs p (get_or xs q 0)) l))
