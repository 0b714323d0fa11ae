-- Laws of block bytes: what those that refusal 16 does not meet may be relied on for, and that such bytes meet it nowhere. Assumes nothing.
use Rattle.std.specs.Prelude.{Ok}
use mathlib.Core.Path.{◌≡◌, refl, sym, ◌∙◌, ap, subst}
use mathlib.Core.Bool.{Bool, true, false, not, ◌&&◌, ◌||◌}
use mathlib.Core.List.{List}
use Prim.Native.Nat.{ℕ, zero, suc, ◌+◌, ◌≤◌, ◌<◌}
use native.Mathlib.Omega.{arith}
use borrow.Author.Tests.{eq-eqb, ne_eqb, eqb-true, le-leb, leb-true, eqb-false}
use lib.Dec.{eqb, leb}
use lib.ListN.{length}
use Rattle.model.specs.Matrix.{naturals, tabulate}
use Rattle.model.specs.Step.{begins}
use Rattle.model.specs.Kept.{Paired}
use Rattle.model.specs.Inertia.{byte_sound, bytes_from, check_bytes}
use Rattle.model.specs.Assembly.{first_not}
use Rattle.model.specs.declared.Refusal.{Refusal}
use Rattle.model.specs.declared.Refusal.TheVariants.{BlockByte}
use Rattle.model.proofs.Tabulated.{length-tabulate_from, get_d_tabulate}
use Rattle.model.proofs.Cases.{test, and_left, and_right}
use Rattle.model.proofs.Every.{first-all}

-- the check is a scan like any other
abbrev pub byte_at : ℕ → Refusal
byte_at k = BlockByte (record { 0 = k })

pub bytes-first : (f : ℕ → ℕ) (n m k : ℕ) → bytes_from f n m k ≡ first_not (byte_sound f n) byte_at m k
unfolding bytes_from first_not
bytes-first f n zero k = refl
bytes-first f n (suc m) k = rw (bytes-first f n m (k + 1))

-- ---- bytes that meet no refusal

-- of a byte that is sound
sound-byte : (f : ℕ → ℕ) (n k : ℕ) → byte_sound f n k ≡ true → f k ≤ 1
unfolding byte_sound
sound-byte f n k s = leb-true (f k) 1 (and_left (leb (f k) 1) (not (begins f k && (eqb (k + 1) n || begins f (k + 1)))) s)

sound-next : (f : ℕ → ℕ) (n k : ℕ) → byte_sound f n k ≡ true → f k ≡ 1 → (eqb (k + 1) n ≡ false) × (begins f (k + 1) ≡ false)
unfolding byte_sound
sound-next f n k s e =
    let rest = not (begins f k && (eqb (k + 1) n || begins f (k + 1))) in
    let r : rest ≡ true = and_right (leb (f k) 1) rest s in
    neither (eqb (k + 1) n) (begins f (k + 1)) (rw (eq-eqb (f k) 1 e) at r)
  where
    neither : (a b : Bool) → not (a || b) ≡ true → (a ≡ false) × (b ≡ false)
    neither false false h = (refl, refl)
    neither false true h = absurd (let w : ◌≡◌ {A = ℕ} 0 1 = cc in omega arith)
    neither true b h = absurd (let w : ◌≡◌ {A = ℕ} 0 1 = cc in omega arith)

all-paired : (f : ℕ → ℕ) (n : ℕ) → bytes_from f n n 0 ≡ Ok tt → Paired n f
all-paired f n e = record {
  byte = λ c h. sound-byte f n c (at c h);
  room = next;
  apart = λ c h o. omega (arith, sound-byte f n (c + 1) (at (c + 1) (next c h o)), eqb-false (f (c + 1)) 1 (sound-next f n c (at c h) o).1);
}
  where
    at : (c : ℕ) → c < n → byte_sound f n c ≡ true
    at c h = first-all (byte_sound f n) byte_at n c (sym (bytes-first f n n 0) ∙ e) h

    next : (c : ℕ) → c < n → f c ≡ 1 → c + 1 < n
    next c h o = omega (arith, eqb-false (c + 1) n (sound-next f n c (at c h) o).0)

-- each is 0 or 1, and a 1 has a 0 after it
pub bytes-paired : (xs : List ℕ) → check_bytes xs ≡ Ok tt → Paired (length xs) (naturals xs)
bytes-paired xs e = all-paired (naturals xs) (length xs) e

-- ---- and back

-- a well-formed byte is sound
sound-at : (f : ℕ → ℕ) (n k : ℕ) → Paired n f → k < n → byte_sound f n k ≡ true
unfolding byte_sound
sound-at f n k w h =
    rw (le-leb (f k) 1 (w.byte k h)) (test (eqb (f k) 1)
    (λ t. let e : f k ≡ 1 = eqb-true (f k) 1 t in
    let z : f (k + 1) ≡ 0 = w.apart k h e in
    rw (t, ne_eqb (k + 1) n (λ x. omega (arith, w.room k h e)), ne_eqb (f (k + 1)) 1 (λ x. omega arith)))
    (λ t. rw t))

-- so are all of them
pub bytes-sound : (f : ℕ → ℕ) (n m k : ℕ) → k + m ≤ n → Paired n f → bytes_from f n m k ≡ Ok tt
unfolding bytes_from
bytes-sound f n zero k h w = refl
bytes-sound f n (suc m) k h w = rw (sound-at f n k w (omega arith)) (bytes-sound f n m (k + 1) (omega arith) w)

-- a list made of well-formed bytes holds them
tabulated-paired : (n : ℕ) (f : ℕ → ℕ) → Paired n f → Paired n (naturals (tabulate n f))
unfolding naturals
tabulated-paired n f w = record {
  byte = λ c h. subst (λ (v : ℕ). v ≤ 1) (sym (get_d_tabulate n c f 0 h)) (w.byte c h);
  room = λ c h e. w.room c h (sym (get_d_tabulate n c f 0 h) ∙ e);
  apart = λ c h e. let g : f c ≡ 1 = sym (get_d_tabulate n c f 0 h) ∙ e in get_d_tabulate n (c + 1) f 0 (w.room c h g) ∙ w.apart c h g;
}

-- so refusal 16 does not meet that list
pub tabulated-bytes : (n : ℕ) (f : ℕ → ℕ) → Paired n f → check_bytes (tabulate n f) ≡ Ok tt
tabulated-bytes n f w =
    ap (λ (m : ℕ). bytes_from (naturals (tabulate n f)) m m 0) (length-tabulate_from 0 n f)
    ∙ bytes-sound (naturals (tabulate n f)) n n 0 (omega arith) (tabulated-paired n f w)
