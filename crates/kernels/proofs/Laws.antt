-- Laws of a list seen as a row of places, and of parts of it. Assumes nothing.
use Prim.Native.Nat.{ℕ, ◌+◌, ◌-◌, ◌<◌, ◌≤◌}
use mathlib.Core.Path.{◌≡◌, refl, ◌∙◌, ap, fun_ext}
use mathlib.Core.Bool.{cond}
use mathlib.Core.List.{List, ◌++◌}
use native.Mathlib.Nat.{le_antisymm}
use native.Mathlib.Omega.{arith}
use borrow.Author.Tests.{lt-ltb, le-ltb, le-leb, lt-leb, eqb-true, eqb-false, eq-eqb, ne_eqb, ltb-true, ltb-false}
use lib.Dec.{ltb, leb, eqb}
use lib.ListN.{length, get_or, set, take, drop, get_or-append}
use lib.Seq.{get_or-set_same, get_or-set_other, get_or-take, get_or-drop, get_or-append-add, length-take-le}
use borrow.Rule.Slice.PartMut.{mid_of, put_mid}
use lib.Ieee.{Float, nan}
use Rattle.model.specs.Matrix.{vec, put, with_part}
use Rattle.model.proofs.Cases.{test, no}

-- ---- vectors

pub vec-set : (xs : List Float) (i : ℕ) (v : Float) → i < length xs → vec (set xs i v) ≡ put (vec xs) i v
unfolding vec put
vec-set xs i v h =
    fun_ext λ a. test (eqb a i)
    (λ p. rw (p, eqb-true a i p) (get_or-set_same xs i v nan h))
    (λ p. rw p (get_or-set_other xs i a v nan (eqb-false a i p)))

-- the place that is put, and any other
pub put-here : (f : ℕ → Float) (k : ℕ) (v : Float) → put f k v k ≡ v
unfolding put
put-here f k v = rw (eq-eqb k k refl)

pub put-other : (f : ℕ → Float) (k i : ℕ) (v : Float) → (i ≡ k → ⊥) → put f k v i ≡ f i
unfolding put
put-other f k i v h = rw (ne_eqb i k h)

pub with_part-none : (f : ℕ → Float) (lo : ℕ) (N : ℕ → Float) → with_part f lo lo N ≡ f
unfolding with_part
with_part-none f lo N =
    fun_ext λ a. test (ltb a lo) (λ p. rw (lt-leb lo a (ltb-true a lo p))) (λ p. test (leb lo a) (λ r. rw (p, r)) (λ r. rw r))

pub with_part-past : (f : ℕ → Float) (lo hi : ℕ) (N : ℕ → Float) (a : ℕ) → hi ≤ a → with_part f lo hi N a ≡ f a
unfolding with_part
with_part-past f lo hi N a h = test (leb lo a) (λ r. rw (r, le-ltb a hi h)) (λ r. rw r)

pub with_part-before : (f : ℕ → Float) (lo hi : ℕ) (N : ℕ → Float) (a : ℕ) → a < lo → with_part f lo hi N a ≡ f a
unfolding with_part
with_part-before f lo hi N a h = rw (lt-leb lo a h)

pub with_part-in : (f : ℕ → Float) (lo hi : ℕ) (N : ℕ → Float) (a : ℕ) → lo ≤ a → a < hi → with_part f lo hi N a ≡ N a
unfolding with_part
with_part-in f lo hi N a h g = rw (le-leb lo a h, lt-ltb a hi g)

pub with_part-more : (f : ℕ → Float) (lo hi : ℕ) (N : ℕ → Float) → lo ≤ hi → put (with_part f lo hi N) hi (N hi) ≡ with_part f lo (hi + 1) N
unfolding with_part put
with_part-more f lo hi N h =
    fun_ext λ a.
    test (eqb a hi)
    (λ p. rw (p, eqb-true a hi p, le-leb lo hi h, lt-ltb hi (hi + 1) (omega arith)))
    (λ p. test (ltb a hi)
    (λ r. let l : a < hi = ltb-true a hi r in rw (p, r, lt-ltb a (hi + 1) (omega arith)))
    (λ r. let l : hi ≤ a = ltb-false a hi r in rw (p, r, le-ltb a (hi + 1) (omega (arith, eqb-false a hi p)))))

pub with_part-step : (f p q : ℕ → Float) (lo i : ℕ) (N : ℕ → Float) (v : Float) → lo ≤ i → p ≡ with_part f lo i N → v ≡ N i → q ≡ put p i v
    → q ≡ with_part f lo (i + 1) N
with_part-step f p q lo i N v h e n u = u ∙ rw (n, e) (with_part-more f lo i N h)

pub with_part-end : (f p : ℕ → Float) (lo hi i : ℕ) (N : ℕ → Float) → i ≤ hi → hi ≤ i → p ≡ with_part f lo i N → p ≡ with_part f lo hi N
with_part-end f p lo hi i N h l e = e ∙ ap (λ (k : ℕ). with_part f lo k N) (le_antisymm h l)

-- ---- a part of a vector that was lent from a to e, and is back as ys: for regions of one buffer

vec-back : (s : ℕ) (xs ys : List Float) → s ≤ length xs → (t : ℕ) → get_or (take s xs ++ ys) t nan ≡ cond (ltb t s) (get_or xs t nan) (get_or ys (t - s) nan)
vec-back s xs ys h t =
    let e : length (take s xs) ≡ s = length-take-le s xs h in
    test (ltb t s)
    (λ p. let l : t < s = ltb-true t s p in rw p (get_or-append (take s xs) ys nan t (omega arith) ∙ get_or-take s xs t nan l))
    (λ p. let l : s ≤ t = ltb-false t s p in rw p (ap (λ (k : ℕ). get_or (take s xs ++ ys) k nan) (omega arith) ∙ get_or-append-add (take s xs) ys (t - s) nan))

pub vec-put : (a e : ℕ) (xs ys : List Float) → a ≤ e → e ≤ length xs → length ys ≡ e - a
    → vec (put_mid a (e - a) xs ys) ≡ with_part (vec xs) a e (λ t. vec ys (t - a))
unfolding vec with_part
vec-put a e xs ys h l m =
    fun_ext λ t.
    vec-back a xs (ys ++ drop (e - a) (drop a xs)) (omega arith) t ∙
    test (ltb t a)
    (λ p. let u : t < a = ltb-true t a p in rw (p, lt-leb a t u))
    (λ p. let u : a ≤ t = ltb-false t a p in
    test (ltb t e)
    (λ q. let v : t < e = ltb-true t e q in rw (p, q, le-leb a t u) (get_or-append ys (drop (e - a) (drop a xs)) nan (t - a) (omega arith)))
    (λ q. let v : e ≤ t = ltb-false t e q in
    rw (p, q, no (leb a t))
    (ap (λ (k : ℕ). get_or (ys ++ drop (e - a) (drop a xs)) k nan) (omega arith)
    ∙ get_or-append-add ys (drop (e - a) (drop a xs)) (t - e) nan ∙ get_or-drop (e - a) (drop a xs) (t - e) nan ∙ get_or-drop a xs (e - a + (t - e)) nan
    ∙ ap (λ (k : ℕ). get_or xs k nan) (omega arith))))

pub vec-part : (a e : ℕ) (xs : List Float) (t : ℕ) → t < e - a → vec (mid_of a (e - a) xs) t ≡ vec xs (a + t)
unfolding vec
vec-part a e xs t l = get_or-take (e - a) (drop a xs) t nan l ∙ get_or-drop a xs t nan
