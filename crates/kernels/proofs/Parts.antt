-- Laws of a part of a slice that was lent to a kernel and is back. Assumes nothing.
use Prim.Native.Nat.{ℕ, ◌+◌, ◌-◌, ◌<◌, ◌≤◌}
use mathlib.Core.Path.{◌≡◌, ◌∙◌, ap, fun_ext}
use mathlib.Core.List.{List}
use native.Mathlib.Omega.{arith}
use borrow.Author.Tests.{lt-ltb, le-ltb, le-leb, lt-leb, ltb-true, ltb-false, leb-true}
use lib.Dec.{ltb, leb}
use lib.ListN.{length, get_or, drop, replicate, length-drop, length-replicate, get_or-replicate}
use lib.Seq.{length-take-le}
use borrow.Rule.Slice.PartMut.{mid_of, put_mid}
use lib.Ieee.{Float, nan}
use Rattle.model.specs.Scalar.{zero_f}
use Rattle.model.specs.Matrix.{Row, vec, with_part}
use Rattle.kernels.specs.Rules.{behind, zeroed}
use Rattle.kernels.proofs.Laws.{vec-put, vec-part}
use Rattle.model.proofs.Cases.{test, no}

-- places lo up to hi as they are lent, and the slice with them back as ys
abbrev pub part : List Float → ℕ → ℕ → List Float
part xs lo hi = mid_of lo (hi - lo) xs

abbrev pub back : List Float → ℕ → ℕ → List Float → List Float
back xs lo hi ys = put_mid lo (hi - lo) xs ys

-- how many are lent
pub mid-count : (a e : ℕ) (xs : List Float) → a ≤ e → e ≤ length xs → length (mid_of a (e - a) xs) ≡ e - a
mid-count a e xs h l = length-take-le (e - a) (drop a xs) (omega (arith, length-drop a xs))

-- ---- by a rule of the part's own index

-- a place that was written by a rule of the part's own index
pub back_at : (ys : List Float) (f N' N : Row) (lo hi a : ℕ) → lo ≤ a → a < hi → vec ys ≡ with_part f 0 (hi - lo) N' → ((t : ℕ) → t < hi - lo
    → N' t ≡ N (lo + t)) → vec ys (a - lo) ≡ N a
unfolding with_part
back_at ys f N' N lo hi a l g e same =
    ap (λ (g : Row). g (a - lo)) e ∙ rw (le-leb 0 (a - lo) (omega arith), lt-ltb (a - lo) (hi - lo) (omega arith)) (same (a - lo) (omega arith)
    ∙ ap N (omega arith))

-- two rules that agree on the part
pub part_same : (f : Row) (lo hi : ℕ) (N O : Row) → ((a : ℕ) → lo ≤ a → a < hi → N a ≡ O a) → with_part f lo hi N ≡ with_part f lo hi O
unfolding with_part
part_same f lo hi N O h =
    fun_ext λ a.
    test (leb lo a) (λ p. test (ltb a hi) (λ q. rw (p, q) (h a (leb-true lo a p) (ltb-true a hi q))) (λ q. rw (p, q))) (λ p. rw p)

pub part-lent : (xs ys : List Float) (lo hi : ℕ) (f N' N : Row) → lo ≤ hi → hi ≤ length xs
    → length ys ≡ length (part xs lo hi) → vec ys ≡ with_part f 0 (hi - lo) N' → ((t : ℕ) → t < hi - lo → N' t ≡ N (lo + t))
    → vec (back xs lo hi ys) ≡ with_part (vec xs) lo hi N
part-lent xs ys lo hi f N' N u h ly e same =
    vec-put lo hi xs ys u h (ly ∙ mid-count lo hi xs u h) ∙ part_same (vec xs) lo hi _ N (λ a l g. back_at ys f N' N lo hi a l g e same)

pub zero-lent : (xs ys : List Float) (lo hi : ℕ) → lo ≤ hi → hi ≤ length xs → ys ≡ replicate (length (part xs lo hi)) zero_f
    → vec (back xs lo hi ys) ≡ with_part (vec xs) lo hi zeroed
unfolding zeroed vec
zero-lent xs ys lo hi u h e =
    let m : length (part xs lo hi) ≡ hi - lo = mid-count lo hi xs u h in
    vec-put lo hi xs ys u h (ap length e ∙ length-replicate (length (part xs lo hi)) zero_f ∙ m)
    ∙ part_same (vec xs) lo hi _ _ (λ a l g. ap (λ (zs : List Float). get_or zs (a - lo) nan) e
    ∙ get_or-replicate (length (part xs lo hi)) (a - lo) zero_f nan (omega arith))

-- ---- runs within the lent part

-- two runs, the lent part's first and its last, written there and not between them
pub runs-back : (xs ys : List Float) (a b x e : ℕ) (N' O' : Row) → a ≤ b → b ≤ x → x ≤ e → e ≤ length xs → length ys ≡ length (part xs a e)
    → vec ys ≡ with_part (with_part (vec (part xs a e)) 0 (b - a) N') (x - a) (x - a + (e - x)) O'
    → vec (back xs a e ys) ≡ with_part (with_part (vec xs) a b (behind a N')) x e (behind a O')
unfolding with_part behind
runs-back xs ys a b x e N' O' h g m l ly w =
    vec-put a e xs ys (omega arith) l (ly ∙ mid-count a e xs (omega arith) l)
    ∙ fun_ext λ t.
    test (ltb t a)
    (λ p. let u : t < a = ltb-true t a p in rw (lt-leb a t u, lt-leb x t (omega arith)))
    (λ p. let u : a ≤ t = ltb-false t a p in
    rw (le-leb a t u)
    (test (ltb t e)
    (λ q. let v : t < e = ltb-true t e q in
    rw q (ap (λ (z : Row). z (t - a)) w ∙
    test (ltb t x)
    (λ r. let o : t < x = ltb-true t x r in
    rw (lt-leb x t o, lt-leb (x - a) (t - a) (omega arith), le-leb 0 (t - a) (omega arith))
    (test (ltb t b)
    (λ z. rw (z, lt-ltb (t - a) (b - a) (omega (arith, ltb-true t b z))))
    (λ z. rw (z, le-ltb (t - a) (b - a) (omega (arith, ltb-false t b z))) (vec-part a e xs (t - a) (omega arith) ∙ ap (vec xs) (omega arith)))))
    (λ r. let o : x ≤ t = ltb-false t x r in
    rw (le-leb x t o, le-leb (x - a) (t - a) (omega arith), lt-ltb (t - a) (x - a + (e - x)) (omega arith)))))
    (λ q. let v : e ≤ t = ltb-false t e q in rw (q, le-ltb t b (omega arith), no (leb x t)))))

-- their bounds by other names; and a single run's
pub runs_same : (f N O : Row) (p q p' q' q'' : ℕ) → p ≡ p' → q ≡ q' → q ≡ q''
    → with_part (with_part f 0 q N) p (p + q) O ≡ with_part (with_part f 0 q' N) p' (p' + q'') O
runs_same f N O p q p' q' q'' g h i = cc

pub part-bounds : (f N : Row) (a b a' b' : ℕ) → a ≡ a' → b ≡ b' → with_part f a b N ≡ with_part f a' b' N
part-bounds f N a b a' b' g h = cc
