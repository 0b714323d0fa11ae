-- Laws of the slice kernels: a turn of each loop is one place more by its rule. Assumes nothing.
use Prim.Native.Nat.{ℕ, zero, suc, ◌+◌, ◌-◌, ◌<◌, ◌≤◌}
use mathlib.Core.Path.{◌≡◌, refl, sym, ◌∙◌, ap, fun_ext}
use mathlib.Core.List.{List}
use native.Mathlib.Omega.{arith}
use borrow.Author.Tests.{lt-leb, eqb-true}
use lib.Dec.{eqb}
use lib.ListN.{length, get_or, set, length-set}
use lib.Ieee.{Float, nan, binary64, add, sub, mul}
use Rattle.model.specs.Matrix.{Row, vec, put, with_part}
use Rattle.kernels.specs.Rules.{behind, ahead, less_all, less_runs, less_each, plus_times, plus_four, times, combined, blended}
use Rattle.kernels.proofs.Laws.{vec-set, with_part-none, with_part-past, with_part-before, with_part-step}
use Rattle.model.proofs.Cases.{test}

-- ---- any rule

pub rule-none : (f N : Row) (lo : ℕ) → f ≡ with_part f lo lo N
rule-none f N lo = sym (with_part-none f lo N)

-- a place that is not yet reached
pub reached : (f : Row) (xs : List Float) (i : ℕ) (N : Row) → vec xs ≡ with_part f 0 i N → get_or xs i nan ≡ f i
unfolding vec
reached f xs i N e = ap (λ (g : Row). g i) e ∙ with_part-past f 0 i N i (omega arith)

-- one store more
pub store : (f : Row) (xs : List Float) (i n len : ℕ) (N : Row) (v : Float) → i < n → n ≤ len → length xs ≡ len → vec xs ≡ with_part f 0 i N → v ≡ N i
    → vec (set xs i v) ≡ with_part f 0 (i + 1) N
store f xs i n len N v l h r e w = with_part-step f (vec xs) _ 0 i N v (omega arith) e w (vec-set xs i v (omega arith))

-- ---- a rule whose operands stand in the slice itself, before q

pub from-none : (f N : Row) (q : ℕ) → f ≡ with_part f q (q + 0) N
from-none f N q = sym (ap (λ (k : ℕ). with_part f q k N) (omega arith) ∙ with_part-none f q N)

-- a place that is not yet reached, and one before all that are written
reached-from : (f : Row) (xs : List Float) (q i : ℕ) (N : Row) → vec xs ≡ with_part f q (q + i) N → get_or xs (q + i) nan ≡ f (q + i)
unfolding vec
reached-from f xs q i N e = ap (λ (g : Row). g (q + i)) e ∙ with_part-past f q (q + i) N (q + i) (omega arith)

kept-before : (f : Row) (xs : List Float) (q hi a : ℕ) (N : Row) → vec xs ≡ with_part f q hi N → a < q → get_or xs a nan ≡ f a
unfolding vec
kept-before f xs q hi a N e h = ap (λ (g : Row). g a) e ∙ with_part-before f q hi N a h

store-from : (f : Row) (xs : List Float) (q i n len : ℕ) (N : Row) (v : Float) → i < n → q + n ≤ len → length xs ≡ len → vec xs ≡ with_part f q (q + i) N
    → v ≡ N (q + i) → vec (set xs (q + i) v) ≡ with_part f q (q + (i + 1)) N
store-from f xs q i n len N v l h r e w =
    with_part-step f (vec xs) _ q (q + i) N v (omega arith) e w (vec-set xs (q + i) v (omega arith)) ∙ ap (λ (k : ℕ). with_part f q k N) (omega arith)

-- ---- the kernels

-- a turn of the kernels that read runs of the slice itself: any number of them
pub all_same : (c : ℕ) (x y : Float) (s t m : ℕ → Float) → x ≡ y → ((u : ℕ) → u < c → s u ≡ t u) → less_all c x s m ≡ less_all c y t m
unfolding less_all
all_same zero x y s t m e h = e
all_same (suc c) x y s t m e h = rw (all_same c x y s t m e (λ u l. h u (omega arith)), h c (omega arith))

pub less-step : (c : ℕ) (f : Row) (xs : List Float) (q i n len : ℕ) (from : ℕ → ℕ) (m : ℕ → Float) (v : Float) → i < n
    → ((u : ℕ) → u < c → from u + n ≤ q) → q + n ≤ len → length xs ≡ len → vec xs ≡ with_part f q (q + i) (less_runs c f q from m)
    → v ≡ less_all c (get_or xs (q + i) nan) (λ u. get_or xs (from u + i) nan) m → vec (set xs (q + i) v) ≡ with_part f q (q + (i + 1)) (less_runs c f q from m)
unfolding less_runs
less-step c f xs q i n len from m v l h r e w g =
    store-from f xs q i n len _ _ l r e w
    (g ∙ all_same c _ _ _ _ m (reached-from f xs q i _ w)
    (λ u o. kept-before f xs q (q + i) (from u + i) _ w (omega (arith, h u o)) ∙ ap f (omega arith)))

pub less-each-step : (f : Row) (xs zs : List Float) (i n len : ℕ) → i < n → n ≤ len → length xs ≡ len → vec xs ≡ with_part f 0 i (less_each f (vec zs))
    → vec (set xs i (sub binary64 (get_or xs i nan) (get_or zs i nan))) ≡ with_part f 0 (i + 1) (less_each f (vec zs))
unfolding less_each vec
less-each-step f xs zs i n len l h r e = store f xs i n len _ _ l h r e (rw (reached f xs i _ e))

pub plus_step : (f : Row) (xs zs : List Float) (i n len : ℕ) (m : Float) → i < n → n ≤ len → length xs ≡ len → vec xs ≡ with_part f 0 i (plus_times f (vec zs) m)
    → vec (set xs i (add binary64 (get_or xs i nan) (mul binary64 (get_or zs i nan) m))) ≡ with_part f 0 (i + 1) (plus_times f (vec zs) m)
unfolding plus_times vec
plus_step f xs zs i n len m l h r e = store f xs i n len _ _ l h r e (rw (reached f xs i _ e))

pub plus-four-step : (f : Row) (xs zs ws us vs : List Float) (i n len : ℕ) (l0 l1 l2 l3 : Float) → i < n → n ≤ len → length xs ≡ len
    → vec xs ≡ with_part f 0 i (plus_four f (vec zs) (vec ws) (vec us) (vec vs) l0 l1 l2 l3)
    → vec (set xs i (add binary64
    (add binary64 (add binary64 (add binary64 (get_or xs i nan) (mul binary64 (get_or zs i nan) l0)) (mul binary64 (get_or ws i nan) l1))
    (mul binary64 (get_or us i nan) l2)) (mul binary64 (get_or vs i nan) l3)))
    ≡ with_part f 0 (i + 1) (plus_four f (vec zs) (vec ws) (vec us) (vec vs) l0 l1 l2 l3)
unfolding plus_four vec
plus-four-step f xs zs ws us vs i n len l0 l1 l2 l3 l h r e = store f xs i n len _ _ l h r e (rw (reached f xs i _ e))

pub times-step : (f : Row) (xs zs : List Float) (i n len : ℕ) (m : Float) → i < n → n ≤ len → length xs ≡ len → vec xs ≡ with_part f 0 i (times (vec zs) m)
    → vec (set xs i (mul binary64 (get_or zs i nan) m)) ≡ with_part f 0 (i + 1) (times (vec zs) m)
unfolding times vec
times-step f xs zs i n len m l h r e = store f xs i n len _ _ l h r e refl

pub times-own-step : (f : Row) (xs : List Float) (i n len : ℕ) (m : Float) → i < n → n ≤ len → length xs ≡ len → vec xs ≡ with_part f 0 i (times f m)
    → vec (set xs i (mul binary64 (get_or xs i nan) m)) ≡ with_part f 0 (i + 1) (times f m)
unfolding times
times-own-step f xs i n len m l h r e = store f xs i n len _ _ l h r e (rw (reached f xs i _ e))

pub combine-step : (f : Row) (xs zs ws : List Float) (i n len : ℕ) (p q r : Float) → i < n → n ≤ len → length xs ≡ len
    → vec xs ≡ with_part f 0 i (combined (vec zs) (vec ws) p q r)
    → vec (set xs i (mul binary64 (sub binary64 (mul binary64 p (get_or zs i nan)) (mul binary64 q (get_or ws i nan))) r))
    ≡ with_part f 0 (i + 1) (combined (vec zs) (vec ws) p q r)
unfolding combined vec
combine-step f xs zs ws i n len p q r l h o e = store f xs i n len _ _ l h o e refl

-- the slice's first i numbers by one rule, and as many from p on by another
both-none : (f N O : Row) (p : ℕ) → f ≡ with_part (with_part f 0 0 N) p (p + 0) O
both-none f N O p = rule-none f N 0 ∙ from-none (with_part f 0 0 N) O p

pub put-before : (f : Row) (i : ℕ) (v : Float) (lo hi : ℕ) (O : Row) → i < lo → put (with_part f lo hi O) i v ≡ with_part (put f i v) lo hi O
unfolding put with_part
put-before f i v lo hi O h =
    fun_ext λ a. test (eqb a i) (λ p. rw (p, lt-leb lo a (omega (arith, eqb-true a i p)))) (λ p. rw p)

both-step : (f : Row) (xs : List Float) (p i n len : ℕ) (N O : Row) (v w : Float) → i < n → n ≤ p → p + n ≤ len → length xs ≡ len
    → vec xs ≡ with_part (with_part f 0 i N) p (p + i) O → v ≡ N i → w ≡ O (p + i)
    → vec (set (set xs i v) (p + i) w) ≡ with_part (with_part f 0 (i + 1) N) p (p + (i + 1)) O
both-step f xs p i n len N O v w l g h r e ev ew =
    store-from (with_part f 0 (i + 1) N) (set xs i v) p i n len O w l h (length-set xs i v ∙ r)
    (vec-set xs i v (omega arith) ∙ ap (λ (z : Row). put z i v) e ∙ put-before (with_part f 0 i N) i v p (p + i) O (omega arith)
    ∙ ap (λ (z : Row). with_part z p (p + i) O) (with_part-step f (with_part f 0 i N) _ 0 i N v (omega arith) refl ev refl))
    ew

pub combine-own-none : (f : Row) (p : ℕ) (d11 d21 d22 r : Float)
    → f ≡ with_part (with_part f 0 0 (combined f (ahead p f) d22 d21 r)) p (p + 0) (combined f (behind p f) d11 d21 r)
combine-own-none f p d11 d21 d22 r = both-none f _ _ p

pub combine-own-step : (f : Row) (xs : List Float) (p i n len : ℕ) (d11 d21 d22 r : Float) → i < n → n ≤ p → p + n ≤ len → length xs ≡ len
    → vec xs ≡ with_part (with_part f 0 i (combined f (ahead p f) d22 d21 r)) p (p + i) (combined f (behind p f) d11 d21 r)
    → vec (set (set xs i (mul binary64 (sub binary64 (mul binary64 d22 (get_or xs i nan)) (mul binary64 d21 (get_or xs (p + i) nan))) r)) (p + i)
    (mul binary64 (sub binary64 (mul binary64 d11 (get_or xs (p + i) nan)) (mul binary64 d21 (get_or xs i nan))) r))
    ≡ with_part (with_part f 0 (i + 1) (combined f (ahead p f) d22 d21 r)) p (p + (i + 1)) (combined f (behind p f) d11 d21 r)
unfolding combined ahead behind
combine-own-step f xs p i n len d11 d21 d22 r l g h o e =
    let s : get_or xs i nan ≡ f i = kept-before _ xs p (p + i) i _ e (omega arith) ∙ with_part-past f 0 i _ i (omega arith) in
    let t : get_or xs (p + i) nan ≡ f (p + i) = reached-from _ xs p i _ e ∙ with_part-past f 0 i _ (p + i) (omega arith) in
    both-step f xs p i n len _ _ _ _ l g h o e
    (rw (s, t, ap f {x = i + p} {y = p + i} (omega arith)))
    (rw (s, t, ap f {x = p + i - p} {y = i} (omega arith)))

pub blend-step : (f : Row) (xs zs ws : List Float) (i n len : ℕ) (p q : Float) → i < n → n ≤ len → length xs ≡ len
    → vec xs ≡ with_part f 0 i (blended (vec zs) (vec ws) p q)
    → vec (set xs i (add binary64 (mul binary64 (get_or zs i nan) p) (mul binary64 (get_or ws i nan) q))) ≡ with_part f 0 (i + 1) (blended (vec zs) (vec ws) p q)
unfolding blended vec
blend-step f xs zs ws i n len p q l h o e = store f xs i n len _ _ l h o e refl
