-- Laws of the kernels and of parts of the vector that are lent to them: one place more, one column, four columns. Assumes nothing.
use Prim.Native.Nat.{ℕ, ◌+◌, ◌-◌, ◌*◌, ◌<◌, ◌≤◌}
use mathlib.Core.Path.{◌≡◌, refl, sym, ◌∙◌, ap}
use mathlib.Core.List.{List, [], ◌∷◌}
use native.Mathlib.Omega.{arith}
use lib.ListN.{length, get_or, set}
use lib.Ieee.{Float, nan}
use Rattle.model.specs.Scalar.{◌⊖◌, ◌⊗◌}
use Rattle.model.specs.Matrix.{Row, column_start, view, vec, naturals, with_part}
use Rattle.model.specs.Step.{past_of}
use Rattle.kernels.specs.Rules.{less_all}
use Rattle.kernels.proofs.Laws.{vec-part}
use Rattle.kernels.proofs.Rules.{store, reached, all_same}
use Rattle.kernels.proofs.Parts.{part, back, mid-count, part-lent}
use Rattle.grid.proofs.Laws.{col-in, view-at}
use Rattle.forward.specs.Forward.{less_of, column_lost, four_lost, LessPre, ColumnPre, BelowPre}

-- one place more, whatever the number of columns
pub less-step : (c : ℕ) (f : Row) (xs gs : List Float) (i n len : ℕ) (from : ℕ → ℕ) (m : ℕ → Float) (v : Float) → i < n → n ≤ len → length xs ≡ len
    → vec xs ≡ with_part f 0 i (less_of c f (vec gs) from m) → v ≡ less_all c (get_or xs i nan) (λ u. get_or gs (from u + i) nan) m
    → vec (set xs i v) ≡ with_part f 0 (i + 1) (less_of c f (vec gs) from m)
unfolding less_of vec
less-step c f xs gs i n len from m v l h r e g =
    store f xs i n len _ _ l h r e (g ∙ all_same c _ _ _ _ m (reached f xs i _ e) (λ u o. refl))

-- ---- where columns stand in a panel of n rows and columns

-- rows lo up to hi of column k are there
rows-there : (n k lo hi s len : ℕ) → s ≡ lo + column_start n k → len ≡ n * n → k < n → lo ≤ hi → hi ≤ n → s + (hi - lo) ≤ len
rows-there n k lo hi s len a e h l g = omega (arith, col-in n n k len e h)

pub one-pre : (blocks : List ℕ) (ys : List Float) (n k lo hi s len : ℕ) → ColumnPre blocks n k hi len → n ≡ length ys → lo ≡ past_of (naturals blocks) k
    → s ≡ column_start n k → LessPre 1 (hi - lo) (naturals ((lo + s) ∷ [])) (length (part ys lo hi)) len
unfolding naturals
one-pre blocks ys n k lo hi s len w en el es = record {
  out = omega (arith, mid-count lo hi ys (omega (arith, w.past)) (omega (arith, w.rows)));
  runs = λ u o. let first : u ≡ 0 = omega arith in
      rw first (rows-there n k lo hi (lo + s) len (omega arith) w.area w.column (omega (arith, w.past)) w.rows);
}

pub four-pre : (ys : List Float) (k lo len : ℕ) (from : ℕ → ℕ) → BelowPre (length ys) k lo len
    → ((u : ℕ) → u < 4 → from u ≡ lo + column_start (length ys) (k + u)) → LessPre 4 (length ys - lo) from (length (part ys lo (length ys))) len
four-pre ys k lo len from w e =
    let n = length ys in
    record {
      out = omega (arith, mid-count lo n ys w.rows (omega arith));
      runs = λ u o. rows-there n (k + u) lo n (from u) len (e u o) w.area (omega (arith, w.columns)) w.rows (omega arith);
    }

-- ---- parts that are lent

-- what a kernel reads of column k from row lo on
read-from : (gs : List Float) (n k lo s t : ℕ) → lo + t < n → s ≡ lo + column_start n k → vec gs (s + t) ≡ view n gs (lo + t) k
unfolding vec
read-from gs n k lo s t h e = ap (λ (p : ℕ). get_or gs p nan) (omega arith) ∙ sym (view-at n gs (lo + t) k h)

pub column-lent : (blocks : List ℕ) (xs ys gs : List Float) (k lo hi s len : ℕ) → ColumnPre blocks (length xs) k hi len → lo ≡ past_of (naturals blocks) k
    → s ≡ column_start (length xs) k → length ys ≡ length (part xs lo hi)
    → vec ys ≡ with_part (vec (part xs lo hi)) 0 (hi - lo) (less_of 1 (vec (part xs lo hi)) (vec gs) (naturals ((lo + s) ∷ [])) (vec (vec xs k ∷ [])))
    → vec (back xs lo hi ys) ≡ column_lost (naturals blocks) (view (length xs) gs) hi k (vec xs)
unfolding column_lost less_of less_all naturals vec
column-lent blocks xs ys gs k lo hi s len w el es ly e =
    let n = length xs in
    let lost : Row = λ i. vec xs i ⊖ view n gs i k ⊗ vec xs k in
    part-lent xs ys lo hi _ _ lost (omega (arith, w.past)) w.rows ly e
    (λ t h. rw (vec-part lo hi xs t h, read-from gs n k lo (lo + s) t (omega (arith, w.rows)) (omega arith)))
    ∙ ap (λ (q : ℕ). with_part (vec xs) q hi lost) el

pub four-lent : (xs ys gs : List Float) (k lo len : ℕ) (from : ℕ → ℕ) → BelowPre (length xs) k lo len
    → ((u : ℕ) → u < 4 → from u ≡ lo + column_start (length xs) (k + u)) → length ys ≡ length (part xs lo (length xs))
    → vec ys ≡ with_part (vec (part xs lo (length xs))) 0 (length xs - lo)
    (less_of 4 (vec (part xs lo (length xs))) (vec gs) from (vec (vec xs k ∷ vec xs (k + 1) ∷ vec xs (k + 2) ∷ vec xs (k + 3) ∷ [])))
    → vec (back xs lo (length xs) ys) ≡ four_lost (view (length xs) gs) lo (length xs) k (vec xs)
unfolding four_lost less_of less_all vec
four-lent xs ys gs k lo len from w a ly e =
    let n = length xs in
    let z : k + 0 ≡ k = omega arith in
    part-lent xs ys lo n _ _ (λ i. less_all 4 (vec xs i) (λ u. view n gs i (k + u)) (λ u. vec xs (k + u))) w.rows (omega arith) ly e
    (λ t h. all_same 4 (vec (part xs lo n) t) (vec xs (lo + t)) (λ u. vec gs (from u + t)) (λ u. view n gs (lo + t) (k + u))
    (vec (vec xs k ∷ vec xs (k + 1) ∷ vec xs (k + 2) ∷ vec xs (k + 3) ∷ [])) (vec-part lo n xs t h)
    (λ u o. read-from gs n (k + u) lo (from u) t (omega arith) (a u o)) ∙ rw z)
