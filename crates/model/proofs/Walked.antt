-- A record of pivots whose blocks leave their first rows in place is what a walk from LAPACK makes of some list. Assumes nothing.
use Rattle.std.specs.Prelude.{ℤ, pos, unsigned_abs, Ok}
use mathlib.Core.Path.{◌≡◌, refl, sym, ◌∙◌, ap}
use mathlib.Core.Bool.{Bool, true}
use Prim.Native.Nat.{ℕ, suc, ◌+◌, ◌-◌, ◌≤◌, ◌<◌}
use native.Mathlib.Omega.{arith}
use Rattle.model.specs.Matrix.{swapped}
use Rattle.model.specs.Head.{last_of}
use Rattle.model.specs.Lapack.{number_of, is_negative, walk, with_number, pivot_read, arranged_of}
use Rattle.model.proofs.Recorded.{last-from, last_block, step_bytes}
use Rattle.model.proofs.Walk.{walk-fuel}
use Rattle.model.proofs.Lapack.{negative-number, size-number, Faultless, read-past, read-up}
use Rattle.model.proofs.Forth.{with-number-before, with-number-in, pivot-is}

-- up to column k of n the rows and the block bytes are what a walk makes, of any list that agrees with this one on the columns before k
pub record Walked (n k : ℕ) (rows blocks : ℕ → ℕ) : Type 0 where
  pub list : ℕ → ℤ
  pub reads : (l : ℕ → ℤ) → ((i : ℕ) → i < k → l i ≡ list i) → arranged_of n l ≡ walk n (pivot_read n l) (n - k) k (record { rows = rows; blocks = blocks })

pub none-walked : (n : ℕ) → Walked n 0 (λ i. i) (λ i. 0)
none-walked n = record {
  list = λ i. pos 0;
  reads = λ l h. ap (λ (m : ℕ). walk n (pivot_read n l) m 0 (record { rows = λ i. i; blocks = λ i. 0 })) (omega arith);
}

-- a pivot more, whose last column is exchanged with p
pub step-walked : (n k : ℕ) (rows blocks : ℕ → ℕ) (block : Bool) (p : ℕ) → last_of k block < n → last_of k block ≤ p → p < n → Walked n k rows blocks
    → Walked n (last_of k block + 1) (swapped rows (last_of k block) p) (step_bytes blocks k block)
step-walked n k rows blocks block p h f g w = record { list = with_number w.list k (last_of k block) (number_of block p); reads = reads }
  where
    e : ℕ
    e = last_of k block

    reads : (l : ℕ → ℤ) → ((i : ℕ) → i < e + 1 → l i ≡ with_number w.list k e (number_of block p) i)
        → arranged_of n l ≡ walk n (pivot_read n l) (n - (e + 1)) (e + 1) (record { rows = swapped rows e p; blocks = step_bytes blocks k block })
    reads l same =
        let far : k ≤ e = last-from k block in
        let own : l k ≡ number_of block p = same k (omega arith) ∙ with-number-in w.list k block (number_of block p) k (omega arith) far in
        let sign : is_negative (l k) ≡ block = ap is_negative own ∙ negative-number block p in
        let size : unsigned_abs (l k) ≡ p + 1 = ap unsigned_abs own ∙ size-number block p in
        let faultless : Faultless n l k
        = record { pair = λ y. two own (sym sign ∙ y); low = rw sign (omega arith); high = omega arith } in
        let count : n - k ≡ suc (n - (k + 1)) = omega arith in
        w.reads l (λ i o. same i (omega arith) ∙ with-number-before w.list k block (number_of block p) i o)
        ∙ ap (λ (m : ℕ). walk n (pivot_read n l) m k (record { rows = rows; blocks = blocks })) count
        ∙ read-past n l (n - (k + 1)) k (record { rows = rows; blocks = blocks }) (omega arith) faultless
        ∙ rw (sign, pivot-is rows blocks k (l k) block p sign size) refl
        ∙ walk-fuel n (pivot_read n l) (read-up n l) (n - (k + 1)) (n - (e + 1)) (e + 1) _ (omega arith) (omega arith)
      where
        two : l k ≡ number_of block p → block ≡ true → (k + 1 < n) × (l (k + 1) ≡ l k)
        two own y = (
          omega (arith, last_block k block y),
          same (k + 1) (omega (arith, last_block k block y))
              ∙ with-number-in w.list k block (number_of block p) (k + 1) (omega arith) (omega (arith, last_block k block y))
              ∙ sym own,
        )

-- at the end it is the walk's own
pub walked-made : (n : ℕ) (rows blocks : ℕ → ℕ) (w : Walked n n rows blocks) → arranged_of n w.list ≡ Ok (record { rows = rows; blocks = blocks })
unfolding walk
walked-made n rows blocks w =
    let none : n - n ≡ 0 = omega arith in
    w.reads w.list (λ i h. refl) ∙ ap (λ (m : ℕ). walk n (pivot_read n w.list) m n (record { rows = rows; blocks = blocks })) none
