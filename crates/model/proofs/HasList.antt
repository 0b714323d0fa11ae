-- What an accepted factor call leaves has a list of LAPACK's: its order and block bytes are what a walk from LAPACK makes (proofs/Walked.antt), and every such
-- walk can be gone back. Assumes nothing.
use Rattle.std.specs.Prelude.{take}
use mathlib.Core.Path.{◌≡◌, refl, ◌∙◌, ap}
use mathlib.Core.List.{List, ◌∷◌}
use Prim.Native.Nat.{ℕ, zero, suc, ◌≤◌}
use native.Mathlib.Omega.{arith}
use borrow.Author.Tests.{eqb-true}
use lib.Dec.{eqb}
use lib.ListN.{length}
use Rattle.model.specs.Matrix.{tabulate_from, tabulate}
use Rattle.model.specs.Factor.{Outcome}
use Rattle.model.specs.Independence.{outcome_of}
use Rattle.model.specs.Lapack.{Listed}
use Rattle.model.specs.ForthAndBack.{RefusedForTheLengthAlone}
use Rattle.model.proofs.Cases.{test}
use Rattle.model.proofs.Entry.{Passed, passed as entry-passed}
use Rattle.model.proofs.Accepted.{Accepted, accepted-is, accepted-leaves, accepted-kept}
use Rattle.model.proofs.Walked.{walked-made}
use Rattle.model.proofs.ForthAndBack.{made-again, length-refused}

-- a tabulated list's first places
take-tabulated : {A : Type 0} (i n m : ℕ) (f : ℕ → A) → n ≤ m → take n (tabulate_from i m f) ≡ tabulate_from i n f
unfolding tabulate_from
take-tabulated i zero m f h = refl
take-tabulated i (suc n) zero f h = absurd (omega arith)
take-tabulated {A = A} i (suc n) (suc m) f h = ap (λ (xs : List A). f i ∷ xs) (take-tabulated (suc i) n m f (omega arith))

pub refused-for-the-length-alone : RefusedForTheLengthAlone
refused-for-the-length-alone x r list e =
    let w : Accepted x = accepted-is x r e in
    let n = x.settings.ncol in
    let p : Passed x.settings x.input x.lent = entry-passed x.settings x.input x.lent w.entry in
    let k = accepted-kept x w in
    let order : take n (outcome_of x).buffers.order ≡ tabulate n w.state.pivots.notes.order
    = ap (λ (o : Outcome). take n o.buffers.order) (accepted-leaves x w) ∙ take-tabulated 0 n x.settings.nrow w.state.pivots.notes.order p.head in
    let bytes : (outcome_of x).buffers.blocks ≡ tabulate n w.state.pivots.diagonals.blocks = ap (λ (o : Outcome). o.buffers.blocks) (accepted-leaves x w) in
    rw (order, bytes)
    (test (eqb (length list) n)
    (λ t. rw t (ap (λ (l : Listed). l.answer) (made-again n k.walked.list _ list p.few_columns (eqb-true (length list) n t) (walked-made n _ _ k.walked))))
    (λ t. rw t (length-refused n _ _ list p.few_columns t)))
