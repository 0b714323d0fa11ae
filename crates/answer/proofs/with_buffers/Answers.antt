-- `answer::with_buffers` meets its contract: each part holds zeros. Assumes nothing.
use mathlib.Core.Path.{refl}
use native.Mathlib.Omega.{arith}
use Rattle.model.specs.Scalar.{zero_f}
use Rattle.answer.proofs.Sizes.{part-clear, cleared-is}
use Rattle.answer.proofs.with_buffers.Goals as goal

pub returns : goal.returns
returns c = let few = c.requires.sizes.columns in
    let rows = c.requires.sizes.rows in
    let numbers = c.panel_size-numbers.ensures in
    let size = c.work_size-size.ensures in
    cleared-is c.args.c c.args.input.now (part-clear _ _ 1024 zero_f numbers.0 numbers.1) (part-clear _ _ 16 zero_f refl few)
    (part-clear _ _ 16 zero_f refl few) (part-clear _ _ 16 0 refl few) (part-clear _ _ 16 0 refl few) (part-clear _ _ 16 zero_f refl few)
    (part-clear _ _ 16 0 refl few) (part-clear _ _ 64 0 refl rows)
    (part-clear _ _ 64 0 c.saturating_sub-tail.ensures (omega arith)) (part-clear _ _ 3520 zero_f size.0 size.1) c.run.ensures
