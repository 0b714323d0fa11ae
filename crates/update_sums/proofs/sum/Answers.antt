-- What `update_sums::sum` owes. Assumes nothing.
use mathlib.Core.Path.{◌≡◌}
use Prim.Native.Nat.{◌+◌, ◌*◌}
use native.Mathlib.Omega.{arith}
use Rattle.update_sums.proofs.Numbers.{sum-weight, sum_rows, sums_none, sums-two, sums-even, sums-odd}
use borrow.Author.Rules.{rules}
use Rattle.update_sums.proofs.sum.Goals as goal

pub loop-pair-init : goal.loop-pair-init
loop-pair-init c = (search rules, sums_none c.args.k _ _ _ _ _ c.zero.ensures)

pub weight-v-requires : goal.weight-v-requires
weight-v-requires c = sum-weight c.args.k _ _ _ _ _ c.requires (omega arith)

pub weight-w-requires : goal.weight-w-requires
weight-w-requires c = sum-weight c.args.k _ _ _ _ _ c.requires (omega arith)

pub add_two-requires-clause-rows_pre : goal.add_two-requires-clause-rows_pre
add_two-requires-clause-rows_pre c = sum_rows c.args.k _ _ _ _ _ c.requires (omega arith)

pub add_two-requires-clause-rows_pre_2 : goal.add_two-requires-clause-rows_pre_2
add_two-requires-clause-rows_pre_2 c = sum_rows c.args.k _ _ _ _ _ c.requires (omega arith)

pub loop-pair-preserved : goal.loop-pair-preserved
loop-pair-preserved c = (
  search rules,
  sums-two c.args.k _ _ _ _ _ _ _ _ _ c.weight-v.ensures c.weight-w.ensures c.loop-pair.invariant.1 c.add_two.ensures,
)

pub weight-v-requires-then-k-eq1 : goal.weight-v-requires-then-k-eq1
weight-v-requires-then-k-eq1 c = sum-weight c.args.k _ _ _ _ _ c.requires (omega arith)

pub returns-then-k-eq1 : goal.returns-then-k-eq1
returns-then-k-eq1 c =
    let odd : 2 * c.loop-pair.pair + 1 ≡ c.args.k.columns = omega arith in
    sums-odd c.args.k _ _ _ _ _ _ _ _ _ c.zero.ensures c.loop-pair.invariant.1 odd c.weight-v-then-k-eq1.ensures c.add_column.ensures

pub returns-else-k-eq1 : goal.returns-else-k-eq1
returns-else-k-eq1 c =
    let even : 2 * c.loop-pair.pair ≡ c.args.k.columns = omega arith in
    sums-even c.args.k _ _ _ _ _ _ _ c.zero.ensures c.loop-pair.invariant.1 even
