-- `pairs::below_pair` meets its contract: the exchanges, the sweeps and the own columns make the model's rows. Assumes nothing.
use mathlib.Core.Path.{refl, ◌∙◌}
use native.Mathlib.Omega.{arith}
use Rattle.pairs.proofs.Calls.{first-exchange, first-sweep, first-own, first_fits}
use Rattle.pairs.proofs.Rows.{pair-rows}
use Rattle.pairs.proofs.below_pair.Goals as goal

pub exchange-requires : goal.exchange-requires
exchange-requires c = first-exchange c.requires.pair_pre _ refl _ c.requires.kp_lt_columns

pub sweep_first-requires : goal.sweep_first-requires
sweep_first-requires c =
    first-sweep c.requires.pair_pre _ (c.exchange-2.auto.panel ∙ c.exchange.auto.panel) _ c.is_block.ensures

pub own_columns-requires : goal.own_columns-requires
own_columns-requires c =
    record {
      rows_pre =
          first-own c.requires.pair_pre _ (c.sweep_both.auto.part ∙ c.sweep_first.auto.part ∙ c.exchange-2.auto.panel ∙ c.exchange.auto.panel);
      fits = first_fits _;
    }

pub returns : goal.returns
returns c = let pre = c.requires.pair_pre in
    pair-rows _ _ _ _ _ _ _ _ _ _ _ _ _ _ _ _ _ _ _ _ c.is_block.ensures c.is_block-2.ensures (omega (arith, pre.next)) pre.next
    pre.last pre.reach pre.row c.exchange.ensures c.exchange-2.ensures c.sweep_first.ensures c.sweep_both.ensures c.own_columns.ensures
    c.own_columns-2.ensures
