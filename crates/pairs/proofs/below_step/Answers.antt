-- `pairs::below_step` meets its contract: the exchange, the sweep and the own columns make the model's rows. Assumes nothing.
use Rattle.pairs.proofs.Rows.{step-rows}
use Rattle.pairs.proofs.below_step.Goals as goal

pub returns : goal.returns
returns c =
    step-rows _ _ _ _ _ _ _ _ _ _ _ _ c.is_block-block.ensures c.last_column-last.ensures c.exchange.ensures c.sweep_first.ensures
    c.own_columns.ensures
