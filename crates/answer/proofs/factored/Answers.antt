-- `answer::factored` meets its contract: the panel has a place in the array. Assumes nothing.
use Rattle.record.proofs.Laws.{asked-sizes}
use Rattle.answer.proofs.factored.Goals as goal

pub panel_size-numbers-requires : goal.panel_size-numbers-requires
panel_size-numbers-requires c =
    let sizes = asked-sizes c.args.stream.now c.args.c c.requires.stream_value in
    (sizes.rows, sizes.columns)
