-- `several::less_of` meets its contract: the kernel's runs are the first rows of columns. Assumes nothing.
use Rattle.several.proofs.Columns.{columns-of}
use Rattle.several.proofs.less_of.Goals as goal

pub returns : goal.returns
returns g c =
    columns-of _ _ _ _ _ _ _ _ c.requires.columns_pre c.places-from.ensures c.places-to.ensures _ _ _ c.runs_less.ensures
