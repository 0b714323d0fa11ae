-- `little_endian::pattern_of` meets its contract: a not-a-number has one pattern. Assumes nothing.
use Rattle.little_endian.proofs.Laws.{nan_pattern}
use Rattle.little_endian.proofs.pattern_of.Goals as goal

pub returns-then-is_nan : goal.returns-then-is_nan
returns-then-is_nan c = nan_pattern _ _ c.is_nan.ensures.value c.if-is_nan.true
