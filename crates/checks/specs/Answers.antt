-- What an assembly or an update leaves by its answer. Definitions only. Assumes nothing.
use Rattle.std.specs.Prelude.{List, Float}
use Rattle.model.specs.Assembly.{Panelled}
use Rattle.model.specs.Answer.{Applied, applied_says}

-- the answer and the panel at the end
abbrev pub leaves : Applied → List Float → Panelled
leaves r panel = record { answer = applied_says r; panel = panel }
