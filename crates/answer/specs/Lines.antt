-- What the program prints for a stream of bytes. From docs/SCOPE.md, "The program node".
-- The lines are those of crates/lines. Definitions only. Assumes nothing.
use Rattle.std.specs.Prelude.{List, ℕ, ◌-◌, ◌*◌, replicate, Ok, Err}
use Rattle.model.specs.Scalar.{zero_f}
use Rattle.model.specs.Factor.{Buffers, Outcome, work_length, factor_of}
use Rattle.model.specs.declared.Settings.{Settings}
use Rattle.record.specs.Record.{Asked, fault_number, asked_of, panel_of}
use Rattle.lines.specs.Lines.{refused_line, said_lines}

-- buffers of the stated lengths, with zeros in them
unfoldable pub cleared : Settings → Buffers
cleared c = record {
  panel = replicate (c.nrow * c.ncol) zero_f;
  d = replicate c.ncol zero_f;
  sub = replicate c.ncol zero_f;
  blocks = replicate c.ncol 0;
  lifts = replicate c.ncol 0;
  amounts = replicate c.ncol zero_f;
  tests = replicate c.ncol 0;
  order = replicate c.nrow 0;
  marks = replicate (c.nrow - c.ncol) 0;
  work = replicate (work_length c.nrow c.nb) zero_f;
}

-- the lines of a factor call
unfoldable pub outcome_lines : Settings → Outcome → List ℕ
outcome_lines c o = said_lines o.answer c o.buffers

-- a stream that asks for no factor is refused with no place named
abbrev pub answered : Asked → List ℕ → List ℕ
answered (Err f) stream = refused_line (fault_number f) 0 0
answered (Ok c) stream = outcome_lines c (factor_of c (panel_of stream c) (cleared c))

-- all that is printed for a stream
unfoldable pub printed : List ℕ → List ℕ
printed stream = answered (asked_of stream) stream
