-- What the program does to the bytes that its input has left and its output holds, where those are known.
-- `unread` is what the input had left, `left` what it has left then; `held` is what the output held, `holds` what it holds then.
-- Definitions only. Assumes nothing.
use Rattle.std.specs.Prelude.{ℕ, ◌+◌, ◌≤◌, List, length, IfSome, IsTrue}
use Rattle.std.specs.declared.option.Option.{Option}
use Rattle.std.specs.Io.KnownBytes.{Consumes, Appends}
use Rattle.record.specs.Record.{longest}
use Rattle.answer.specs.Lines.{printed}
use Rattle.node.specs.declared.Ran.{Ran}

-- some bytes are read, at most one more than the longest stream that asks for a factor; if all is taken, what is printed for them is written
abbrev pub AnswersPart : Option (List ℕ) → Option (List ℕ) → Option (List ℕ) → Option (List ℕ) → Ran → Type 0
AnswersPart unread left held holds ran =
    (stream : List ℕ) × (length stream ≤ longest + 1) × Consumes unread left stream
    × (IsTrue ran.taken → Appends held holds (printed stream))

-- if no read fails and all is taken, what is printed for all that the input had is written
abbrev pub AnswersAll : Option (List ℕ) → Option (List ℕ) → Option (List ℕ) → Ran → Type 0
AnswersAll unread held holds ran =
    IsTrue ran.sound → IsTrue ran.taken → IfSome unread (λ stream. Appends held holds (printed stream))
