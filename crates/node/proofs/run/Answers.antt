-- Where no read fails, what was read prints what all that the input had prints (`printed-prefix` of crate answer).
use Rattle.std.proofs.Common.{◌≡◌, ℕ, ◌+◌, ◌<◌, ◌≤◌, List, [], ◌++◌, None, Some, ⊎_elim, arith, length, take, sym, ap, ◌∙◌, subst, append-nil, take_all, length-take-le}
use Rattle.std.proofs.Math.Seq.{take-append_seam}
use Rattle.std.proofs.lemmas.Bool.{cases_lt}
use Rattle.std.specs.Prelude.{IfSome}
use Rattle.std.specs.declared.option.Option.{Option}
use Rattle.std.specs.Io.KnownBytes.{Consumes, Appends, IsAtEnd}
use Rattle.record.specs.Record.{longest}
use Rattle.answer.specs.Lines.{printed}
use Rattle.answer.proofs.Calls.{printed-prefix}
use Rattle.node.proofs.run.Goals as goal

-- what was read is the first n bytes of what there was
first-read : (n : ℕ) (s rest : List ℕ) → length s ≤ n → (length s < n → rest ≡ []) → s ≡ take n (s ++ rest)
first-read n s rest most end =
    ⊎_elim
    (λ (short : length s < n). sym (ap (λ l. take n (s ++ l)) (end short) ∙ ap (take n) (append-nil s) ∙ take_all n s most))
    (λ (full : n ≤ length s).
    let same : length s ≡ n = omega arith in
    sym (ap (λ m. take m (s ++ rest)) (sym same) ∙ take-append_seam s rest))
    (cases_lt (length s) n)

printed-whole : (unread left held holds : Option (List ℕ)) (s out : List ℕ) → length s ≤ longest + 1 → Consumes unread left s
    → (length s < longest + 1 → IsAtEnd left) → out ≡ printed s → Appends held holds out
    → IfSome unread (λ xs. Appends held holds (printed xs))
printed-whole None left held holds s out most read end e w = tt
printed-whole (Some xs) None held holds s out most read end e w = absurd read
printed-whole (Some xs) (Some rest) held holds s out most read end e w =
    let whole : s ≡ take (longest + 1) xs = first-read (longest + 1) s rest most end ∙ ap (take (longest + 1)) (sym read) in
    subst (Appends held holds) (e ∙ ap printed whole ∙ sym (printed-prefix xs)) w

pub returns-clause-all : goal.returns-clause-all
returns-clause-all g c =
    let place = c.read_full-read.new.place in
    let bytes = c.read_full-read.result.bytes in
    let long : length (take bytes place) ≡ bytes = length-take-le bytes place c.read_full-read.ensures.in_bounds in
    λ sound taken.
    printed-whole _ _ _ _ (take bytes place) _
    (omega arith)
    c.read_full-read.ensures.bytes
    (λ short. c.read_full-read.ensures.end sound (omega arith))
    c.respond-text.ensures
    (c.print.ensures taken)
