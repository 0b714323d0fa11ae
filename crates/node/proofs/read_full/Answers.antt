-- One more read puts what it took behind what had been read.
use Rattle.std.proofs.Common.{◌≡◌, ℕ, ◌+◌, ◌-◌, ◌≤◌, List, ◌++◌, rules, length, take, sym, ap, ◌∙◌, subst, length-take-le}
use Rattle.std.proofs.Math.Seq.{take-append-add, take-append-le}
use Rattle.std.specs.Io.KnownBytes.{Consumes}
use Rattle.std.proofs.KnownBytes.{Consumes-trans}
use borrow.Rule.Slice.PartMut.{put_mid, post_of}
use Rattle.node.proofs.read_full.Goals as goal

put-take : (at k n : ℕ) (place got : List ℕ) → at ≤ length place → n ≤ length got → take at place ++ take n got ≡ take (at + n) (put_mid at k place got)
put-take at k n place got h l =
    let front = take at place in
    let past = post_of at k place in
    sym (ap (λ m. take (m + n) (front ++ (got ++ past))) (sym (length-take-le at place h)) ∙ take-append-add front (got ++ past) n ∙ ap (λ r. front ++ r) (take-append-le n got past l))

pub loop-done-preserved : goal.loop-done-preserved
loop-done-preserved g c =
    let at = c.loop-done.done in
    let joined = put-take at (length c.loop-done.place - at) c.in-Ok.n c.loop-done.place c.read.new.buf c.loop-done.invariant.1 c.in-Ok.ensures.bound.0 in
    (search rules, search rules, subst (Consumes _ _) joined (Consumes-trans _ _ _ _ _ c.loop-done.invariant.2 c.in-Ok.ensures.bytes.0))
