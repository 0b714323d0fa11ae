-- What stays lent after one call stays lent after the next: for the record of pivots and for the ten buffers. Assumes nothing.
use mathlib.Core.Path.{◌∙◌}
use Rattle.std.specs.Prelude.{List}
use Rattle.std.specs.Borrow.{MutBor}
use Rattle.model.specs.Step.{StaysLent, SameRecord}
use Rattle.model.specs.declared.PivotRecord.{PivotRecord}

pub stays-then : {A : Type 0} (x y z : MutBor (List A)) → StaysLent x y → StaysLent y z → StaysLent x z
stays-then x y z f g = record { name = g.name ∙ f.name; count = g.count ∙ f.count }

pub record-then : (x y z : PivotRecord) → SameRecord x y → SameRecord y z → SameRecord x z
record-then x y z f g =
    record {
      d = stays-then x.d y.d z.d f.d g.d;
      sub = stays-then x.sub y.sub z.sub f.sub g.sub;
      blocks = stays-then x.blocks y.blocks z.blocks f.blocks g.blocks;
      partners = stays-then x.partners y.partners z.partners f.partners g.partners;
      lifts = stays-then x.lifts y.lifts z.lifts f.lifts g.lifts;
      amounts = stays-then x.amounts y.amounts z.amounts f.amounts g.amounts;
      tests = stays-then x.tests y.tests z.tests f.tests g.tests;
      order = stays-then x.order y.order z.order f.order g.order;
    }
