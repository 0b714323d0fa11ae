-- What `record::first_sound` owes: a record that stands whole holds the mode. Assumes nothing.
use native.Mathlib.Omega.{arith}
use Rattle.record.proofs.Laws.{record-whole}
use Rattle.record.proofs.first_sound.Goals as goal

pub u16_at-requires : goal.u16_at-requires
u16_at-requires c = omega (arith, record-whole _ _ _ _ _ c.record_at.ensures c.if-record_at.true)
