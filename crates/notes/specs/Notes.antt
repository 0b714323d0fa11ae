-- What the functions ask of their callers. Definitions only. Assumes nothing.
use Rattle.std.specs.Prelude.{ℕ, ◌<◌, ◌≤◌, length}
use Rattle.model.specs.Sizes.{most_columns}
use Rattle.model.specs.declared.PivotRecord.{PivotRecord}

-- two columns, or a column and a row, are there in a buffer
pub record ColumnsPre (k e len : ℕ) : Type 0 where
  pub first : k < len
  pub last : e < len

-- a pivot's columns k to e are there in each buffer of the record, and in the order its rows p and kp, which stand in the head
pub record NotePre (k e p kp : ℕ) (r : PivotRecord) : Type 0 where
  pub from : k ≤ e
  pub d : e < length r.d.now
  pub sub : e < length r.sub.now
  pub blocks : e < length r.blocks.now
  pub partners : e < length r.partners.now
  pub lifts : e < length r.lifts.now
  pub amounts : e < length r.amounts.now
  pub tests : e < length r.tests.now
  pub order : e < length r.order.now
  pub row : kp < length r.order.now
  pub first : p < length r.order.now
  pub first_head : p < most_columns
  pub row_head : kp < most_columns
