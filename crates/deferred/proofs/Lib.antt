-- Laws of the later columns: in parts, one or two at a time, and all of them by rows.
pub mod Parts
pub mod Columns
pub mod Rows
