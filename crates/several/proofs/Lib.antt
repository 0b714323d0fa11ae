-- Laws of several runs of a slice, and of several columns of a part.
pub mod Runs
pub mod Columns
