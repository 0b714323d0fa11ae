-- Laws of what the calls ask and of the pivots' own columns, of a step column by column, and that columns make the model's rows.
pub mod Calls
pub mod Steps
pub mod Rows
