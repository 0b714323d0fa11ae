-- Columns of L taken from a vector, and what the functions ask of their callers.
pub mod Forward
