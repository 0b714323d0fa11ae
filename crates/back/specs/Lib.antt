-- Sums down the columns of L, positions in turn, and what the functions ask of their callers.
pub mod Back
