-- The sums of a landing row, and what their steps ask of their callers.
pub mod Acc
