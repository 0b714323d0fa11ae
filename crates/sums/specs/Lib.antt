-- The sums over a panel's columns, and what their steps ask of their callers.
pub mod Sums
