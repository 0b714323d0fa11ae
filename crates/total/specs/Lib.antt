-- The sum of the lower positions, what is known where it is finite, and what the pass asks of its callers.
pub mod Finite
