-- The rows of the update step by step, and what these steps ask of their callers.
pub mod Apply
