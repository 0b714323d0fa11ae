-- Refusals 17 and 18, what the update call leaves, and what its steps ask of their callers.
pub mod Call
