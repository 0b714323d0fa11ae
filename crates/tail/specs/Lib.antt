-- The pivots that the tail reads, and what its functions ask of their callers.
pub mod Tail
