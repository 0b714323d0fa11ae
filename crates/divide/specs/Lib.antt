-- What one pivot makes of a vector, and what the functions ask of their callers.
pub mod Divide
