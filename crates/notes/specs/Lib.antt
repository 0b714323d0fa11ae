-- What the functions ask of their callers.
pub mod Notes
