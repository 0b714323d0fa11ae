-- What a sweep over columns leaves, and what the functions ask of their callers.
pub mod Swept
