-- What a sweep over columns leaves, the multipliers' buffer and the rows below a panel, and what the functions ask of their callers.
pub mod Eliminate
