-- One pivot of a panel or two on the rows below it: their steps and own columns, and what the functions ask of their callers.
pub mod Pairs
