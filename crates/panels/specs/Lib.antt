-- A panel of the run as the slices show it, and what the functions ask of their callers.
pub mod Turn
pub mod Run
