-- What a call leaves by its answer, and what a scan of numbers tests and finds.
pub mod Answers
pub mod Finite
