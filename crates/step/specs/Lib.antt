-- A step in the model's words: its cases and its answers, and its terms.
pub mod Answers
pub mod Terms
