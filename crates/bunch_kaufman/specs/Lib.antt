-- The panel step in the model's words: its buffers, its answers, and its terms.
pub mod Slices
pub mod Answers
pub mod Terms
