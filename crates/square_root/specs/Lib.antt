-- What the steps of the square root give, and what they ask.
pub mod Steps
