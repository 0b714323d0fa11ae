-- Laws of the square root's steps.
pub mod Steps
