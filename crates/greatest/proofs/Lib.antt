-- Laws of the greatest square.
pub mod Squares
