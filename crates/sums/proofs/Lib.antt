-- Laws of the sums.
pub mod Sum
