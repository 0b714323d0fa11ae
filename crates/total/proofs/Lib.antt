-- Laws of the sum, and of what it tells, lowest first.
pub mod Sums
pub mod Finite
