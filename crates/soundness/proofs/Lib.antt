-- Laws of the look at the result.
pub mod Result
