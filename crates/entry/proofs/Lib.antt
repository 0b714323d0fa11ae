-- Laws of the entry checks.
pub mod Laws
