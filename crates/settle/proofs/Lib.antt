-- Laws of a pivot's numbers.
pub mod Laws
