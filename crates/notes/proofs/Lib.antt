-- Laws of what is noted of a pivot.
pub mod Laws
