-- Laws of the lines.
pub mod Laws
