-- Laws of numbers out of bytes.
pub mod Laws
