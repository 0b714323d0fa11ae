-- Laws of L-as-D.
pub mod Product
