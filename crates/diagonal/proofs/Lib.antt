-- Laws of D.
pub mod Laws
