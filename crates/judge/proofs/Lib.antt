-- Laws of a result that is judged.
pub mod Laws
