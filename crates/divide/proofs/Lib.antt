-- Laws of a vector divided by D, pivot by pivot.
pub mod Laws
