-- Laws of what a stream asks.
pub mod Laws
