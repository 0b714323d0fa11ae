-- Laws of one step.
pub mod Laws
