-- Laws of the assembly call.
pub mod Laws
