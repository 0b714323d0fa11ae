-- Laws of the two walks and of the two calls.
pub mod Stepped
pub mod ToWalk
pub mod FromWalk
pub mod Calls
