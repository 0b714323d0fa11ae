-- Laws of the update call.
pub mod Called
