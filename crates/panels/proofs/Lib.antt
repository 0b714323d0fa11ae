-- Laws of the panels in turn.
pub mod Multipliers
pub mod Turns
pub mod Work
