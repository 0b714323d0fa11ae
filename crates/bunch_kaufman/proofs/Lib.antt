-- Laws of a panel's steps in turn.
pub mod Steps
