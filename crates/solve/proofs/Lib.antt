-- Laws of the solve call: its checks in turn, its steps in turn, and what it leaves.
pub mod Steps
pub mod Checks
