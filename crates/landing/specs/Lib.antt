-- Target and descendant, and rows of the system among the target's.
pub mod Nodes
pub mod Rows
