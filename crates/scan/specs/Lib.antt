-- What the scans find, and what they ask of their callers.
pub mod Finite
pub mod Marks
