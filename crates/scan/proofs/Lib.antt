-- Laws of the scans, lowest first.
pub mod Finite
pub mod Marks
