-- The lines that the program prints of an answer, what a call left as they tell it, and the lengths of the lists printed.
pub mod Lines
pub mod Left
pub mod Lengths
