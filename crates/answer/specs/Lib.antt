-- What the program prints, the example of a stream, and what the functions ask of their callers.
pub mod Lines
pub mod Example
pub mod Lengths
