-- Laws of the calls that print them and of their buffers, and the example of a stream.
pub mod Calls
pub mod Sizes
pub mod Example
