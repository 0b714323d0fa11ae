-- Laws of the shared checks, cited by the proofs here and by the crates above.
pub mod Answers
pub mod First
pub mod Bytes
pub mod Shape
