-- Laws of the tests and the bits that the leaves go by.
pub mod Leaves
