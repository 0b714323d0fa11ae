-- Laws of the elimination over the whole panel, cited by every crate above.
pub mod Masked
pub mod Tried
pub mod Steps
pub mod Rows
pub mod Passed
pub mod Run
pub mod Kept
pub mod Result
