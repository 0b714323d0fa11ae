-- What the entry checks ask.
pub mod Entry
