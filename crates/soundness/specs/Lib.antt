-- What the look at the result asks of its callers, and its part on a block.
pub mod Result
