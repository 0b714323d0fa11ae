-- What the search for the greatest square finds, and what it asks of its callers.
pub mod Greatest
