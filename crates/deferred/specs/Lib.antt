-- What a finished panel does to the columns after it, the steps that do it, and what they ask of their callers.
pub mod Deferred
pub mod Columns
