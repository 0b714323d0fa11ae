-- The walks of LAPACK's lists as the code takes them, a pivot at a time, and what they ask.
pub mod Walks
