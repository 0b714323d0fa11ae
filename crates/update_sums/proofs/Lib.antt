-- Laws of the sums of a landing row.
pub mod Numbers
