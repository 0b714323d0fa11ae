-- Laws of what a column loses, of one landing row and the loop over all, and of the matrix that they make.
pub mod Less
pub mod Landing
pub mod Closed
