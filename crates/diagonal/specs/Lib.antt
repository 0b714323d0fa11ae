-- What reading D asks of its caller.
pub mod Diagonal
