-- Laws of the sweeps over columns, and of several columns at once.
pub mod Sweeps
pub mod Several
