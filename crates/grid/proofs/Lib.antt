-- Laws of a list seen as a matrix, of columns that are lent, and of the exchange of two: cited by every crate above.
pub mod Laws
pub mod Parts
pub mod Together
pub mod Exchange
