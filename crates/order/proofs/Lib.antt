-- Laws of the rows that an order has named, and of a vector taken in an order and put back.
pub mod Laws
