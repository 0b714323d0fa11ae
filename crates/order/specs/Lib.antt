-- What the functions over an order ask of their callers.
pub mod Order
