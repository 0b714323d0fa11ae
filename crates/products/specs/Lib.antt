-- L-as-D of a panel's columns, and what its steps ask of their callers.
pub mod Products
