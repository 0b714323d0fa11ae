-- What a run leaves, and demand 3 over two calls.
pub mod Run
pub mod Independence
