-- The parts of the symmetric exchange, and what it asks of its callers.
pub mod Exchange
