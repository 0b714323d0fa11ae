-- What a stream of bytes asks.
pub mod Record
