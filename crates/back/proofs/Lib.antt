-- Laws of back substitution: sums down a column, and positions in turn.
pub mod Down
pub mod Turns
