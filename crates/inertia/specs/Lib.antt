-- What the counting functions speak of.
pub mod Count
