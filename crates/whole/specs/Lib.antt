-- The elimination over the whole panel.
pub mod Whole
