-- The buffers before the first panel and after a refusal.
pub mod Buffers
