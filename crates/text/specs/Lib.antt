-- Words and numbers as text.
pub mod Text
