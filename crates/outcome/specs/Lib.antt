-- A call's answer and a mode as plain numbers.
pub mod Numbers
