-- Refusals 13 to 16 of an update as one check, and what they leave.
pub mod Lists
