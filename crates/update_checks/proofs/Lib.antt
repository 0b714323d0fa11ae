-- Laws of refusals 13 to 16 and 18.
pub mod Listed
