-- The solve call's arguments and what it leaves, as the definitions have them.
pub mod Call
