-- Laws of a refusal's number and place.
pub mod Laws
