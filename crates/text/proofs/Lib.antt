-- Laws of numbers as text, cited by the proofs here; and numbers shown as text.
pub mod Laws
pub mod Shown
