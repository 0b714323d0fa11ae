-- Laws of the tally and of the call, cited by the proofs here.
pub mod Running
pub mod Answered
