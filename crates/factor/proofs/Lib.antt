-- Laws of the run's begin, of the judgment and of demand 3.
pub mod Begin
pub mod Outcome
pub mod Judged
pub mod Independent
