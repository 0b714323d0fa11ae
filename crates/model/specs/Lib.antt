-- What a reader must believe, lowest first.
pub mod Scalar
pub mod Root
pub mod Bits
pub mod Matrix
pub mod Choice
pub mod Step
pub mod Panel
pub mod Head
pub mod Sizes
pub mod Answer
pub mod Inertia
pub mod Factor
pub mod Assembly
pub mod Update
pub mod Solve
pub mod Lapack
pub mod Independence
pub mod Ends
pub mod Tests
pub mod Solution
pub mod ForthAndBack
pub mod Stations
-- What proofs of the code rely on beside it.
pub mod Kept
