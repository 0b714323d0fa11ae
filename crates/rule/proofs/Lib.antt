-- Laws of the constants, of numbers that are not negative, of the own diagonal's test without a root, of the roots of squares, of the ways
-- through the choice.
pub mod Laws
pub mod Units
pub mod Reach
pub mod Nearby
pub mod Squares
pub mod Ways
