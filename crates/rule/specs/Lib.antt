-- What the pivot rule chooses, and what the own diagonal's test asks.
pub mod Chosen
pub mod Reach
