-- The result of a run, judged.
pub mod Judge
