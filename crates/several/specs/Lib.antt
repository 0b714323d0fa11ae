-- What several later columns become in one pass.
pub mod Several
