-- Places of a panel, rules of parts of its columns, and what the functions ask of their callers.
pub mod Grid
pub mod Rules
