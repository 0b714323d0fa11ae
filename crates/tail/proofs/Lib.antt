-- Laws of the rows below a panel: rows by their columns from k on, a part that is lent, the steps in turn.
pub mod From
pub mod Lent
pub mod Asked
pub mod Laws
