-- Laws of forward substitution: its kernels and columns, four columns at a time, and that the columns make what the positions make.
pub mod Lent
pub mod Together
pub mod Positions
