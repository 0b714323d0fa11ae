-- Laws of the symmetric exchange: of its loops, of the whole, and that the parts make it.
pub mod Parts
pub mod Laws
pub mod Whole
