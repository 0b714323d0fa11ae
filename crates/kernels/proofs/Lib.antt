-- Laws of slices, of the kernels, and of parts of slices that are lent: cited by every crate above.
pub mod Laws
pub mod Rules
pub mod Parts
