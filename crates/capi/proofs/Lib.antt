-- Laws of what the C interface's calls answer and leave.
pub mod Laws
