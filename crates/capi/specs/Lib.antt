-- What the C interface's calls answer and leave, by the definitions of model.
pub mod Left
