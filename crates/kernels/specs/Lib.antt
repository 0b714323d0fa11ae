-- Rules of the slice kernels, and what the kernels ask of their callers.
pub mod Rules
