-- Numbers out of bytes.
pub mod LittleEndian
