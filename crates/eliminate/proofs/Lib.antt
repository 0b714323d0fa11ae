-- Laws of the sweeps over columns and of the multipliers' buffer; that columns make rows.
pub mod Region
pub mod Buffer
pub mod Rows
