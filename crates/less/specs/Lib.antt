-- What a column becomes less the parts of one pivot or of two.
pub mod Less
