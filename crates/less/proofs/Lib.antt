-- Laws of a column less the parts of one pivot or of two.
pub mod Column
