-- Laws of texts that are written one after the other, and of what is answered.
pub mod Texts
pub mod Rows
pub mod Frames
pub mod WholeText
pub mod Saving
pub mod CellsSaid
pub mod FirstOther
