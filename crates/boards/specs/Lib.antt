-- The crew's board, in the order in which it is read.
pub mod Input
pub mod Board
pub mod Paging
pub mod Whole
pub mod inner
