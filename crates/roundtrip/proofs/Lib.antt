-- A plan has one text. Modules stand in the order in which they build on each other; the theorems are in ReadBack,
-- WriteBack, InPage and As02.
pub mod HexBytes
pub mod Numbers
pub mod Framed
pub mod PlanLines
pub mod Passed
pub mod ReadBack
pub mod WriteBack
pub mod InPage
pub mod As02
