-- Splitting: lines and fields up to the byte that ends them. Plain: the number of a field. Numbers: the fields of a row, one by one.
-- Given: what is given of a line. Walk: line after line. Taking: the rows of a table, one by one. Reading: the whole. RowTexts,
-- Exporting: written. Joined,
-- RowBack, BothWays: written and read back. Worked: the examples.
pub mod Splitting
pub mod Plain
pub mod Numbers
pub mod Given
pub mod Walk
pub mod Taking
pub mod Reading
pub mod RowTexts
pub mod Joined
pub mod RowBack
pub mod BothWays
pub mod Worked
