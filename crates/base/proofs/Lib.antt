-- Laws of lists, sums, extremes and searches, for any element.
pub mod Prelude
pub mod Lists
pub mod Least
pub mod Order
pub mod Sums
pub mod Adding
pub mod Filling
pub mod Counts
pub mod FirstOf
pub mod FirstN
pub mod Parts
pub mod Storing
pub mod Members
pub mod Digits
-- Laws of numbers, in the order in which they build on each other. Named as in mathlib, where it has them.
pub mod Greatest
pub mod Divisors
pub mod Multiples
pub mod RoomFilled
