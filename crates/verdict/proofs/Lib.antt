-- Laws for the loops, in the order in which they build on each other.
pub mod Asked
pub mod StringSums
pub mod Holding
pub mod Blocking
pub mod Rows
pub mod Stepping
pub mod Advancing
pub mod KeptRows
pub mod Looking
pub mod Onward
pub mod Breaking
pub mod AtPair
pub mod Permit
pub mod Readiness
pub mod WorkAlone
