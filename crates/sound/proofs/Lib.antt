-- A plan that passes never misses a deadline. Modules stand in the order in which they build on each other; the theorems are in
-- Clean, CleanAnswer and Served, from the sharp rule (Sharp), of which the desk's is a consequence.
pub mod Joining
pub mod Taking
pub mod Using
pub mod Orderly
pub mod Arriving
pub mod Morning
pub mod Account
pub mod Asking
pub mod Turn
pub mod Keeping
pub mod Sharp
pub mod Closing
pub mod Clean
pub mod CleanAnswer
pub mod Parts
pub mod Progress
pub mod Served
pub mod Naming
