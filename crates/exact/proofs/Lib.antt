-- The releases that miss: modules stand in the order in which they build on each other.
pub mod Coming
pub mod Freely
pub mod Asking
pub mod Listed
pub mod Sharing
pub mod Holding
pub mod Misses
pub mod Exact
pub mod NoLateDays
pub mod Longer
pub mod AnyRun
pub mod Worked
