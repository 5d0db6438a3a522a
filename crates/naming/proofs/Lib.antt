pub mod LineBytes
pub mod Numbers
pub mod Searches
pub mod Chosen
pub mod Released
pub mod Periods
pub mod Named
pub mod Faults
