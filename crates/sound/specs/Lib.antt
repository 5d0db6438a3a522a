pub mod Served
pub mod Sharp
