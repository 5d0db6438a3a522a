pub mod Assigned
pub mod TakesFound
pub mod Said
