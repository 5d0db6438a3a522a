pub mod Figured
pub mod InPlace
pub mod Whole
