pub mod Bars
pub mod inner
