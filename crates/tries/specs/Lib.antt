pub mod Tries
pub mod Shown
pub mod Said
pub mod inner
