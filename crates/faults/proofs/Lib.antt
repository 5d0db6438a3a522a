pub mod Checks
pub mod Refusing
