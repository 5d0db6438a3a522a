pub mod ByHalves
pub mod Easier
pub mod InItsPlace
pub mod Kept
pub mod Limited
pub mod Meaning
pub mod OneString
pub mod Upward
