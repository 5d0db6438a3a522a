pub mod LikeStrings
pub mod Passed
pub mod SaysSame
