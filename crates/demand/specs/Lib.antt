pub mod FirstBreak
pub mod Quick
pub mod Limit
pub mod BestSet
