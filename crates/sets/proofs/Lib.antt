pub mod Ranking
pub mod Whole
pub mod Meaning
