pub mod Missed
pub mod ShowsMiss
pub mod Said
