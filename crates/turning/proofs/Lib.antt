-- AsWritten: what the writer answers is what is to be answered. InPage: where the turned text stands. ThereAndBack: the theorems.
pub mod AsWritten
pub mod InPage
pub mod ThereAndBack
