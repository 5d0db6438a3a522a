-- Giving: rows of numbers, stored one after the other. Telling: rows and texts in lent memory. Refusing: numbers that lack something.
pub mod Giving
pub mod Telling
pub mod Refusing
