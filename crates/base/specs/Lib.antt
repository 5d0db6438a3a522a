pub mod Count
pub mod Digits
-- Numbers apart from any plan. Read: Divisors, Multiples.
pub mod Divisors
pub mod Multiples
