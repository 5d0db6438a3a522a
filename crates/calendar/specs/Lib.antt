-- The calendar, in the order in which it is read.
pub mod Years
pub mod Dates
pub mod Numbers
pub mod Weekdays
pub mod Yearly
pub mod Refusals
pub mod Texts
pub mod Said
pub mod inner
