-- Laws of the calendar. Years, Months, Weekdays: of the definitions. Existing, Order, BothWays: dates and day numbers agree.
-- Cycle: the calendar repeats. SomeYear, Editions, YearByYear, YearlyDays, Gaps: yearly tests. Formula, Places: years and months by
-- arithmetic. Answers, Texts, Decimals: which case of an answer holds. RoundTrip: a date's text, there and back.
-- Worked: the page's dates, one table.
pub mod Years
pub mod Months
pub mod Weekdays
pub mod Formula
pub mod Existing
pub mod Order
pub mod BothWays
pub mod Places
pub mod Cycle
pub mod SomeYear
pub mod Editions
pub mod YearByYear
pub mod YearlyDays
pub mod Gaps
pub mod Answers
pub mod Texts
pub mod Decimals
pub mod RoundTrip
pub mod Worked
