-- Found: a try that is found misses, and where one is found. Meaning: what each answer means. Worked:
-- plans with their answers. SharpBreaks: what the first break of the sharp rule means. Holding, Places, Packing, DayByDay, Freed,
-- Searching, Charging, Demanding: laws for the code. OwnBreak: the first broken pair.
pub mod SharpBreaks
pub mod Found
pub mod Meaning
pub mod Worked
pub mod Holding
pub mod Places
pub mod Packing
pub mod DayByDay
pub mod Freed
pub mod Searching
pub mod Charging
pub mod Demanding
pub mod OwnBreak
