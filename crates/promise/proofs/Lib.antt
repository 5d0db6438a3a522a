-- The user's demands, of what the code answered. Given: what is said of a plan file that is read. UserWords: demand 2. QuickAgrees: both
-- engines say the same. NeverMisses: demand 3.
-- Missing: where moving is free, a fail has a list that misses. Missed: the releases that miss, as a text. OneText: reading and writing
-- undo each other. Register: so do those of the asset register's table. Turning: version 01 to 02 and back. OtherVersion, Refused: which
-- number is given exactly when. AnyOrder: the order of
-- the list, and whether two plans hold the same strings. Easing: a plan made easier still passes. Slack: how far it can be changed.
-- PlanShown: a plan in decimal words.
-- Stints: the days of a run, stretch by stretch. Visits: the contractor's visit list. CrewBoard:
-- the days of a run on the crew's board. TwoEnds: everybody permitted, and nobody.
-- Whiteboard: where a verdict comes from, string by string and interval by interval.
-- EverySet: the plan with the set that the search finds, and every set. RunAsBars: the days of a run, drawn.
-- ToldPrograms: demand 3 of what a C program is told. ShutOut, OnlyOne: what the contracts rule out. Outside: what two answers
-- from outside share.
pub mod Given
pub mod UserWords
pub mod QuickAgrees
pub mod Missing
pub mod NeverMisses
pub mod OneText
pub mod Register
pub mod Turning
pub mod OtherVersion
pub mod Refused
pub mod AnyOrder
pub mod Easing
pub mod Slack
pub mod TwoEnds
pub mod PlanShown
pub mod Stints
pub mod Visits
pub mod CrewBoard
pub mod Missed
pub mod ShutOut
pub mod Dates
pub mod ToldPrograms
pub mod Outside
pub mod OnlyOne
pub mod Whiteboard
pub mod EverySet
pub mod RunAsBars
