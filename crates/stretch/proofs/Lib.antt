-- The run from event to event and its stints, in the order in which the parts build on each other; the theorems are in Stretches and
-- RunStints.
pub mod JoinList
pub mod EachSlot
pub mod QuietDay
pub mod Spending
pub mod Stretches
pub mod StintJoin
pub mod StintList
pub mod Few
pub mod RunStints
