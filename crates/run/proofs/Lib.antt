-- Why the code of the run meets its definition, in the order in which the parts build on each other.
pub mod Stepping
pub mod Deadlines
pub mod MayJoin
pub mod State
pub mod Counting
pub mod Events
pub mod Booking
pub mod Answering
pub mod ReadBack
