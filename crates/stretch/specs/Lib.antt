-- Words for the run from event to event. Read: Stretch, Stints.
pub mod Stretch
pub mod Stints
