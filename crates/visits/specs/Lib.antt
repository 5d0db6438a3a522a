-- The contractor's visit list. Read: Visits, Accepted, OwnRun, Texts.
pub mod Visits
pub mod Accepted
pub mod OwnRun
pub mod Texts
pub mod inner
