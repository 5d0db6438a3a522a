-- A refused plan file, by name. Read: Lines, then Malformed, Frames, Outside, Periods, Released, and Named, which puts them together.
pub mod Lines
pub mod Malformed
pub mod Frames
pub mod Outside
pub mod Periods
pub mod Released
pub mod Named
pub mod inner
