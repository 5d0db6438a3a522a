pub mod ByPlace
pub mod LeastMultiple
pub mod Seen
pub mod ReleaseWalk
