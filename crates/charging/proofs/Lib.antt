-- Moving that nobody can ever be charged: modules stand in the order in which they build on each other.
pub mod Forgetting
pub mod Payers
pub mod CostsAlone
pub mod RunsAlike
pub mod Uncharged
pub mod Payable
pub mod Settled
pub mod StillPasses
pub mod Worked
