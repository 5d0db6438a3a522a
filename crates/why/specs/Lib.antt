-- Where a verdict comes from. Read: Shares, Named, Stairs.
pub mod Shares
pub mod Named
pub mod Stairs
pub mod inner
