pub mod Payable
pub mod RunsAlike
