pub mod Slack
pub mod Beyond
pub mod inner
