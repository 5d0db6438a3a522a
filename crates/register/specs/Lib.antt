pub mod Table
pub mod Reader
pub mod Export
pub mod inner
