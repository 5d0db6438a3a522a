pub mod NeverMiss
pub mod Wrong
pub mod SaysMiss
pub mod OtherVersion
pub mod FileSaid
