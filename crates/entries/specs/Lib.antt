-- What programs in other languages give, and what they are told.
pub mod Given
pub mod Told
