-- Read: what is read decides the answer, and what is read lawfully no entry refuses.
pub mod Read
