-- AsRead: what was read decides. OfText: what each answer means.
pub mod AsRead
pub mod OfText
