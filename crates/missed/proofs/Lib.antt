-- OfText: what each answer means.
pub mod OfText
