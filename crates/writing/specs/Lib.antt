-- Written, Saved and Said say what is promised; Cells and Costs are for the proofs inside.
pub mod Written
pub mod Saved
pub mod Said
pub mod inner
