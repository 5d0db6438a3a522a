-- What reading's and writing's proofs say of the code's layouts. Of public contracts only that of `held_to`, which those
-- crates call, speaks of it: by `code_of`, the code's version for a version of the page.
pub mod Versions
