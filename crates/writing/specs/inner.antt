-- What loops remember and private contracts say, for the proofs inside: nobody has to believe it, and no contract of a public function
-- speaks of it.
pub mod Cells
pub mod Costs
