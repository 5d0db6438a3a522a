-- Shares: the numbers of a pair add up. LongestBlock, Walking, Blockings, Chains, Tightest, Stretching, Standing: laws for the loops, the
-- chains and the lines.
pub mod Shares
pub mod LongestBlock
pub mod Stretching
pub mod Walking
pub mod Blockings
pub mod Chains
pub mod Tightest
pub mod Standing
