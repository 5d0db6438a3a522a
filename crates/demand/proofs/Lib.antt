-- The verdict and the rule say the same, in the order in which the steps build on each other.
pub mod Pairs
pub mod Period
pub mod Range
pub mod PairList
pub mod Unbroken
pub mod Verdict
pub mod Sets
pub mod Alone
-- Why the quick verdict agrees with the full one, in the order in which the steps build on each other. Counts: laws of the definitions.
-- Rising: where a count steps. Growing: the first broken pair grows, under any limit that rises only by its cap. BlockingLimit: so ours.
-- Agreeing: so both verdicts find the same pair. Answers: what the entries answer. Worked: the page's plans, one table.
pub mod Counts
pub mod Rising
pub mod Growing
pub mod BlockingLimit
pub mod Agreeing
pub mod Answers
pub mod Worked
-- The search finds the passing set with the fewest ones, in the order in which the steps build on each other.
pub mod SetOrder
pub mod SetWalk
pub mod Search
pub mod Permissions
