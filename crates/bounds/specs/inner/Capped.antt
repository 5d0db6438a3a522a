-- How the code says a common multiple that is outside its range. Of inner use: no public promise speaks of it.
--     capped bound m    m where it is 1 to bound; bound + 1 stands for any other
use Rattle.std.specs.Prelude.{ℕ, ◌+◌, cond}
use Rattle.faults.specs.Checks.{in_bounds}

unfoldable pub capped : ℕ → ℕ → ℕ
capped bound m = cond (in_bounds 1 m bound) m (bound + 1)
