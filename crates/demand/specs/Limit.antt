-- What the argument for the quick verdict asks of a blocking limit.
--     Rises limit from      the limit is never above the interval, and past the interval `from` it only rises where it is as large as that
use Rattle.std.specs.Prelude.{ℕ, suc, ◌≤◌, ◌≡◌, ◌⊎◌}

pub record Rises (limit : ℕ → ℕ) (from : ℕ) : Type 0 where
  pub capped : (l : ℕ) → limit l ≤ l
  pub falls : (l : ℕ) → from ≤ l → (limit (suc l) ≤ limit l) ⊎ (limit l ≡ l)
