-- What the search gives (document 01, "The search"): the passing set with the fewest ones; among equals the smallest number.
--     BestSet p m           m is one of the 2^n sets, p passes with it, with no set of fewer ones, and with no smaller one of as many ones
use Rattle.std.specs.Prelude.{ℕ, ◌^◌, ◌≤◌, ◌<◌, ◌≡◌}
use Rattle.std.specs.Int.Count.{ones}
use Rattle.rules.specs.declared.Plan.{Plan}
use Rattle.rules.specs.Demand.{Passes}
use Rattle.rules.specs.Search.{with_set}

pub record BestSet (p : Plan) (m : ℕ) : Type 0 where
  pub below : m < 2 ^ p.n
  pub passes : Passes (with_set p m)
  pub fewest : (k : ℕ) → k < 2 ^ p.n → Passes (with_set p k) → ones m ≤ ones k
  pub smallest : (k : ℕ) → k < 2 ^ p.n → Passes (with_set p k) → ones k ≡ ones m → m ≤ k
