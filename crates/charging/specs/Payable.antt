-- Moving that nobody can ever be charged. A job pays for moving only where it takes the bank from another job, on the day it is released.
-- That other job was released a day earlier at the latest, has used a day and has one left, and is due strictly later. Where no other
-- string can have such a job, the moving cost of a string is never paid.
--     least_due s            the least D with which a job that came a day earlier is due after one of s: D − J of s, and 2 days more
--     least_hold             the least E of a job that has used a day and has one left
--     can_lose p i j         a job of the string at place j can lose the bank to one of the string at place i
--     chargeable p i        the string at place i can be charged: it may take the bank, and some string can lose it to it
--     cost_if b s            the string s, with the moving cost 0 unless b
--     costs_where f k ss     the strings ss with the moving cost 0 at each place that does not pass f; k is the place of the first
--     uncharged p           p with the moving cost 0 for every string that is not chargeable
--     rounds k p            that done k times: a cost less can leave an E below 2, and so another string that is not chargeable
--     payable p             that done as often as p has strings: what is left is moving that may be paid
--     Settled p             every string of p that is not chargeable has the moving cost 0
use Rattle.std.specs.Prelude.{ℕ, zero, suc, ◌+◌, ◌≤◌, ◌≡◌, Bool, false, not, cond, ◌&&◌, List, [], ◌∷◌, leb, eqb, length}
use Rattle.base.specs.Count.{any, up_from}
use Rattle.rules.specs.declared.BatteryString.{BatteryString}
use Rattle.rules.specs.declared.Plan.{Plan}
use Rattle.rules.specs.Plan.{strings_of, string_at, leeway}
use Rattle.rules.specs.Demand.{moving_cost, hold_of}
use Rattle.exact.specs.Missing.{moved_freely}

abbrev pub least_due : BatteryString → ℕ
least_due s = leeway s + 2

abbrev pub least_hold : ℕ
least_hold = 2

-- a string has one job at a time, so it takes the bank from another
unfoldable pub can_lose : Plan → ℕ → ℕ → Bool
can_lose p i j = not (eqb j i) && leb (least_due (string_at p i)) (string_at p j).d.0 && leb least_hold (hold_of p (string_at p j))

unfoldable pub chargeable : Plan → ℕ → Bool
chargeable p i = eqb (string_at p i).x 1 && any (can_lose p i) (up_from 1 (length (strings_of p)))

abbrev pub cost_if : Bool → BatteryString → BatteryString
cost_if b s = cond b s (moved_freely s)

unfoldable pub costs_where : (ℕ → Bool) → ℕ → List BatteryString → List BatteryString
costs_where f k [] = []
costs_where f k (s ∷ ss) = cost_if (f k) s ∷ costs_where f (suc k) ss

abbrev pub uncharged : Plan → Plan
uncharged p = record { n = p.n; run = p.run; strings = costs_where (chargeable p) 1 p.strings }

unfoldable pub rounds : ℕ → Plan → Plan
rounds zero p = p
rounds (suc k) p = rounds k (uncharged p)

unfoldable pub payable : Plan → Plan
payable p = rounds p.n p

abbrev pub Settled : Plan → Type 0
Settled p = (i : ℕ) → 1 ≤ i → chargeable p i ≡ false → moving_cost p (string_at p i) ≡ 0
