-- The two ends of the rule (source, lemmas 1 and 3): everybody may take the bank, the source's fp-EDF; nobody may, its np-EDF. Each end
-- has a rule of its own, in which no permission stands and no blocking is tried; in whole days, with each string's own moving cost and late
-- days.
--     everybody p           the set of all places of p
--     taker_need p w s       what the jobs of s within w days ask for where each of them takes the bank: C and the moving cost
--     EverybodyRule p       all jobs together ask for at most w days within w days, for every w ≥ 1 (source, equation 4)
--     keeper_need l s        what the jobs of s within l days ask for where none of them takes it: C
--     kept_days l s          the longest that a job of s which is due beyond l days keeps the bank: it has already worked a day, and no job
--                           moves
--     NobodyRule p          from the smallest D − J on, the longest of these and all jobs together are at most l (source, equation 9 with
--                           every X 0: its lemma 3)
-- X plays no part in either. The moving cost plays none in the second.
use Rattle.std.specs.Prelude.{ℕ, ◌+◌, ◌-◌, ◌*◌, ◌^◌, ◌≤◌, cond, ltb}
use Rattle.base.specs.Count.{sum_of, largest}
use Rattle.rules.specs.declared.BatteryString.{BatteryString}
use Rattle.rules.specs.declared.Plan.{Plan}
use Rattle.rules.specs.Plan.{strings_of, leeway_min}
use Rattle.rules.specs.Demand.{moving_cost, jobs}

abbrev pub everybody : Plan → ℕ
everybody p = 2 ^ p.n - 1

unfoldable pub taker_need : Plan → ℕ → BatteryString → ℕ
taker_need p w s = jobs s w * (s.c.0 + moving_cost p s)

abbrev pub EverybodyRule : Plan → Type 0
EverybodyRule p = (w : ℕ) → 1 ≤ w → sum_of (taker_need p w) (strings_of p) ≤ w

unfoldable pub keeper_need : ℕ → BatteryString → ℕ
keeper_need l s = jobs s l * s.c.0

unfoldable pub kept_days : ℕ → BatteryString → ℕ
kept_days l s = cond (ltb l s.d.0) (s.c.0 - 1) 0

abbrev pub NobodyRule : Plan → Type 0
NobodyRule p = (l : ℕ) → leeway_min p ≤ l → largest (kept_days l) (strings_of p) + sum_of (keeper_need l) (strings_of p) ≤ l
