-- A plan and the bounds on it (document 01, "What the desk plans", "Bounds on a plan"; each string has its own moving cost and its late
-- days, document 02, W-207 and W-213).
--     strings_of p           the strings of p, by place
--     string_at p i          the string at place i, from 1
--     common_multiple ss h   every T of ss divides h
--     multiple_of p          H, the least common multiple of all T; 100,001 stands for any H over 100,000
--     leeway s              D − J: the fewest days from a release of s to its deadline
--     leeway_min p, d_max p   the smallest D − J and the largest D
--     with_run p n           p with a run of n days
--     cost_lawful a          a moving cost: 0 to 1,000
--     string_lawful s        T 1 to 1,000; D 1 to T; J 0 to D − 1; C 1 to D − J; X 0 or 1; a lawful moving cost
use Rattle.std.specs.Prelude.{ℕ, ◌-◌, ◌%◌, Bool, ◌&&◌, List, eqb, take, get_or}
use Rattle.days.specs.Days.{days}
use Rattle.faults.specs.Checks.{in_bounds}
use Rattle.rules.specs.declared.BatteryString.{BatteryString}
use Rattle.rules.specs.declared.Plan.{Plan}
use Rattle.base.specs.Count.{every, largest, smallest, least_from}

abbrev pub strings_of : Plan → List BatteryString
strings_of p = take p.n p.strings

-- stands where there is no string; it is lawful nowhere
abbrev pub no_string : BatteryString
no_string = record { t = days 0; c = days 0; d = days 0; x = 0; a = days 0; j = days 0 }

abbrev pub string_at : Plan → ℕ → BatteryString
string_at p i = get_or (strings_of p) (i - 1) no_string

abbrev pub with_run : Plan → ℕ → Plan
with_run p n = record { n = p.n; run = days n; strings = p.strings }

abbrev pub leeway : BatteryString → ℕ
leeway s = s.d.0 - s.j.0

abbrev pub cost_lawful : ℕ → Bool
cost_lawful a = in_bounds 0 a 1000

unfoldable pub string_lawful : BatteryString → Bool
string_lawful s =
    in_bounds 1 s.t.0 1000
    && in_bounds 1 s.d.0 s.t.0
    && in_bounds 0 s.j.0 (s.d.0 - 1)
    && in_bounds 1 s.c.0 (leeway s)
    && in_bounds 0 s.x 1
    && cost_lawful s.a.0

unfoldable pub common_multiple : List BatteryString → ℕ → Bool
common_multiple ss h = every (λ s. eqb (h % s.t.0) 0) ss

unfoldable pub multiple_of : Plan → ℕ
multiple_of p = least_from (common_multiple (strings_of p)) 1 100000

unfoldable pub leeway_min : Plan → ℕ
leeway_min p = smallest leeway (strings_of p)

unfoldable pub d_max : Plan → ℕ
d_max p = largest (λ s. s.d.0) (strings_of p)
