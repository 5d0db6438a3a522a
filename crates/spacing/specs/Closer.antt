-- Two plans that differ in T alone: what is released at least 182 days apart is also released at least 180 days apart.
--     untimed_string s       the string s with its T forgotten
--     untimed p             the plan p with the T of each string forgotten
--     Closer q p            q is p but for T, and no T of q is larger
use Rattle.std.specs.Prelude.{ℕ, ◌≤◌, ◌≡◌, map}
use Rattle.days.specs.Days.{days}
use Rattle.rules.specs.declared.BatteryString.{BatteryString}
use Rattle.rules.specs.declared.Plan.{Plan}
use Rattle.rules.specs.Plan.{string_at}

abbrev pub untimed_string : BatteryString → BatteryString
untimed_string s = record { t = days 0; c = s.c; d = s.d; x = s.x; a = s.a; j = s.j }

abbrev pub untimed : Plan → Plan
untimed p = record { n = p.n; run = p.run; strings = map untimed_string p.strings }

pub record Closer (q p : Plan) : Type 0 where
  pub alike : untimed q ≡ untimed p
  pub shorter : (i : ℕ) → (string_at q i).t.0 ≤ (string_at p i).t.0
