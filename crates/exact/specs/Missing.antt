-- The releases that miss. Where the sharp rule with free moving (sound/specs/Sharp.antt) breaks at an interval l with blocking b by the
-- string at place q, these releases make the plan miss a deadline: first a job of q, which blocks the bank for b days; then everybody else
-- as often as is lawful, and late where that hurts most. The first job of a string comes J days after its due day, so that its due days
-- begin before the interval; the others come on their due days. With b 0 nobody blocks, and q is 0, which is no place.
--     freely p              the plan p with every moving cost 0
--     SharpBreak p l b q    the sharp rule breaks for p at the interval l with blocking b by the string at place q
--     most_late p            the largest J: so many days go by before the first release, and no due day lies before day 0
--     lead_of b              the days by which the job that blocks comes ahead of the interval: 1, or 0 where there is none
--     interval_start p b     the day on which the interval begins, and
--     interval_end p l b     the day on which it ends: the releases are due by then
--     block_release p b q    the release that blocks, with need b + 1, so that b days are left when the interval begins
--     delay_of b s           the days of the interval before a job of s comes: b where it may take the bank, else 0
-- Of a string s whose first job comes on the day `first`:
--     due_coming first s t       the due day of its job that comes on day t: of the first J days before, of the others t itself
--     comes_in first end s t      a job comes on day t: due days every T days, as long as the job is due by the end
-- Of an interval of l days from day `lead` on, in which takers come b days later than the others, behind the first releases `head`:
--     comes_first head i     a release of `head` is of place i: the string there does not come again
--     releases_in p head lead b l t    the releases of day t, by place, each with need C
--     others_in p head lead b l   all of them, day by day
--     missing p l b q       the list: the release that blocks, and the others
--     MissesBy p rs d       rs is a lawful release list for p, and the run over it ends with a miss, on day d or earlier
--     NeverMisses p         whatever the length of the run, no lawful release list misses, however many releases it has
--     FreeMoving p          no string of p pays for taking the bank
use Rattle.std.specs.Prelude.{ℕ, ◌+◌, ◌-◌, ◌%◌, ◌≤◌, ◌<◌, min, ◌≡◌, Bool, cond, not, ◌&&◌, leb, eqb, length}
use mathlib.Core.List.{List, [], ◌∷◌, ◌++◌, map, flat_map}
use Rattle.days.specs.Days.{day, days}
use Rattle.base.specs.Count.{All, any, keep, up_from, largest}
use Rattle.rules.specs.declared.BatteryString.{BatteryString}
use Rattle.rules.specs.declared.Plan.{Plan}
use Rattle.rules.specs.declared.Release.{Release}
use Rattle.rules.specs.declared.Outcome.TheVariants.{Miss}
use Rattle.rules.specs.Plan.{strings_of, string_at, with_run}
use Rattle.rules.specs.Demand.{moving_cost}
use Rattle.rules.specs.Release.{first_unlawful}
use Rattle.rules.specs.Run.{run_of}
use Rattle.sound.specs.Sharp.{demand_but, CanBlock}

-- ---- Plans

abbrev pub moved_freely : BatteryString → BatteryString
moved_freely s = record { t = s.t; c = s.c; d = s.d; x = s.x; a = days 0; j = s.j }

abbrev pub freely : Plan → Plan
freely p = record { n = p.n; run = p.run; strings = map moved_freely p.strings }

pub record SharpBreak (p : Plan) (l b q : ℕ) : Type 0 where
  pub pos : 1 ≤ l
  pub nobody : b ≡ 0 → q ≡ 0
  pub can : 1 ≤ b → CanBlock p l b q
  pub over : l < demand_but p l b q

-- ---- The interval

unfoldable pub most_late : Plan → ℕ
most_late p = largest (λ s. s.j.0) (strings_of p)

abbrev pub lead_of : ℕ → ℕ
lead_of b = min b 1

abbrev pub interval_start : Plan → ℕ → ℕ
interval_start p b = most_late p + lead_of b

abbrev pub interval_end : Plan → ℕ → ℕ → ℕ
interval_end p l b = interval_start p b + l

-- ---- The job that blocks

abbrev pub block_release : Plan → ℕ → ℕ → Release
block_release p b q = record { day = day (most_late p); place = q; need = days (b + 1); due = day (most_late p) }

-- none where nothing blocks
unfoldable pub blocker_release : Plan → ℕ → ℕ → List Release
blocker_release p b q = cond (eqb b 0) [] (block_release p b q ∷ [])

-- ---- The others

unfoldable pub delay_of : ℕ → BatteryString → ℕ
delay_of b s = cond (eqb s.x 1) b 0

abbrev pub first_in : ℕ → ℕ → BatteryString → ℕ
first_in lead b s = lead + delay_of b s

unfoldable pub due_coming : ℕ → BatteryString → ℕ → ℕ
due_coming first s t = cond (eqb t first) (first - s.j.0) t

unfoldable pub comes_in : ℕ → ℕ → BatteryString → ℕ → Bool
comes_in first end s t =
    leb first t
    && eqb ((due_coming first s t + s.j.0 - first) % s.t.0) 0
    && leb (due_coming first s t + s.d.0) end

unfoldable pub comes_first : List Release → ℕ → Bool
comes_first head i = any (λ r. eqb i r.place) head

abbrev pub comes_at : Plan → List Release → ℕ → ℕ → ℕ → ℕ → ℕ → Bool
comes_at p head lead b l t i = not (comes_first head i) && comes_in (first_in lead b (string_at p i)) (lead + l) (string_at p i) t

abbrev pub release_in : Plan → ℕ → ℕ → ℕ → ℕ → Release
release_in p lead b t i =
    let s = string_at p i in
    record { day = day t; place = i; need = s.c; due = day (due_coming (first_in lead b s) s t) }

unfoldable pub releases_in : Plan → List Release → ℕ → ℕ → ℕ → ℕ → List Release
releases_in p head lead b l t = map (release_in p lead b t) (keep (comes_at p head lead b l t) (up_from 1 (length (strings_of p))))

unfoldable pub others_in : Plan → List Release → ℕ → ℕ → ℕ → List Release
others_in p head lead b l = flat_map (releases_in p head lead b l) (up_from lead l)

unfoldable pub missing : Plan → ℕ → ℕ → ℕ → List Release
missing p l b q = blocker_release p b q ++ others_in p (blocker_release p b q) (interval_start p b) b l

-- ---- What a run over a list does

pub record MissesBy (p : Plan) (rs : List Release) (d : ℕ) : Type 0 where
  pub listed : first_unlawful p rs ≡ 0
  pub t : ℕ
  pub place : ℕ
  pub soon : t ≤ d
  pub ends : run_of p rs ≡ Miss (day t) place

abbrev pub NeverMisses : Plan → Type 0
NeverMisses p = (n : ℕ) → 1 ≤ n → n ≤ 1000000 → (rs : List Release) → MissesBy (with_run p n) rs n → ⊥

abbrev pub FreeMoving : Plan → Type 0
FreeMoving p = All (λ s. moving_cost p s ≡ 0) (strings_of p)
