-- The stints of a run: its days, from the first to the last, in stretches on which the bank did one thing.
--     same_use u v           u and v are the same: idle both; or work both, or moving both, for one place and one release
--     stint t n u           the stint of n days from day t on, on which the bank did u
--     day_ahead t u ss       the stints ss with day t ahead of them, on which the bank did u: it joins the first where that did the same
--     stints_from t us       the stints of the uses us, the first of which is that of day t: equal neighbours are joined
--     days_run p rs          how many days the run goes: up to, not into, the day of the miss where there is one; else all N
--     run_stints p rs        the stints of the run
--     stint_numbers s        a stint in five numbers: first day, length, kind (0 idle, 1 work, 2 moving), place and release; place
--                           and release are 0 where it is idle
--     stints_numbers ss      those of a list of stints, one after the other
-- And what is answered where they are asked for, in a lent list:
--     stints_check p rs room     4 to 8 as for a run, then 9 (with 0) where the lent list has fewer places than five for each stint
--     stints_answer p rs room    how many stints are listed, or the refusal
--     stints_listed p rs list    what the lent list holds afterwards: the numbers, and then its own later places; as it was on a refusal
use Rattle.std.specs.Prelude.{ℕ, suc, ◌+◌, ◌*◌, min, Bool, true, false, cond, ◌&&◌, ltb, eqb, length, drop}
use Rattle.faults.specs.Checks.{Refused, Checked}
use Rattle.faults.specs.declared.Refusal.{Refusal}
use Rattle.std.specs.Prelude.{Ok, Result}
use mathlib.Core.List.{List, [], ◌∷◌, ◌++◌, flat_map}
use Rattle.days.specs.Days.{day, days}
use Rattle.faults.specs.declared.Fault.TheVariants.{NoRoom}
use Rattle.faults.specs.Checks.{then, refuse_if, or_refused}
use Rattle.rules.specs.declared.Plan.{Plan}
use Rattle.rules.specs.declared.Release.{Release}
use Rattle.rules.specs.declared.Releases.{Releases}
use Rattle.rules.specs.declared.Use.{Use}
use Rattle.rules.specs.declared.Use.TheVariants.{Idle, Work, Move}
use Rattle.rules.specs.declared.Stint.{Stint}
use Rattle.rules.specs.Release.{releases_of}
use Rattle.rules.specs.Run.{history, miss_day}
use Rattle.rules.specs.Refusal.{run_check}

-- ---- The stints of a list of uses

unfoldable pub same_use : Use → Use → Bool
same_use Idle Idle = true
same_use Idle (Work j m) = false
same_use Idle (Move j m) = false
same_use (Work i k) Idle = false
same_use (Work i k) (Work j m) = eqb i j && eqb k m
same_use (Work i k) (Move j m) = false
same_use (Move i k) Idle = false
same_use (Move i k) (Work j m) = false
same_use (Move i k) (Move j m) = eqb i j && eqb k m

abbrev pub stint : ℕ → ℕ → Use → Stint
stint t n u = record { first = day t; length = days n; used = u }

unfoldable pub day_ahead : ℕ → Use → List Stint → List Stint
day_ahead t u [] = stint t 1 u ∷ []
day_ahead t u (s ∷ ss) = cond (same_use u s.used) (stint t (s.length.0 + 1) u ∷ ss) (stint t 1 u ∷ (s ∷ ss))

unfoldable pub stints_from : ℕ → List Use → List Stint
stints_from t [] = []
stints_from t (u ∷ us) = day_ahead t u (stints_from (suc t) us)

-- ---- The stints of a run

unfoldable pub days_run : Plan → List Release → ℕ
days_run p rs = min (miss_day p rs) p.run.0

unfoldable pub run_stints : Plan → List Release → List Stint
run_stints p rs = stints_from 0 (history p rs (days_run p rs))

-- ---- Their numbers

abbrev pub kind_of : Use → ℕ
kind_of Idle = 0
kind_of (Work i k) = 1
kind_of (Move i k) = 2

abbrev pub place_used : Use → ℕ
place_used Idle = 0
place_used (Work i k) = i
place_used (Move i k) = i

abbrev pub release_used : Use → ℕ
release_used Idle = 0
release_used (Work i k) = k
release_used (Move i k) = k

abbrev pub stint_numbers : Stint → List ℕ
stint_numbers s = s.first.0 ∷ s.length.0 ∷ kind_of s.used ∷ place_used s.used ∷ release_used s.used ∷ []

unfoldable pub stints_numbers : List Stint → List ℕ
stints_numbers ss = flat_map stint_numbers ss

-- ---- The answer

unfoldable pub stints_check : Plan → Releases → ℕ → Checked
stints_check p rs room =
    let full = refuse_if (ltb room (5 * length (run_stints p (releases_of rs)))) NoRoom 0 in
    then (run_check p rs) full

unfoldable pub stints_answer : Plan → Releases → ℕ → Result ℕ Refusal
stints_answer p rs room =
    let count = length (run_stints p (releases_of rs)) in
    or_refused Refused (stints_check p rs room) (Ok count)

unfoldable pub stints_listed : Plan → Releases → List ℕ → List ℕ
stints_listed p rs list =
    let numbers = stints_numbers (run_stints p (releases_of rs)) in
    or_refused (λ f at. list) (stints_check p rs (length list)) (numbers ++ drop (length numbers) list)
