-- Refusals of entries that take numbers (document 01, "Refusal numbers"; document 02, W-207), and what each entry answers for any input.
-- A check takes the place `at` that it reports at: a text is held to the same checks, with the number of a line.
--     head_check at n run    4 for n, then 5 for N
--     cost_check at a        5 for a moving cost that is said for the whole plan, as in version 01 of the plan file
--     string_check at s      5 for a string outside its bounds, its moving cost among them
--     multiple_check at p    6 for H
--     many_check at j        7 for more than 1,000 releases
--     strings_check k ss     5 with the place, from k on, of the first string outside its bounds
--     plan_check p           4, then 5 for N (with 0), then 5 place by place, then 6 (with 0)
--     set_check p m          the same with a permission set: 5 with 0 for 2^n or more, straight after N
--     run_check p rs         plan_check, then 7 (with 1,001), then 8 with the place in the list
--     on_verdict c v         what is answered where a verdict is asked for: the refusal of the check c or, where it finds nothing, v;
--                           on_broken, on_assign and on_outcome the same for the first broken pair, the search and the run
--     verdict_answer p, set_answer p m, search_answer p, run_answer p rs    the answers of the entries
--     break_answer p         and of the one that asks for the first broken pair of all, overloaded or not
use Rattle.std.specs.Prelude.{ℕ, suc, ◌^◌, not, List, [], ◌∷◌, ltb, leb}
use Rattle.faults.specs.Checks.{Refused, Lawful, Checked}
use Rattle.faults.specs.declared.Refusal.{Refusal}
use Rattle.std.specs.Prelude.{Ok, Result}
use Rattle.rules.specs.Found.{FirstBroken, Assign}
use Rattle.rules.specs.declared.BatteryString.{BatteryString}
use Rattle.rules.specs.declared.Plan.{Plan}
use Rattle.rules.specs.declared.Releases.{Releases}
use Rattle.faults.specs.declared.Fault.TheVariants.{StringCount, OutOfBounds, MultipleOver, ReleaseTooMany, ReleaseUnlawful}
use Rattle.rules.specs.declared.Verdict.{Verdict}
use Rattle.rules.specs.declared.Outcome.{Outcome}
use Rattle.rules.specs.Plan.{strings_of, cost_lawful, string_lawful, multiple_of}
use Rattle.faults.specs.Checks.{in_bounds, refuse_if, then, or_refused}
use Rattle.rules.specs.Verdict.{all_pairs, first_broken, broken_at, verdict_of}
use Rattle.rules.specs.Search.{with_set, search_of}
use Rattle.rules.specs.Release.{releases_of, first_unlawful}
use Rattle.rules.specs.Run.{run_of}

-- ---- The bounds

unfoldable pub count_check : ℕ → ℕ → Checked
count_check at n = refuse_if (not (in_bounds 1 n 10)) StringCount at

unfoldable pub run_length_check : ℕ → ℕ → Checked
run_length_check at run = refuse_if (not (in_bounds 1 run 1000000)) OutOfBounds at

abbrev pub head_check : ℕ → ℕ → ℕ → Checked
head_check at n run = then (count_check at n) (run_length_check at run)

unfoldable pub cost_check : ℕ → ℕ → Checked
cost_check at a = refuse_if (not (cost_lawful a)) OutOfBounds at

abbrev pub string_check : ℕ → BatteryString → Checked
string_check at s = refuse_if (not (string_lawful s)) OutOfBounds at

unfoldable pub multiple_check : ℕ → Plan → Checked
multiple_check at p = refuse_if (ltb 100000 (multiple_of p)) MultipleOver at

abbrev pub many_check : ℕ → ℕ → Checked
many_check at j = refuse_if (ltb 1000 j) ReleaseTooMany at

-- ---- The order of faults

unfoldable pub strings_check : ℕ → List BatteryString → Checked
strings_check k [] = Lawful
strings_check k (s ∷ ss) =
    let later = strings_check (suc k) ss in
    then (string_check k s) later

unfoldable pub plan_check : Plan → Checked
plan_check p =
    let strings = then (strings_check 1 (strings_of p)) (multiple_check 0 p) in
    then (head_check 0 p.n p.run.0) strings

unfoldable pub set_check : Plan → ℕ → Checked
set_check p m =
    let strings = then (strings_check 1 (strings_of p)) (multiple_check 0 p) in
    then (head_check 0 p.n p.run.0) (then (refuse_if (leb (2 ^ p.n) m) OutOfBounds 0) strings)

unfoldable pub releases_check : Plan → Releases → Checked
releases_check p rs =
    let bad = first_unlawful p (releases_of rs) in
    then (many_check 1001 rs.count) (refuse_if (ltb 0 bad) ReleaseUnlawful bad)

unfoldable pub run_check : Plan → Releases → Checked
run_check p rs =
    let releases = releases_check p rs in
    then (plan_check p) releases

-- ---- The answers

abbrev pub on_verdict : Checked → Verdict → Result Verdict Refusal
on_verdict c v = or_refused Refused c (Ok v)

abbrev pub on_broken : Checked → FirstBroken → Result FirstBroken Refusal
on_broken c v = or_refused Refused c (Ok v)

abbrev pub on_assign : Checked → Assign → Result Assign Refusal
on_assign c v = or_refused Refused c (Ok v)

abbrev pub on_outcome : Checked → Outcome → Result Outcome Refusal
on_outcome c v = or_refused Refused c (Ok v)

unfoldable pub verdict_answer : Plan → Result Verdict Refusal
verdict_answer p =
    let v = verdict_of p in
    on_verdict (plan_check p) v

unfoldable pub break_answer : Plan → Result FirstBroken Refusal
break_answer p =
    let v = broken_at (first_broken p (all_pairs p)) in
    on_broken (plan_check p) v

unfoldable pub set_answer : Plan → ℕ → Result Verdict Refusal
set_answer p m =
    let v = verdict_of (with_set p m) in
    on_verdict (set_check p m) v

unfoldable pub search_answer : Plan → Result Assign Refusal
search_answer p =
    let v = search_of p in
    on_assign (plan_check p) v

unfoldable pub run_answer : Plan → Releases → Result Outcome Refusal
run_answer p rs =
    let v = run_of p (releases_of rs) in
    on_outcome (run_check p rs) v
