-- Whether a plan that does not pass can miss: that it cannot, where that is proved; else the release lists that are tried, in their order,
-- and which of them is shown. The first is the theorem's, where the sharp rule with free moving breaks: it misses. Any other is shown only
-- if it was run and did miss.
--     Break                 where the sharp rule may break: an interval, a blocking and the place of the string that blocks, 0 for nobody
--     longest_block p l      the longest that a job which is due beyond an interval of l days blocks it
--     all_breaks p           those in reach, in order of the interval, then the blocking, then the place
--     is_broken p y          the sharp rule breaks at y
--     sharp_break p          the first at which it does, if it does anywhere
--     free_break p           the first at which it does with free moving
--     passes_payably p       the payable plan passes sharply, so that no list misses; it does where the plan itself passes sharply
--     Try                   how a list begins, and what comes after it: its first releases; the day on which the interval begins; the days
--                           of the interval before takers come; and the interval's length
--     end_of_try y            the day on which the interval of the try y ends
--     list_of p y            the list of the try y: the strings that are not among the first releases come behind them, as often as is
--                           lawful, and late where that hurts most
--     full_release p t i     a release of the string at place i on day t, due on that day, with need C
--     block_try p y          the list that misses where the sharp rule breaks at y: a job that blocks, then the others
--     own_break p            the first pair at which the plan's own rule breaks
--     stopped_try p b v l    the string at place v is on the bank from the first day on; the others join a day later, takers b days after
--                           them, and one of these takes the bank and pays
--     paid_try p k v l       a day later the string at place k takes the bank from it, pays and blocks; the others join another day later,
--                           takers only when E − 1 more days are over
--     tries p               block_try; then, for each v, stopped_try at the pair at which the plan's own rule breaks; then, with the D of
--                           each string as the interval, stopped_try with no day between for each v, and paid_try for each k and v
--     packed rs             the code's list of rs; more than 1,000 are not listed, and the count says so
--     misses_on p y          a run to the interval's end over the list of the try y is lawful and misses
--     found p               the first try that misses
--     raised p y            N, raised to the interval's end where that lies beyond it
--     unfound y             what is answered where no list that was tried misses, y being the free break: if there is one, there is a list
--                           that misses, the theorem's, but it has more than 1,000 releases; else none was found
--     missing_of p           what is answered for a lawful plan: that it passes, that it fails and no list misses, why no list is shown, or
--                           N and the list
--     missing_answer p       what is answered for any plan: the refusal, or that
use Rattle.std.specs.Prelude.{ℕ, ◌+◌, ◌-◌, min, max, Bool, true, false, cond, ◌&&◌, eqb, ltb, length, take}
use Rattle.rules.specs.declared.Outcome.{Outcome}
use Rattle.faults.specs.Checks.{then}
use Rattle.faults.specs.declared.Refusal.{Refusal}
use Rattle.std.specs.Prelude.{Ok, Err, Result}
use mathlib.Core.List.{List, [], ◌∷◌, ◌++◌, map, flat_map}
use Rattle.std.proofs.Math.Option.{Option, none, some}
use Rattle.days.specs.Days.{day, days}
use Rattle.base.specs.Count.{largest, up_from, first_of, filled}
use Rattle.rules.specs.declared.BatteryString.{BatteryString}
use Rattle.rules.specs.declared.Plan.{Plan}
use Rattle.rules.specs.declared.Release.{Release}
use Rattle.rules.specs.declared.Releases.{Releases}
use Rattle.rules.specs.declared.Outcome.TheVariants as outcome
use Rattle.rules.specs.Plan.{strings_of, string_at, multiple_of, with_run}
use Rattle.rules.specs.Demand.{hold_of, blocker_hold}
use Rattle.rules.specs.Verdict.{Pair, all_pairs, first_broken, verdict_of, is_pass}
use Rattle.rules.specs.Release.{no_release}
use Rattle.rules.specs.Refusal.{plan_check, run_answer}
use Rattle.sound.specs.Sharp.{demand_but}
use Rattle.exact.specs.Missing.{freely, most_late, interval_start, blocker_release, others_in}
use Rattle.charging.specs.Payable.{payable}
use Rattle.tries.specs.declared.Missing.{Missing}
use Rattle.tries.specs.declared.Missing.TheVariants.{Passes, Never, NoneFound, TooMany, Found}

-- ---- Where the sharp rule breaks

pub record Break : Type 0 where
  pub l : ℕ
  pub b : ℕ
  pub q : ℕ

abbrev pub break_at : ℕ → ℕ → ℕ → Break
break_at l b q = record { l = l; b = b; q = q }

unfoldable pub longest_block : Plan → ℕ → ℕ
longest_block p l = min l (largest (blocker_hold p l) (strings_of p))

abbrev pub blocked_breaks : Plan → ℕ → ℕ → List Break
blocked_breaks p l b = map (break_at l b) (up_from 1 (length (strings_of p)))

abbrev pub breaks_in : Plan → ℕ → List Break
breaks_in p l = break_at l 0 0 ∷ flat_map (blocked_breaks p l) (up_from 1 (longest_block p l))

unfoldable pub all_breaks : Plan → List Break
all_breaks p = flat_map (breaks_in p) (up_from 1 (multiple_of p + 999))

abbrev pub can_block : Plan → ℕ → ℕ → BatteryString → Bool
can_block p l b s = ltb l s.d.0 && ltb b (hold_of p s)

unfoldable pub is_broken : Plan → Break → Bool
is_broken p y =
    cond (eqb y.b 0) true (can_block p y.l y.b (string_at p y.q))
    && ltb y.l (demand_but p y.l y.b y.q)

unfoldable pub sharp_break : Plan → Option Break
sharp_break p = first_of (is_broken p) (all_breaks p)

abbrev pub free_break : Plan → Option Break
free_break p = sharp_break (freely p)

abbrev pub is_whole : Option Break → Bool
is_whole none = true
is_whole (some y) = false

unfoldable pub passes_payably : Plan → Bool
passes_payably p = is_whole (sharp_break (payable p))

-- ---- The tries

pub record Try : Type 0 where
  pub head : List Release
  pub lead : ℕ
  pub delay : ℕ
  pub l : ℕ

abbrev pub end_of_try : Try → ℕ
end_of_try y = y.lead + y.l

unfoldable pub list_of : Plan → Try → List Release
list_of p y = y.head ++ others_in p y.head y.lead y.delay y.l

abbrev pub own_break : Plan → Option Pair
own_break p = first_broken p (all_pairs p)

abbrev pub full_release : Plan → ℕ → ℕ → Release
full_release p t i = record { day = day t; place = i; need = (string_at p i).c; due = day t }

abbrev pub block_try : Plan → Break → Try
block_try p y = record { head = blocker_release p y.b y.q; lead = interval_start p y.b; delay = y.b; l = y.l }

abbrev pub stopped_try : Plan → ℕ → ℕ → ℕ → Try
stopped_try p b v l = record { head = full_release p (most_late p) v ∷ []; lead = most_late p + 1; delay = b; l = l }

abbrev pub paid_try : Plan → ℕ → ℕ → ℕ → Try
paid_try p k v l =
    record {
      head = full_release p (most_late p) v ∷ full_release p (most_late p + 1) k ∷ [];
      lead = most_late p + 2;
      delay = hold_of p (string_at p k) - 1;
      l = l;
    }

abbrev pub free_tries : Plan → Option Break → List Try
free_tries p none = []
free_tries p (some y) = block_try p y ∷ []

abbrev pub places : Plan → List ℕ
places p = up_from 1 p.n

abbrev pub held_tries : Plan → Option Pair → List Try
held_tries p none = []
held_tries p (some q) = map (λ v. stopped_try p q.b v q.l) (places p)

abbrev pub by_interval : Plan → (ℕ → Try) → List Try
by_interval p try = map (λ j. try (string_at p j).d.0) (places p)

unfoldable pub stopped_tries : Plan → List Try
stopped_tries p = flat_map (λ v. by_interval p (stopped_try p 0 v)) (places p)

unfoldable pub paid_tries : Plan → List Try
paid_tries p = flat_map (λ k. flat_map (λ v. by_interval p (paid_try p k v)) (places p)) (places p)

unfoldable pub tries : Plan → List Try
tries p = free_tries p (free_break p) ++ (held_tries p (own_break p) ++ (stopped_tries p ++ paid_tries p))

-- ---- What a try does

abbrev pub packed : List Release → Releases
packed rs = record { count = min (length rs) 1001; list = filled 1000 no_release (take 1000 rs) }

unfoldable pub is_miss : Result Outcome Refusal → Bool
is_miss (Err e) = false
is_miss (Ok (outcome.Miss t i)) = true
is_miss (Ok (outcome.Clean w m i)) = false

unfoldable pub misses_on : Plan → Try → Bool
misses_on p y = is_miss (run_answer (with_run p (end_of_try y)) (packed (list_of p y)))

unfoldable pub found : Plan → Option Try
found p = first_of (misses_on p) (tries p)

-- ---- The answer

abbrev pub raised : Plan → Try → ℕ
raised p y = max p.run.0 (end_of_try y)

abbrev pub unfound : Option Break → Missing
unfound none = NoneFound
unfound (some y) = TooMany

abbrev pub found_as : Plan → Option Try → Missing
found_as p none = unfound (free_break p)
found_as p (some y) = Found (days (raised p y)) (packed (list_of p y))

unfoldable pub missing_of : Plan → Missing
missing_of p =
    let shown = found_as p (found p) in
    let tried = cond (passes_payably p) Never shown in
    cond (is_pass (verdict_of p)) Passes tried

unfoldable pub missing_answer : Plan → Result Missing Refusal
missing_answer p =
    let v = missing_of p in
    then (plan_check p) (Ok v)
