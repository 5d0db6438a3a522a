-- The quick verdict (document 02, W-204): it looks only at pairs (l, b), in the same range and order, at which, with b held, some string's
-- job count is larger than it was at l − 1.
--     jobs_left s l b        the jobs of s in l − b days; a window of less than no days has no jobs
--     count_at s l b         the job count of s that the demand at (l, b) uses: in l − b days where X is 1, in l days where X is 0
--     grows p q             some string's count at the pair q is larger than at the interval before it, with the same blocking
--     quick_pairs p          the pairs of the verdict at which a count grows
--     quick_of p             the quick verdict on a lawful plan; its pair count is its own
--     quick_answer p, quick_set_answer p m
--                           what the entries answer, with the plan's permissions and with a set; refusals as the verdict's
--     apart_from_pairs v      the verdict v without its count of pairs
--     asked_apart v          what is answered where a verdict is asked for, without the count: the refusal, or the verdict
use Rattle.std.specs.Prelude.{ℕ, ◌-◌, Bool, cond, List, ltb, eqb}
use Rattle.faults.specs.declared.Refusal.{Refusal}
use Rattle.std.specs.Prelude.{Ok, Err, Result}
use Rattle.rules.specs.declared.BatteryString.{BatteryString}
use Rattle.rules.specs.declared.Plan.{Plan}
use Rattle.rules.specs.declared.Verdict.{Verdict}
use Rattle.rules.specs.declared.Verdict.TheVariants.{Overload, Fail, Pass}
use Rattle.base.specs.Count.{any, keep}
use Rattle.rules.specs.Plan.{strings_of}
use Rattle.rules.specs.Demand.{jobs}
use Rattle.rules.specs.Verdict.{Pair, all_pairs, verdict_over}
use Rattle.rules.specs.Search.{with_set}
use Rattle.rules.specs.Refusal.{plan_check, set_check, on_verdict}

unfoldable pub jobs_left : BatteryString → ℕ → ℕ → ℕ
jobs_left s l b = cond (ltb l b) 0 (jobs s (l - b))

unfoldable pub count_at : BatteryString → ℕ → ℕ → ℕ
count_at s l b = cond (eqb s.x 1) (jobs_left s l b) (jobs s l)

-- every pair of the verdict has an interval of 1 or more
unfoldable pub grows : Plan → Pair → Bool
grows p q = any (λ s. ltb (count_at s (q.l - 1) q.b) (count_at s q.l q.b)) (strings_of p)

unfoldable pub quick_pairs : Plan → List Pair
quick_pairs p = keep (grows p) (all_pairs p)

abbrev pub quick_of : Plan → Verdict
quick_of p = verdict_over p (quick_pairs p)

unfoldable pub quick_answer : Plan → Result Verdict Refusal
quick_answer p =
    let v = quick_of p in
    on_verdict (plan_check p) v

unfoldable pub quick_set_answer : Plan → ℕ → Result Verdict Refusal
quick_set_answer p m =
    let v = quick_of (with_set p m) in
    on_verdict (set_check p m) v

unfoldable pub apart_from_pairs : Verdict → Verdict
apart_from_pairs Overload = Overload
apart_from_pairs (Fail l b d k) = Fail l b d 0
apart_from_pairs (Pass k) = Pass 0

abbrev pub asked_apart : Result Verdict Refusal → Result Verdict Refusal
asked_apart (Err e) = Err e
asked_apart (Ok v) = Ok (apart_from_pairs v)
