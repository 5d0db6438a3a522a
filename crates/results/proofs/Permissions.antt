-- Permissions are not on the list (document 02, W-212). Giving one can turn pass into overload, as P9 shows; taking one away can turn pass
-- into fail, as P1 and P3 show. Both are computed from the definitions.
use Rattle.base.proofs.Prelude.{◌≡◌, refl, sym, ap, ◌∙◌, Bool, true, false}
use Rattle.faults.specs.Checks.{Lawful, Checked}
use mathlib.Core.List.{flat_map}
use Rattle.rules.specs.{Said.{Said, overload, fail, pass, asked_verdict_says}, Plan.{string_lawful, common_multiple, multiple_of, leeway_min, d_max}, Demand.{moving_cost, hold_of, jobs, blocker_hold, block_limit, need, demand, load, overloaded}, Verdict.{pairs_at, all_pairs, broken, compared, judged, verdict_over, verdict_of, is_pass}, Search.{permit, with_set}, Refusal.{count_check, run_length_check, cost_check, strings_check, multiple_check, plan_check, verdict_answer}}
use Rattle.base.specs.Count.{sum_of, largest, smallest, smallest_with, every, up_from, least_from, first_of}
use Rattle.rules.proofs.Worked.{string, paying, plan_of, plan, two, nine}
use Rattle.base.proofs.Lists.{true-not-false}
use Rattle.laws.proofs.Lawful.{plan_check-lawful}
use Rattle.demand.proofs.Verdict.{pass-exactly}
use Rattle.results.specs.Change.{Change, Hurts}

-- ---- The changes

-- P9: its one string is given the permission
unfoldable pub giving : Change
giving = record { before = with_set nine 0; after = with_set nine 1; said = pass 3; says = overload 0 }

-- P1 to P3: the first string's permission is taken away
unfoldable pub taking : Change
taking = record { before = with_set two 1; after = with_set two 0; said = pass 39; says = fail 5 3 6 8 }

-- ---- What computes

record Seen : Type 0 where
  checked : Checked
  also : Checked
  passed : Bool
  passes : Bool
  said : Said
  says : Said

unfoldable seen : Change → Seen
seen c =
    record {
      checked = plan_check c.before;
      also = plan_check c.after;
      passed = is_pass (verdict_of c.before);
      passes = is_pass (verdict_of c.after);
      said = asked_verdict_says (verdict_answer c.before);
      says = asked_verdict_says (verdict_answer c.after);
    }

unfoldable stated : Change → Seen
stated c = record { checked = Lawful; also = Lawful; passed = true; passes = false; said = c.said; says = c.says }

computed : (seen giving ≡ stated giving) × (seen taking ≡ stated taking)
unfolding
    seen stated giving taking string paying plan_of plan two nine
    flat_map sum_of largest smallest smallest_with every up_from least_from first_of
    string_lawful common_multiple multiple_of leeway_min d_max
    moving_cost hold_of jobs blocker_hold block_limit need demand load overloaded
    pairs_at all_pairs broken compared judged verdict_over is_pass
    permit with_set
    count_check run_length_check cost_check strings_check multiple_check plan_check verdict_answer
computed = (refl, refl)

-- ---- What it means

hurts : (c : Change) → seen c ≡ stated c → Hurts c
unfolding seen stated
hurts c e =
    let ok = plan_check-lawful c.before (ap (λ s. s.checked) e) in
    let also = plan_check-lawful c.after (ap (λ s. s.also) e) in
    record {
      passed = (pass-exactly c.before ok).0 (ap (λ s. s.passed) e);
      breaks = λ rule. true-not-false (sym ((pass-exactly c.after also).1 rule) ∙ ap (λ s. s.passes) e);
      both = record { was = ap (λ s. s.said) e; is = ap (λ s. s.says) e };
    }

-- pass turned into overload
pub giving-hurts : Hurts giving
giving-hurts = hurts giving computed.0

-- pass turned into fail
pub taking-hurts : Hurts taking
taking-hurts = hurts taking computed.1
