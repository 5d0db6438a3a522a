-- D may grow only where J is 0 (document 02, W-212 as W-213 has it): a string with a late day whose D grows by a day turns pass into fail.
-- Before, it counts a job in four days; after, it counts one and blocks at once.
use Rattle.base.proofs.Prelude.{ℕ, ◌≡◌, refl, sym, ap, ◌∙◌, Bool, true, false, [], ◌∷◌}
use Rattle.faults.specs.Checks.{Lawful, Checked}
use mathlib.Core.List.{flat_map}
use Rattle.rules.specs.{declared.Plan.Plan, Said.{Said, fail, pass, asked_verdict_says}, Plan.{string_lawful, common_multiple, multiple_of, leeway_min, d_max}, Demand.{moving_cost, hold_of, jobs, blocker_hold, block_limit, need, demand, Passes, load, overloaded}, Verdict.{pairs_at, all_pairs, broken, compared, judged, verdict_over, verdict_of, is_pass}, Refusal.{count_check, run_length_check, strings_check, multiple_check, plan_check, verdict_answer}}
use Rattle.base.specs.Count.{sum_of, largest, smallest, smallest_with, every, up_from, least_from, first_of}
use Rattle.rules.proofs.Worked.{string, paying, opening, plan_of, plan}
use Rattle.base.proofs.Lists.{true-not-false}
use Rattle.laws.proofs.Lawful.{plan_check-lawful}
use Rattle.demand.proofs.Verdict.{pass-exactly}

-- (5,2,d) with one late day beside (4,2,4), nobody permitted
unfoldable pub with_d : ℕ → Plan
with_d d = plan (opening 1 (string 5 2 d) ∷ string 4 2 4 ∷ []) 0 20

record Seen : Type 0 where
  checked : Checked
  passes : Bool
  said : Said

unfoldable seen : Plan → Seen
seen p = record { checked = plan_check p; passes = is_pass (verdict_of p); said = asked_verdict_says (verdict_answer p) }

computed :
    (seen (with_d 4) ≡ record { checked = Lawful; passes = true; said = pass 24 })
    × (seen (with_d 5) ≡ record { checked = Lawful; passes = false; said = fail 4 1 5 5 })
unfolding
    seen with_d string paying opening plan_of plan
    flat_map sum_of largest smallest smallest_with every up_from least_from first_of
    string_lawful common_multiple multiple_of leeway_min d_max
    moving_cost hold_of jobs blocker_hold block_limit need demand load overloaded
    pairs_at all_pairs broken compared judged verdict_over is_pass
    count_check run_length_check strings_check multiple_check plan_check verdict_answer
computed = (refl, refl)

-- pass turned into fail, as the verdicts say
pub later-due-hurts :
    Passes (with_d 4) × (Passes (with_d 5) → ⊥) × (asked_verdict_says (verdict_answer (with_d 4)) ≡ pass 24)
    × (asked_verdict_says (verdict_answer (with_d 5)) ≡ fail 4 1 5 5)
unfolding seen
later-due-hurts =
    let first = plan_check-lawful (with_d 4) (ap (λ s. s.checked) computed.0) in
    let then' = plan_check-lawful (with_d 5) (ap (λ s. s.checked) computed.1) in (
      (pass-exactly (with_d 4) first).0 (ap (λ s. s.passes) computed.0),
      λ rule. true-not-false (sym ((pass-exactly (with_d 5) then').1 rule) ∙ ap (λ s. s.passes) computed.1),
      ap (λ s. s.said) computed.0,
      ap (λ s. s.said) computed.1,
    )
