-- What the table says of demand 3, that a plan which passes never misses. With equation 7 as printed it would be false: P5 passes, and P6,
-- a lawful list for the same plan, misses. With two days or more taken off E it would be false too: a day is all that can be taken off.
use Rattle.base.proofs.Prelude.{ℕ, ◌≤◌, ◌≡◌, [], ◌∷◌}
use Rattle.rules.specs.{Refusal.run_answer, Said.{miss, asked_outcome_says}, Demand.Passes}
use Rattle.rules.proofs.Worked.{release, releases, three}
use Rattle.results.specs.Blockers.{work, hold_less, PassesBy}
use Rattle.results.proofs.{SideBySide.{p5, tight, row, table, side_by_side}, Weaker.{weaker, desk-rule}}

-- ---- Equation 7 as printed

pub passes-as-printed : PassesBy work p5
unfolding table row
passes-as-printed = side_by_side.1.1.0.printed

pub misses-all-the-same : asked_outcome_says (run_answer p5 (releases (release 0 3 2 ∷ release 1 2 1 ∷ release 2 1 3 ∷ []))) ≡ miss 8 1
unfolding table row
misses-all-the-same = side_by_side.1.1.0.ran

-- ---- Two days or more

pub passes-by-more : (k : ℕ) → 2 ≤ k → PassesBy (hold_less k) tight
unfolding table row
passes-by-more k two_or_more = weaker 2 k two_or_more tight side_by_side.1.1.1.0.less_two

pub misses-by-more : asked_outcome_says (run_answer tight (releases (release 0 2 2 ∷ release 1 1 1 ∷ []))) ≡ miss 2 1
unfolding table row
misses-by-more = side_by_side.1.1.1.0.ran

-- ---- One day less is too strict

-- P4's strings with nobody permitted: failed before W-205, and pass now
pub failed-before : PassesBy (hold_less 0) three → ⊥
unfolding table row
failed-before = side_by_side.1.0.whole

pub passes-now : Passes three
unfolding table row
passes-now = (desk-rule three).1 side_by_side.1.0.less_one
