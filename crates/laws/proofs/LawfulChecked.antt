-- The checks find nothing in a lawful plan, so a lawful plan gets the answers of the rules.
use Rattle.base.proofs.Prelude.{ℕ, suc, ◌≡◌, refl, ◌∙◌, List, [], ◌∷◌}
use Rattle.faults.specs.Checks.{Lawful}
use Rattle.base.specs.Count.{All}
use Rattle.faults.proofs.Checks.{then-lawful}
use Rattle.rules.specs.{declared.BatteryString.BatteryString, declared.Plan.Plan, Plan.strings_of, Refusal.{head_check, strings_check, plan_check}}
use Rattle.laws.specs.Lawful.{LawfulString, LawfulPlan}
use Rattle.laws.proofs.Lawful.{LawfulHead, head_check-good, string_lawful-yes, multiple_check-good}

strings_check-good : (k : ℕ) (ss : List BatteryString) → All LawfulString ss → strings_check k ss ≡ Lawful
unfolding strings_check
strings_check-good k [] h = refl
strings_check-good k (s ∷ ss) h = rw (string_lawful-yes s h.0, strings_check-good (suc k) ss h.1)

pub lawful-checked : (p : Plan) → LawfulPlan p → plan_check p ≡ Lawful
unfolding plan_check
lawful-checked p ok =
    let head : LawfulHead p.n p.run.0 =
    record { n_pos = ok.n_pos; n_max = ok.n_max; run_pos = ok.run_pos; run_max = ok.run_max } in
    then-lawful (head_check 0 p.n p.run.0) _ (head_check-good 0 p.n p.run.0 head)
    ∙ then-lawful (strings_check 1 (strings_of p)) _ (strings_check-good 1 (strings_of p) ok.each)
    ∙ multiple_check-good 0 p ok.h_max
