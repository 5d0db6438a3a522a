-- A string's turn as interval l comes from the one before it: where its step was due, what it asks more, and when it steps next.
use Rattle.base.proofs.Prelude.{ℕ, ◌+◌, ◌-◌, ◌≤◌, ◌<◌, ◌≡◌, ap, ◌∙◌, cond, arith, eqb, get_or}
use Rattle.rules.specs.{declared.BatteryString.BatteryString, declared.Plan.Plan, Plan.no_string}
use Rattle.verdict.specs.{inner.Asked.{Ready, asked_of}, inner.Steps.{job_of, step_after}}
use Rattle.verdict.proofs.{Asked.asked_of-le, Stepping.{step-soon, step_by, asked-more}, StringSums.string-at}

module _ (p : Plan) (ready : Ready p) (l i due : ℕ) (pos : 1 ≤ l) (inside : i < p.n)
    (is : due ≡ step_after (l - 1) (get_or p.strings i no_string)) where
  abbrev here : BatteryString
  here = get_or p.strings i no_string

  -- what it asks more
  pub turn-more : (x job more : ℕ) → job ≡ job_of p x here → more ≡ cond (eqb due l) job 0
      → more + asked_of p x (l - 1) here ≡ asked_of p x l here
  turn-more x job more e m =
      ap (λ r. r + asked_of p x (l - 1) here) (m ∙ ap (λ k. cond (eqb due l) k 0) e)
      ∙ asked-more p x here (string-at p ready i inside).lawful l due pos is

  -- which is small
  pub turn-small : (x job more : ℕ) → l ≤ 101000 → job ≡ job_of p x here → more ≡ cond (eqb due l) job 0 → more ≤ 202000000
  turn-small x job more short e m =
      omega (arith, turn-more x job more e m, asked_of-le p x l here (string-at p ready i inside) short)

  -- its next step
  pub turn-step : (every later : ℕ) → every ≡ here.t.0 → later ≡ cond (eqb due l) (due + every) due → later ≡ step_after l here
  turn-step every later e m =
      m ∙ ap (λ t. cond (eqb due l) (due + t) due) e ∙ step_by here (string-at p ready i inside).lawful l due pos is

  pub verdict-turn-due : l ≤ 101000 → due ≤ 102000
  verdict-turn-due short = omega (arith, step-soon here (string-at p ready i inside).lawful (l - 1))

  pub turn-every : (every : ℕ) → every ≡ here.t.0 → every ≤ 1000
  turn-every every e = omega (arith, (string-at p ready i inside).lawful.t_max)
