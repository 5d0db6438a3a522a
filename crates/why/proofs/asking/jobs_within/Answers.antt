-- the test of the definition is the code's, less J on both sides
use Rattle.base.proofs.Prelude.{ℕ, ◌+◌, ◌-◌, ◌/◌, ◌≤◌, ◌<◌, ◌≡◌, sym, ap, ◌∙◌, arith}
use Rattle.rules.specs.{declared.BatteryString.BatteryString, Demand.jobs}
use Rattle.laws.proofs.{Jobs.{jobs-short, jobs-from}, Lawful.LawfulString}
use Rattle.why.proofs.asking.jobs_within.Goals as goal

module _ (s : BatteryString) (w : ℕ) (ok : LawfulString s) where
  none : w < s.d.0 - s.j.0 → 0 ≡ jobs s w
  none h = sym (jobs-short s w (omega (arith, ok.j_max)))

  some : (rest : ℕ) → s.d.0 - s.j.0 ≤ w → rest ≡ w - (s.d.0 - s.j.0) → rest / s.t.0 + 1 ≡ jobs s w
  some rest h e =
      let late = ok.j_max in
      let same : rest ≡ w + s.j.0 - s.d.0 = omega arith in
      ap (λ n. n / s.t.0 + 1) same ∙ sym (jobs-from s w (omega arith))

pub returns-in-Some : goal.returns-in-Some
returns-in-Some c = record {
  exact = some c.args.s c.args.w c.requires c.in-Some.rest (omega (arith, c.in-Some.ensures)) (omega (arith, c.in-Some.ensures));
}

pub returns-in-None : goal.returns-in-None
returns-in-None c = record { exact = none c.args.s c.args.w c.requires (omega (arith, c.in-None.ensures)) }
