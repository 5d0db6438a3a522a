-- The test of the definition is the code's, less J on both sides.
use Rattle.base.proofs.Prelude.{ℕ, ◌+◌, ◌-◌, ◌/◌, ◌≡◌, sym, ap, ◌∙◌, arith}
use Rattle.rules.specs.{declared.BatteryString.BatteryString, Demand.jobs}
use Rattle.laws.proofs.{Jobs.{jobs-short, jobs-from}, Lawful.LawfulString}
use Rattle.verdict.proofs.Asked.{jobs-le}
use Rattle.verdict.proofs.asking.jobs_in.Goals as goal

some : (s : BatteryString) (w spare : ℕ) → LawfulString s → spare + s.d.0 ≡ w + s.j.0 → spare / s.t.0 + 1 ≡ jobs s w
some s w spare ok e =
    let same : spare ≡ w + s.j.0 - s.d.0 = omega arith in
    ap (λ n. n / s.t.0 + 1) same ∙ sym (jobs-from s w (omega arith))

pub overflow_add-result : goal.overflow_add-result
overflow_add-result c =
    let late = c.requires.j_max in
    omega (arith, some c.args.s c.args.w c.in-Some.spare c.requires (omega arith), jobs-le c.args.s c.args.w c.requires)

pub returns-in-Some : goal.returns-in-Some
returns-in-Some c =
    let late = c.requires.j_max in
    some c.args.s c.args.w c.in-Some.spare c.requires (omega arith)

pub returns-in-None : goal.returns-in-None
returns-in-None c =
    let late = c.requires.j_max in
    sym (jobs-short c.args.s c.args.w (omega arith))
