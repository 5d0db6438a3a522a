-- where some string fits it is the smaller of the interval and the longest block; from the largest D on that is 0
use Rattle.base.proofs.Prelude.{◌<◌, sym, ◌∙◌, arith, dec_le, le-leb, leb-true}
use Rattle.base.proofs.Lists.{true-not-false}
use Rattle.rules.specs.Plan.{leeway_min}
use Rattle.laws.proofs.Demand.{block_limit-early}
use Rattle.why.proofs.{LongestBlock.limit-where-fits, Walking.ready}
use Rattle.why.proofs.checked.CheckedPlan.limit_at.Goals as goal

pub returns-then-someone_fits : goal.returns-then-someone_fits
returns-then-someone_fits c =
    let p = c.args.self.now in
    let fits = leb-true _ _ (sym c.someone_fits.ensures.exact ∙ c.if-someone_fits.true) in
    record { exact = omega (arith, limit-where-fits p.plan (ready p) c.args.l fits) }

pub returns-else-someone_fits : goal.returns-else-someone_fits
returns-else-someone_fits c =
    let p = c.args.self.now.plan in
    let none : c.args.l < leeway_min p =
    elim (dec_le (leeway_min p) c.args.l) [
      | yes fits ↦ absurd (true-not-false (sym (le-leb _ _ fits) ∙ sym c.someone_fits.ensures.exact ∙ c.if-someone_fits.false))
      | no later ↦ omega arith
    ] in
    record { exact = sym (block_limit-early p c.args.l none) }
