-- `naming::multiples::smaller_fit` meets its contract: nothing that is byte-passed fits.
use Rattle.base.proofs.Prelude.{◌-◌, ◌≤◌, ◌≡◌, refl, sym, ◌∙◌, arith, rules}
use Rattle.base.specs.Divisors.{greatest_to}
use Rattle.naming.specs.Periods.{stands_at, smaller_fit}
use Rattle.naming.proofs.Periods.{fit, no-fit, fits-here, fits-lower, fits-zero}
use Rattle.naming.proofs.multiples.smaller_fit.Statement.{statement}
use Rattle.naming.proofs.multiples.smaller_fit.Tie as tie

abbrev invariant-loop : tie.invariant-loop-t
invariant-loop p i d t₀ t = (t ≤ (stands_at p i).t.0) × (greatest_to (fit p i) (t - 1) ≡ smaller_fit p i)

abbrev decreases-loop : tie.decreases-loop-t
decreases-loop p i d t₀ t = t

loop-holds : tie.Need-loop-t-init invariant-loop decreases-loop
unfolding smaller_fit
loop-holds c = (omega arith, refl)

returns : tie.Need-returns-then-t-d invariant-loop decreases-loop
returns c =
    let o = c.before.before in
    let g = o.args in
    sym (no-fit g.p g.i (o.loop-t.t - 1) c.if-t-d.true) ∙ o.loop-t.invariant.1

returns-2 : tie.Need-returns-then-fits_with invariant-loop decreases-loop
returns-2 c =
    let o = c.before.before.before.before in
    let g = o.args in
    sym (fits-here g.p g.i (o.loop-t.t - 1) (omega arith) c.if-t-d.false
    (sym c.fits_with.ensures ∙ c.if-fits_with.true)) ∙ o.loop-t.invariant.1

loop-again : tie.Need-loop-t-preserved invariant-loop decreases-loop
loop-again c =
    let o = c.before.before.before.before in
    let g = o.args in (
      omega arith,
      sym (fits-lower g.p g.i (o.loop-t.t - 1) (omega arith) c.if-t-d.false
          (sym c.fits_with.ensures ∙ c.if-fits_with.false)) ∙ o.loop-t.invariant.1,
    )

returns-3 : tie.Need-returns invariant-loop decreases-loop
returns-3 c =
    let o = c.before in
    let g = o.args in
    sym (fits-zero g.p g.i (o.loop-t.t - 1) (omega arith)) ∙ o.loop-t.invariant.1

pub smaller_fit_spec : {M : Type 1} → statement M
smaller_fit_spec =
    tie.close (tie.spec
    invariant-loop decreases-loop (λ c. omega arith) (λ c. search rules) (λ c. omega arith) loop-holds (λ c. omega arith) returns
    (λ c κs. c.requires) returns-2 (λ c. omega arith) loop-again returns-3)
