-- `naming::multiples::over_place` meets its contract: no place that is byte-passed is over.
use Rattle.base.proofs.Prelude.{ℕ, ◌+◌, ◌-◌, ◌≤◌, ◌≡◌, sym, ap, ◌∙◌, Bool, ltb, arith, rules}
use Rattle.base.specs.Count.{least_from}
use Rattle.rules.specs.{declared.Plan.Plan, Plan.multiple_of}
use Rattle.naming.specs.Periods.{first_to, over_place}
use Rattle.naming.proofs.Searches.{least-here, least-later, least-none}
use Rattle.naming.proofs.multiples.over_place.Statement.{statement}
use Rattle.naming.proofs.multiples.over_place.Tie as tie

abbrev over : Plan → ℕ → Bool
over p i = ltb 100000 (multiple_of (first_to p i))

abbrev invariant-loop : tie.invariant-loop-i
invariant-loop p n i₀ i = (1 ≤ i) × (i ≤ p.n + 1) × (least_from (over p) i (p.n + 1 - i) ≡ over_place p)

abbrev decreases-loop : tie.decreases-loop-i
decreases-loop p n i₀ i = p.n + 1 - i

loop-holds : tie.Need-loop-i-init invariant-loop decreases-loop
unfolding over_place
loop-holds c =
    let all : c.args.p.n + 1 - 1 ≡ c.args.p.n = omega arith in
    (omega arith, omega arith, ap (least_from (over c.args.p) 1) all)

returns : tie.Need-returns-then-over_with invariant-loop decreases-loop
returns c =
    let o = c.before.before.before in
    let p = o.args.p in
    let here = sym c.over_with.ensures ∙ c.if-over_with.true in
    sym (least-here (over p) o.loop-i.i (p.n + 1 - o.loop-i.i) (omega arith) here) ∙ o.loop-i.invariant.2

loop-again : tie.Need-loop-i-preserved invariant-loop decreases-loop
loop-again c =
    let o = c.before.before.before in
    let p = o.args.p in
    let not-here = sym c.over_with.ensures ∙ c.if-over_with.false in
    let less : p.n + 1 - o.loop-i.i - 1 ≡ p.n + 1 - (o.loop-i.i + 1) = omega arith in (
      omega arith,
      omega arith,
      sym (least-later (over p) o.loop-i.i (p.n + 1 - o.loop-i.i) (omega arith) not-here ∙ ap (least_from (over p)
          (o.loop-i.i + 1)) less)
          ∙ o.loop-i.invariant.2,
    )

returns-2 : tie.Need-returns invariant-loop decreases-loop
returns-2 c =
    let o = c.before in
    let p = o.args.p in
    let less : p.n + 1 - o.loop-i.i ≡ 0 = omega arith in
    sym (ap (least_from (over p) o.loop-i.i) less ∙ least-none (over p) o.loop-i.i) ∙ o.loop-i.invariant.2

pub over_place_spec : {M : Type 1} → statement M
over_place_spec =
    tie.close (tie.spec
    invariant-loop decreases-loop loop-holds (λ c κs. search rules) returns (λ c. omega arith) (λ c. omega arith) loop-again returns-2)
