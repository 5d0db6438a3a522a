-- `walked` meets its contract: with none of the values before the place does the plan pass.
use Rattle.base.proofs.Prelude.{ℕ, ◌-◌, ◌≤◌, ◌<◌, ◌≡◌, sym, ◌∙◌, false, arith, get_or}
use Rattle.slack.specs.{Slack.passes_with, inner.Values.HoldsValues}
use Rattle.slack.proofs.{Upward.{tried-found, tried-more, tried-none}, halving.walked.Statement.statement}
use Rattle.slack.proofs.halving.walked.Tie as tie

abbrev invariant-loop : tie.invariant-loop-i
invariant-loop p place letter count list i₀ i =
    record { upto : i ≤ count; tried : (j : ℕ) → j < i → passes_with p place letter (get_or list j 0) ≡ false }

abbrev decreases-loop : tie.decreases-loop-i
decreases-loop p place letter count list i₀ i = count - i

listed : (c : tie.Start invariant-loop decreases-loop)
    → HoldsValues c.args.p c.args.place c.args.letter c.args.values.count c.args.values.list
listed c = c.requires.1

loop-holds : tie.Need-loop-i-init invariant-loop decreases-loop
loop-holds c = record { upto = omega arith; tried = λ j h. absurd (omega arith) }

passes-with-requires : tie.Need-passes_with-requires invariant-loop decreases-loop
passes-with-requires c κs = c.requires.0

returns : tie.Need-returns-then-passes_with invariant-loop decreases-loop
returns c =
    let at = c.before.before.before in
    tried-found _ _ _ _ _ (listed at.before.before) _ at.loop-i.invariant.tried (omega arith)
    (sym c.passes_with.ensures ∙ c.if-passes_with.true)

loop-again : tie.Need-loop-i-preserved invariant-loop decreases-loop
loop-again c =
    let at = c.before.before.before in
    record {
      upto = omega arith;
      tried = tried-more _ _ _ _ _ (listed at.before.before) _ at.loop-i.invariant.tried
          (sym c.passes_with.ensures ∙ c.if-passes_with.false);
    }

returns-2 : tie.Need-returns invariant-loop decreases-loop
returns-2 c =
    let at = c.before in
    tried-none _ _ _ _ _ (listed at.before.before) _ at.loop-i.invariant.tried (omega arith)

pub walked_spec : {M : Type 1} → statement M
walked_spec =
    tie.close (tie.spec
    invariant-loop decreases-loop loop-holds (λ c. omega (arith, (listed c.before.before.before).few))
    (λ c. omega (arith, (listed c.before.before.before).few)) passes-with-requires returns
    (λ c. omega arith) (λ c. omega arith) loop-again returns-2)
