-- `lawful_values` meets its contract: the lawful values before the k-th stand in front, and those left are still to come.
use Rattle.base.proofs.Prelude.{◌-◌, arith, refl, rules}
use Rattle.slack.proofs.{Kept.{KeptTo, kept-start, kept_next, kept-end}, values.lawful_values.Statement.statement}
use Rattle.slack.proofs.values.lawful_values.Tie as tie

abbrev invariant-loop : tie.invariant-loop-k
invariant-loop p place letter list₀ count₀ k₀ list count k = KeptTo p place letter list count k

abbrev decreases-loop : tie.decreases-loop-k
decreases-loop p place letter list₀ count₀ k₀ list count k = 1001 - k

loop-holds : tie.Need-loop-k-init invariant-loop decreases-loop
loop-holds c = kept-start _ _ _ _ refl

lawful-with-requires : tie.Need-lawful_with-requires invariant-loop decreases-loop
lawful-with-requires c κs = c.requires

loop-again : tie.Need-loop-k-preserved invariant-loop decreases-loop
loop-again c =
    let lawful = c.before in
    let value = lawful.before in
    let at = value.before.before in
    kept_next _ _ _ _ _ _ _ at.loop-k.invariant (omega arith) value.value_at-v.ensures _
    lawful.lawful_with.ensures _ c.one_if-count.ensures.0

returns : tie.Need-returns invariant-loop decreases-loop
returns c = kept-end _ _ _ _ _ _ c.loop-k.invariant (omega arith)

pub lawful_values_spec : {M : Type 1} → statement M
lawful_values_spec =
    tie.close (tie.spec
    invariant-loop decreases-loop loop-holds (λ c κs. omega arith) (λ c. omega arith) (λ c. omega arith) lawful-with-requires
    (λ c κs. search rules)
    (λ c. omega arith) (λ c. omega arith) (λ c. omega arith) loop-again returns)
