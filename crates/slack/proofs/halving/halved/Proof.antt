-- `halved` meets its contract: below `low` no value passes and from `high` on each does, since easing never hurts.
use Rattle.base.proofs.Prelude.{◌-◌, ◌≤◌, arith, take}
use Rattle.slack.specs.{Slack.passes_with, inner.Values.HoldsValues}
use Rattle.slack.proofs.{ByHalves.Between, Upward.{listed_start, halved-lower, halved-upper, halved-within, halved-found, halved_none}, halving.halved.Statement.statement}
use Rattle.slack.proofs.halving.halved.Tie as tie

abbrev invariant-loop : tie.invariant-loop-low
invariant-loop p place letter count list low₀ high₀ low high = Between (passes_with p place letter) (take count list) low high

abbrev decreases-loop : tie.decreases-loop-low
decreases-loop p place letter count list low₀ high₀ low high = high - low

listed : (c : tie.Start invariant-loop decreases-loop)
    → HoldsValues c.args.p c.args.place c.args.letter c.args.values.count c.args.values.list
listed c = c.requires.1.1

-- `high` is at most 1,001
in_list : (c : tie.At-loop-low invariant-loop decreases-loop) → c.loop-low.high ≤ 1001
in_list c =
    let places = listed c.before.before in
    omega (arith, halved-within _ _ _ _ _ places _ _ c.loop-low.invariant, places.few)

loop-holds : tie.Need-loop-low-init invariant-loop decreases-loop
loop-holds c = listed_start _ _ _ _ _ (listed c.before)

passes-with-requires : tie.Need-passes_with-requires invariant-loop decreases-loop
passes-with-requires c κs = c.requires.0

loop-again : tie.Need-loop-low-preserved-then-passes_with invariant-loop decreases-loop
loop-again c =
    let at = c.before.before.before in
    let start = at.before.before in
    let pre = start.requires in
    let placed = pre.0 in
    halved-lower _ _ _ _ _ (listed start) placed.low placed.high (omega (arith, placed.few, placed.ten)) pre.1.0 _ _ _
    at.loop-low.invariant
    (omega arith) (omega arith) _ c.passes_with.ensures c.if-passes_with.true

loop-again-2 : tie.Need-loop-low-preserved invariant-loop decreases-loop
loop-again-2 c =
    let at = c.before.before.before in
    let start = at.before.before in
    let pre = start.requires in
    let placed = pre.0 in
    halved-upper _ _ _ _ _ (listed start) placed.low placed.high (omega (arith, placed.few, placed.ten)) pre.1.0 _ _ _
    at.loop-low.invariant
    (omega arith) (omega arith) _ c.passes_with.ensures c.if-passes_with.false

returns : tie.Need-returns-then-low-count invariant-loop decreases-loop
returns c =
    let at = c.before.before in
    halved-found _ _ _ _ _ (listed at.before.before) _ _ at.loop-low.invariant (omega arith) c.if-low-count.true

returns-2 : tie.Need-returns invariant-loop decreases-loop
returns-2 c =
    let at = c.before.before in
    halved_none _ _ _ _ _ (listed at.before.before) _ _ at.loop-low.invariant (omega arith) (omega arith)

pub halved_spec : {M : Type 1} → statement M
halved_spec =
    tie.close (tie.spec
    invariant-loop decreases-loop loop-holds (λ c. omega arith) (λ c. omega (arith, in_list c.before))
    (λ c. omega (arith, in_list c.before))
    (λ c. omega (arith, in_list c.before)) passes-with-requires (λ c. omega arith) loop-again
    (λ c. omega (arith, in_list c.before.before.before))
    (λ c. omega arith) loop-again-2 (λ c. omega (arith, (listed c.before.before.before.before).few))
    (λ c. omega (arith, (listed c.before.before.before.before).few)) returns returns-2)
