-- The string of the turn goes on too.
use Rattle.base.proofs.Prelude.{◌-◌, ◌≤◌, ◌<◌, ◌≡◌, ◌∙◌, arith, length, get_or, length-set, get_or-set_other}
use Rattle.rules.specs.Plan.{strings_of, no_string}
use Rattle.base.proofs.{Lists.smallest_with-le, Filling.below_set}
use Rattle.verdict.specs.{inner.Asked.{asked_of, asked_by}, inner.Steps.step_after}
use Rattle.verdict.proofs.{Advancing.{turn-more, turn-small, turn-step, verdict-turn-due, turn-every}, StringSums.{strings-count, sum-at, sum-done, smallest-at, smallest-done}}
use Rattle.verdict.proofs.steps.Parts.advance.Goals as goal

pub loop-i-init : goal.loop-i-init
unfolding asked_by
loop-i-init c = record {
  upto = omega arith;
  size = c.requires.due_before.size;
  passed = λ j h. absurd (omega arith);
  left = λ j h k. c.requires.due_before.each j k;
  within = omega arith;
  few_keepers = omega arith;
  few_takers = omega arith;
  keepers = omega arith;
  takers = omega arith;
  soonest = omega (arith, smallest_with-le (step_after c.args.l) c.args.end (strings_of c.args.self.now.ready.plan));
}

pub overflow_add-keepers : goal.overflow_add-keepers
overflow_add-keepers c =
    let self = c.args.self.now in
    let i = c.loop-i.i in
    let inside = c.loop-i-test.true in
    let small = turn-small self.ready.plan self.ready.ready c.args.l i _ c.requires.le_l inside
    (c.loop-i.invariant.left i (omega arith) inside) 0 _ _ c.requires.l_bound (self.parted.kept i inside) c.more_at-keepers.ensures in
    omega (arith, self.ready.ready.lawful.n_max)

pub overflow_add-takers : goal.overflow_add-takers
overflow_add-takers c =
    let self = c.args.self.now in
    let i = c.loop-i.i in
    let inside = c.loop-i-test.true in
    let small = turn-small self.ready.plan self.ready.ready c.args.l i _ c.requires.le_l inside
    (c.loop-i.invariant.left i (omega arith) inside) 1 _ _ c.requires.l_bound (self.parted.took i inside) c.more_at-takers.ensures in
    omega (arith, self.ready.ready.lawful.n_max)

pub step_from-later-requires-clause-due_bound : goal.step_from-later-requires-clause-due_bound
step_from-later-requires-clause-due_bound c =
    let self = c.args.self.now in
    let i = c.loop-i.i in
    let inside = c.loop-i-test.true in
    verdict-turn-due self.ready.plan self.ready.ready c.args.l i _ c.requires.le_l inside (c.loop-i.invariant.left i (omega arith) inside)
    c.requires.l_bound

pub step_from-later-requires-clause-every_bound : goal.step_from-later-requires-clause-every_bound
step_from-later-requires-clause-every_bound c =
    let self = c.args.self.now in
    let i = c.loop-i.i in
    let inside = c.loop-i-test.true in
    turn-every self.ready.plan self.ready.ready c.args.l i _ c.requires.le_l inside (c.loop-i.invariant.left i (omega arith) inside) _
    (self.parted.times i inside)

pub loop-i-preserved : goal.loop-i-preserved
loop-i-preserved c =
    let self = c.args.self.now in
    let p = self.ready.plan in
    let ready = self.ready.ready in
    let l = c.args.l in
    let i = c.loop-i.i in
    let inv = c.loop-i.invariant in
    let inside = c.loop-i-test.true in
    let few = ready.lawful.n_max in
    let is = inv.left i (omega arith) inside in
    let due = get_or c.loop-i.next i 0 in
    let kept = turn-more p ready l i due c.requires.le_l inside is 0 _ _ (self.parted.kept i inside) c.more_at-keepers.ensures in
    let took = turn-more p ready l i due c.requires.le_l inside is 1 _ _ (self.parted.took i inside) c.more_at-takers.ensures in
    let later = turn-step p ready l i due c.requires.le_l inside is _ _ (self.parted.times i inside) c.step_from-later.ensures in
    let room : i < length c.loop-i.next = omega (arith, inv.size) in
    record {
      upto = omega arith;
      size = length-set c.loop-i.next i _ ∙ inv.size;
      passed = below_set (λ j w. w ≡ step_after l (get_or p.strings j no_string)) c.loop-i.next i _ 0 room inv.passed later;
      left = λ j h k. get_or-set_other c.loop-i.next i j _ 0 (λ e. omega arith) ∙ inv.left j (omega arith) k;
      within = omega arith;
      few_keepers = omega (
        arith,
        turn-small p ready l i due c.requires.le_l inside is 0 _ _ c.requires.l_bound (self.parted.kept i inside)
            c.more_at-keepers.ensures,
      );
      few_takers = omega (
        arith,
        turn-small p ready l i due c.requires.le_l inside is 1 _ _ c.requires.l_bound (self.parted.took i inside)
            c.more_at-takers.ensures,
      );
      keepers = omega (
        arith,
        inv.keepers,
        kept,
        sum-at p ready i inside (asked_of p 0 l),
        sum-at p ready i inside (asked_of p 0 (l - 1)),
      );
      takers = omega (
        arith,
        inv.takers,
        took,
        sum-at p ready i inside (asked_of p 1 l),
        sum-at p ready i inside (asked_of p 1 (l - 1)),
      );
      soonest = omega (arith, inv.soonest, later, smallest-at p ready i inside (step_after l) c.args.end);
    }

pub returns-clause-keepers : goal.returns-clause-keepers
returns-clause-keepers c =
    let p = c.args.self.now.ready.plan in
    let past : length (strings_of p) ≤ c.loop-i.i = omega (arith, strings-count p c.args.self.now.ready.ready, c.loop-i-test.false) in
    omega (
      arith,
      c.loop-i.invariant.keepers,
      sum-done (strings_of p) c.loop-i.i (asked_of p 0 c.args.l) past,
      sum-done (strings_of p) c.loop-i.i (asked_of p 0 (c.args.l - 1)) past,
    )

pub returns-clause-takers : goal.returns-clause-takers
returns-clause-takers c =
    let p = c.args.self.now.ready.plan in
    let past : length (strings_of p) ≤ c.loop-i.i = omega (arith, strings-count p c.args.self.now.ready.ready, c.loop-i-test.false) in
    omega (
      arith,
      c.loop-i.invariant.takers,
      sum-done (strings_of p) c.loop-i.i (asked_of p 1 c.args.l) past,
      sum-done (strings_of p) c.loop-i.i (asked_of p 1 (c.args.l - 1)) past,
    )

pub returns-clause-soonest : goal.returns-clause-soonest
returns-clause-soonest c =
    let p = c.args.self.now.ready.plan in
    let past : length (strings_of p) ≤ c.loop-i.i = omega (arith, strings-count p c.args.self.now.ready.ready, c.loop-i-test.false) in
    omega (arith, c.loop-i.invariant.soonest, smallest-done (strings_of p) c.loop-i.i (step_after c.args.l) c.args.end past)
