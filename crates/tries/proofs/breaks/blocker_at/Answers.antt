-- the places are asked one after the other
use Rattle.base.proofs.Prelude.{◌+◌, ◌≤◌, ◌≡◌, sym, ap, ◌∙◌, true, false, arith, get_or}
use Rattle.base.specs.Count.{first_of}
use Rattle.base.proofs.FirstOf.{first_of-here, first_of-later, first_of-end}
use Rattle.rules.specs.Plan.{string_at}
use Rattle.tries.specs.Tries.{break_at, can_block, is_broken}
use Rattle.tries.proofs.{SharpBreaks.{none-blocks, blocker-over, blocker-cannot, not-over}, Places.{many-strings, string-here, lawful-here}, Searching.{left_start, tries-left-next, left_found, left-none, blocked-flat}}
use Rattle.tries.proofs.breaks.blocker_at.Goals as goal
use Rattle.tries.proofs.breaks.blocker_at.Goals.{else-can_block-via-then-can_block+else-l-demand_but, else-can_block-via-else-can_block}

pub returns-then-demand_but-l : goal.returns-then-demand_but-l
returns-then-demand_but-l c =
    sym (none-blocks c.args.p c.args.l c.args.b (omega (arith, c.demand_but.ensures, c.if-demand_but-l.true)))

pub can_block-requires : goal.can_block-requires
can_block-requires c = lawful-here c.requires.ready c.loop-i.invariant.counted c.loop-i.i c.loop-i-test.true

pub returns-then-l-demand_but : goal.returns-then-l-demand_but
returns-then-l-demand_but c =
    let p = c.args.p in
    let y = break_at c.args.l c.args.b (c.loop-i.i + 1) in
    let here = string-here c.requires.ready c.loop-i.invariant.counted c.loop-i.i in
    let can = ap (can_block p c.args.l c.args.b) here ∙ sym c.can_block.ensures ∙ c.if-can_block.true in
    let over = blocker-over p y c.requires.le_b can (omega (arith, c.demand_but-then-can_block.ensures, c.if-l-demand_but.true)) in
    let within : c.loop-i.i + 1 ≤ p.n = omega (arith, many-strings c.requires.ready c.loop-i.invariant.counted, c.loop-i-test.true) in
    sym (left_found c.loop-i.invariant.left within y (first_of-here (is_broken p) y _ over))
    ∙ blocked-flat p c.requires.ready c.args.l c.args.b

pub loop-i-preserved : goal.loop-i-preserved
loop-i-preserved c =
    let p = c.args.p in
    let y = break_at c.args.l c.args.b (c.loop-i.i + 1) in
    let within : c.loop-i.i + 1 ≤ p.n = omega (arith, many-strings c.requires.ready c.loop-i.invariant.counted, c.loop-i-test.true) in
    let whole : is_broken p y ≡ false =
    elim c.else-can_block.branch [
      | else-can_block-via-then-can_block+else-l-demand_but w ↦
          not-over p y (omega (arith, w.demand_but-then-can_block.ensures, w.if-l-demand_but.false))
      | else-can_block-via-else-can_block w ↦
          let here = string-here c.requires.ready c.loop-i.invariant.counted c.loop-i.i in
          blocker-cannot p y c.requires.le_b (ap (can_block p c.args.l c.args.b) here ∙ sym c.can_block.ensures ∙ w.if-can_block.false)
    ] in
    record {
      counted = c.loop-i.invariant.counted;
      left = tries-left-next c.loop-i.invariant.left within (first_of-later (is_broken p) y _ whole ∙ first_of-end (is_broken p));
    }

pub returns : goal.returns
returns c =
    let past = many-strings c.requires.ready c.loop-i.invariant.counted in
    sym (left-none c.loop-i.invariant.left (omega (arith, past, c.loop-i-test.false)))
    ∙ blocked-flat c.args.p c.requires.ready c.args.l c.args.b
