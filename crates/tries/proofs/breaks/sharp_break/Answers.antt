-- a plan that passes has no break; else the intervals are asked one after the other
use Rattle.base.proofs.Prelude.{sym, ◌∙◌, arith}
use Rattle.demand.proofs.Verdict.{passes-of-pass}
use Rattle.sound.proofs.Sharp.{passes-sharply}
use Rattle.tries.specs.Tries.{sharp_break, all_breaks}
use Rattle.tries.proofs.{SharpBreaks.sharp-none, Searching.{left_start, tries-left-next, left-none, left-last, points_here}}
use Rattle.tries.proofs.breaks.sharp_break.Goals as goal

pub returns-then-passes : goal.returns-then-passes
returns-then-passes c =
    let ok = c.requires.lawful in
    sharp-none c.args.p ok (passes-sharply c.args.p (passes-of-pass c.args.p ok (sym c.passes.ensures ∙ c.if-passes.true)))

pub overflow_add-l-end : goal.overflow_add-l-end
overflow_add-l-end c = omega (arith, c.multiple-l-end.ensures.exact, c.requires.lawful.h_max)

pub break_in-requires : goal.break_in-requires
break_in-requires c = record {
  ready = c.requires;
  l_bound = omega (arith, c.multiple-l-end.ensures.exact, c.requires.lawful.h_max, c.loop-l-test.true);
}

pub returns-in-Some : goal.returns-in-Some
unfolding sharp_break all_breaks
returns-in-Some c =
    points_here c.loop-l.invariant (omega (arith, c.multiple-l-end.ensures.exact, c.loop-l-test.true)) _ c.in-Some.ensures

pub loop-l-preserved : goal.loop-l-preserved
loop-l-preserved c =
    tries-left-next c.loop-l.invariant (omega (arith, c.multiple-l-end.ensures.exact, c.loop-l-test.true)) c.in_default.ensures

pub returns-in_default : goal.returns-in_default
unfolding sharp_break all_breaks
returns-in_default c =
    left-last c.loop-l.invariant (omega (arith, c.multiple-l-end.ensures.exact, c.loop-l-test.true))
    (omega (arith, c.multiple-l-end.ensures.exact)) c.in_default.ensures
