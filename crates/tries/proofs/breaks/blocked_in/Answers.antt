-- the blockings are asked one after the other
use Rattle.base.proofs.Prelude.{sym, ◌∙◌, arith}
use Rattle.tries.proofs.{SharpBreaks.longest-within, Searching.{left_start, tries-left-next, left_found, left-none, left-last}}
use Rattle.tries.proofs.breaks.blocked_in.Goals as goal

pub blocker_at-requires-clause-b_le_l : goal.blocker_at-requires-clause-b_le_l
blocker_at-requires-clause-b_le_l c =
    omega (arith, c.longest_block-days-end.ensures, longest-within c.args.p c.args.l, c.loop-days-test.true)

pub returns-in-Some : goal.returns-in-Some
returns-in-Some c = (
  c.loop-days.auto.days,
  left_found c.loop-days.invariant (omega (arith, c.longest_block-days-end.ensures, c.loop-days-test.true)) _ (sym c.in-Some.ensures),
)

pub loop-days-preserved : goal.loop-days-preserved
loop-days-preserved c =
    tries-left-next c.loop-days.invariant (omega (arith, c.longest_block-days-end.ensures, c.loop-days-test.true))
    (sym c.in_default.ensures)

pub returns : goal.returns
returns c = left-none c.loop-days.invariant (omega (arith, c.longest_block-days-end.ensures, c.loop-days-test.false))

pub returns-in_default : goal.returns-in_default
returns-in_default c =
    left-last c.loop-days.invariant (omega (arith, c.longest_block-days-end.ensures, c.loop-days-test.true))
    (omega (arith, c.longest_block-days-end.ensures)) (sym c.in_default.ensures)
