-- with no blocking first, then with some
use Rattle.base.proofs.Prelude.{refl, sym, flat_map, arith}
use Rattle.base.specs.Count.{up_from}
use Rattle.base.proofs.FirstOf.{first_of-here, first_of-later}
use Rattle.tries.specs.Tries.{break_at, longest_block, blocked_breaks, is_broken}
use Rattle.tries.proofs.{SharpBreaks.{nobody-over, not-over}, Searching.points-as}
use Rattle.tries.proofs.breaks.break_in.Goals as goal

pub returns-then-l-demand_but : goal.returns-then-l-demand_but
returns-then-l-demand_but c =
    let p = c.args.p in
    let y = break_at c.args.l 0 0 in
    (tt, first_of-here (is_broken p) y _ (nobody-over p y refl (omega (arith, c.demand_but.ensures, c.if-l-demand_but.true))))

pub returns : goal.returns
returns c =
    let p = c.args.p in
    let y = break_at c.args.l 0 0 in
    let blocked = flat_map (blocked_breaks p c.args.l) (up_from 1 (longest_block p c.args.l)) in
    let whole = not-over p y (omega (arith, c.demand_but.ensures, c.if-l-demand_but.false)) in
    points-as c.blocked_in.result _ _ (sym (first_of-later (is_broken p) y blocked whole)) c.blocked_in.ensures
