-- In the stint that is read, or behind it.
use Rattle.base.proofs.Prelude.{◌+◌, ◌-◌, ◌≤◌, ◌<◌, ◌≡◌, sym, ap, ◌∙◌, arith, get_or}
use Rattle.rules.specs.declared.Use.TheVariants.{Idle}
use Rattle.stretch.specs.Stints.{spelled}
use Rattle.run.specs.Numbers.{stint_at}
use Rattle.bars.proofs.Spelling.{stints_left, stints-all, stints-none, stints-next, day-within, day-behind}
use Rattle.bars.proofs.cells.use_on.Goals as goal

pub loop-i-init : goal.loop-i-init
loop-i-init c = ap (λ ss. get_or (spelled ss) c.args.t Idle) (stints-all c.args.list.now c.args.stints)

pub returns-then-left-stint : goal.returns-then-left-stint
returns-then-left-stint c =
    let list = c.args.list.now in
    let n = c.args.stints in
    let i = c.loop-i.i in
    let k = c.loop-i.left in
    let s = stint_at list i in
    let is = c.stint_at-stint.ensures.exact in
    let inside : k < s.length.0 = rw is at c.if-left-stint.true in
    record {
      exact = ap (λ x. x.used) is
          ∙ sym (day-within s.length.0 k s.used (spelled (stints_left list n (i + 1))) inside)
          ∙ ap (λ us. get_or us k Idle) (sym (stints-next list n i (omega arith)))
          ∙ c.loop-i.invariant;
    }

pub loop-i-preserved : goal.loop-i-preserved
loop-i-preserved c =
    let list = c.args.list.now in
    let n = c.args.stints in
    let i = c.loop-i.i in
    let k = c.loop-i.left in
    let s = stint_at list i in
    let is = c.stint_at-stint.ensures.exact in
    let long : c.stint_at-stint.result.length.0 ≡ s.length.0 = ap (λ x. x.length.0) is in
    let past : s.length.0 ≤ k = omega (arith, long, c.if-left-stint.false) in
    ap (λ m. get_or (spelled (stints_left list n (i + 1))) (k - m) Idle) long
    ∙ sym (day-behind s.length.0 k s.used (spelled (stints_left list n (i + 1))) past)
    ∙ ap (λ us. get_or us k Idle) (sym (stints-next list n i (omega arith)))
    ∙ c.loop-i.invariant

pub returns : goal.returns
returns c =
    record {
      exact = ap (λ us. get_or us c.loop-i.left Idle) (sym (stints-none c.args.list.now c.args.stints c.loop-i.i (omega arith)))
          ∙ c.loop-i.invariant;
    }
