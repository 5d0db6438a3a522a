-- The share of the stint that is read.
use Rattle.base.proofs.Prelude.{◌+◌, ◌-◌, ◌≡◌, ap, ◌∙◌, cond, min, arith, take}
use Rattle.base.specs.Count.{count_of}
use Rattle.sound.specs.Served.{works_for}
use Rattle.stretch.specs.Stints.{spelled}
use Rattle.run.specs.Numbers.{stint_at}
use Rattle.bars.proofs.Spelling.{stints_left, stints-all, stints-none, stints-next, count-stretch, count-nothing, share-most}
use Rattle.bars.proofs.cells.worked_before.Goals as goal

pub loop-i-init : goal.loop-i-init
loop-i-init c =
    let all = ap (λ ss. count_of (works_for c.args.k) (take c.args.t (spelled ss))) (stints-all c.args.list.now c.args.stints) in
    record { small = omega arith; same = omega (arith, all) }

pub overflow_add-work : goal.overflow_add-work
overflow_add-work c =
    let most = share-most (works_for c.args.k c.stint_at-stint.result.used) c.min-days.result in
    omega (arith, c.ranges.t, c.loop-i.invariant.small, c.share-work.ensures.exact, most, c.min-days.ensures)

pub overflow_sub-left : goal.overflow_sub-left
overflow_sub-left c = omega (arith, c.min-days.ensures)

pub loop-i-preserved : goal.loop-i-preserved
loop-i-preserved c =
    let list = c.args.list.now in
    let n = c.args.stints in
    let i = c.loop-i.i in
    let left = c.loop-i.left in
    let s = stint_at list i in
    let f = works_for c.args.k in
    let is = c.stint_at-stint.ensures.exact in
    let rest = spelled (stints_left list n (i + 1)) in
    let days : c.min-days.result ≡ min left s.length.0 = c.min-days.ensures ∙ ap (λ x. min left x.length.0) is in
    let own : c.share-work.result ≡ cond (f s.used) (min left s.length.0) 0 =
    c.share-work.ensures.exact ∙ ap (λ x. cond (f x.used) c.min-days.result 0) is ∙ ap (λ m. cond (f s.used) m 0) days in
    let step = ap (λ us. count_of f (take left us)) (stints-next list n i (omega arith)) ∙ count-stretch f s.length.0 left s.used rest in
    let later = ap (λ m. count_of f (take (left - m) rest)) days in
    let most = share-most (f s.used) (min left s.length.0) in
    record {
      small = omega (arith, c.loop-i.invariant.small, own, days, most);
      same = omega (arith, c.loop-i.invariant.same, step, own, later);
    }

pub returns : goal.returns
returns c =
    let f = works_for c.args.k in
    let none = ap (λ us. count_of f (take c.loop-i.left us)) (stints-none c.args.list.now c.args.stints c.loop-i.i (omega arith))
    ∙ count-nothing f c.loop-i.left in
    record { exact = omega (arith, c.loop-i.invariant.same, none) }
