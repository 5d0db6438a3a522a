-- A stint more, idle or not.
use Rattle.base.proofs.Prelude.{◌≡◌, ◌∙◌, arith, ap}
use Rattle.visits.specs.{OwnRun.{stints_visits, handed_out}, inner.Own.{stints_in, worked_visit}}
use Rattle.run.specs.Numbers.{stint_at}
use Rattle.visits.proofs.Joining.{named-fits, worked-ends, pushed-more, pushed-room, idle-more, handed-none, handed-more}
use Rattle.visits.proofs.own.joined.Goals as goal
use Rattle.visits.proofs.own.joined.Goals.{in-Some, in_default}

pub loop-i-init : goal.loop-i-init
loop-i-init c = handed-none c.args.numbers.now

pub visit_of-requires : goal.visit_of-requires
visit_of-requires c =
    rw c.stint_at.ensures.exact (named-fits c.args.numbers.now c.loop-i.i (λ j. omega (arith, c.type_inv.numbers j)))

pub push-requires-clause-last_bound : goal.push-requires-clause-last_bound
push-requires-clause-last_bound c = pushed-room _ _ c.loop-i.invariant.said c.loop-i.invariant.ends

pub push-requires-clause-v_bound : goal.push-requires-clause-v_bound
push-requires-clause-v_bound c =
    let last = c.requires.stints_end c.loop-i.i (omega arith) in
    let is = c.in-Some.ensures.exact ∙ ap worked_visit c.stint_at.ensures.exact in
    omega (arith, worked-ends _ _ is, last)

pub loop-i-preserved : goal.loop-i-preserved
loop-i-preserved c =
    let numbers = c.args.numbers.now in
    let i = c.loop-i.i in
    let vs = stints_visits (stints_in numbers i) in
    let last = c.requires.stints_end i (omega arith) in
    let h = c.loop-i.invariant in
    elim c.match-visit_of.branch [
      | in-Some w ↦
          handed-more numbers i c.loop-i.own _ h last
          (w.own-is ∙ w.push.ensures.exact
          ∙ pushed-more vs (stint_at numbers i) _ _ h.said (omega (arith, h.few, c.requires.stints_bound))
          (w.in-Some.ensures.exact ∙ ap worked_visit c.stint_at.ensures.exact))
      | in_default w ↦
          handed-more numbers i c.loop-i.own _ h last
          (w.own-is ∙ idle-more vs (stint_at numbers i) _ h.said (w.in_default.ensures.exact ∙ ap worked_visit c.stint_at.ensures.exact))
    ]

pub returns : goal.returns
returns c =
    let all : c.loop-i.i ≡ c.args.stints = omega arith in
    record { exact = c.loop-i.invariant.said ∙ ap (λ n. handed_out (stints_visits (stints_in c.args.numbers.now n))) all }
