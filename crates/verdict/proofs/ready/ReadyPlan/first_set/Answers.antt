-- The empty set comes first; where it fails without blocking, every set does.
use Rattle.base.proofs.Prelude.{◌^◌, ◌≤◌, zero-le, ◌≡◌, refl, sym, ap, ◌∙◌, true, arith}
use lib.Count.{ones}
use lib.Pow.{pow_mono}
use Rattle.rules.specs.{Verdict.is_pass, Search.{set_passes, with_set}}
use Rattle.demand.proofs.{Agreeing.quick-passes, Sets.with_set-lawful, Search.nobody-of-none, SetWalk.{search_of-rows, walk-row, walk-found}}
use Rattle.demand.specs.Quick.{quick_of}
use Rattle.verdict.proofs.WorkAlone.{unblocked-none}
use Rattle.verdict.proofs.ready.ReadyPlan.first_set.Goals as goal

pub returns-then-passes : goal.returns-then-passes
unfolding set_passes ones
returns-then-passes c =
    let p = c.args.self.plan in
    let ok = c.args.self.ready.lawful in
    let alone = c.quickly_judged-alone.ensures ∙ ap quick_of c.with_set.ensures.exact in
    let passes : set_passes p 0 ≡ true =
    sym (quick-passes (with_set p 0) (with_set-lawful p 0 ok).each) ∙ ap is_pass (sym alone)
    ∙ sym c.passes.ensures.exact ∙ c.if-passes.true in
    let some : 2 ^ 0 ≤ 2 ^ p.n = pow_mono zero-le in
    sym (search_of-rows p ∙ walk-row p p.n 0 0 (omega arith) ∙ walk-found p p.n 0 0 _ (omega arith) refl passes)

pub returns-then-unblocked : goal.returns-then-unblocked
returns-then-unblocked c =
    let p = c.args.self.plan in
    let alone = c.quickly_judged-alone.ensures ∙ ap quick_of c.with_set.ensures.exact in
    sym (nobody-of-none p (λ m h.
    unblocked-none p c.args.self.ready.lawful _ alone (sym c.unblocked.ensures ∙ c.if-unblocked.true) m))
