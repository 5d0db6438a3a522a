-- each blocking adds its demand to the largest, and whether it grows
use Rattle.base.proofs.Prelude.{suc, ◌-◌, ◌≤◌, ◌<◌, max, ◌≡◌, refl, sym, ap, ltb, ◌∙◌, ◌||◌, arith}
use Rattle.base.specs.Count.{largest, any, up_from}
use Rattle.rules.specs.Demand.{block_limit, demand}
use Rattle.std.specs.Bool.{then_some}
use Rattle.verdict.proofs.Blocking.{block_limit-short}
use Rattle.why.specs.Stairs.{top_demand, grows_in}
use Rattle.why.proofs.{Blockings.{top-next, top-end, some_next, some_end}, Walking.ready}
use Rattle.why.proofs.checked.CheckedPlan.top_grown.Invariants.{grown}
use Rattle.why.proofs.checked.CheckedPlan.top_grown.Goals as goal

pub overflow_add-b-end : goal.overflow_add-b-end
overflow_add-b-end c =
    let p = c.args.self.now in
    omega (arith, block_limit-short p.plan c.args.l (ready p).lawful)

pub loop-b-init : goal.loop-b-init
unfolding top_demand grows_in
loop-b-init c =
    let p = c.args.self.now.plan in
    let l = c.args.l in
    let whole : suc (block_limit p l) - 0 ≡ suc (block_limit p l) = omega arith in
    record {
      until = omega (arith, c.limit_at-b-end.ensures.exact);
      top = omega (arith, ap (λ n. largest (demand p l) (up_from 0 n)) whole);
      grows = ap (λ n. any (grown p l) (up_from 0 n)) whole;
    }

pub loop-b-preserved : goal.loop-b-preserved
loop-b-preserved c =
    let p = c.args.self.now.plan in
    let l = c.args.l in
    let b = c.loop-b.b in
    let held : b ≤ block_limit p l = omega (arith, c.loop-b.invariant.until) in
    let larger : c.max-top.result ≡ max c.loop-b.top (demand p l b) = omega (arith, c.max-top.ensures, c.demand_at-demand.ensures.exact) in
    let day-before = c.demand_at.ensures.exact ∙ ap (λ k. demand p k b) c.saturating_sub-before.ensures in
    let now : ltb c.demand_at.result c.demand_at-demand.result ≡ grown p l b = rw (day-before, c.demand_at-demand.ensures.exact) refl in
    let grew = ap (λ t. c.loop-b.grows || t) now in
    record {
      until = c.loop-b.invariant.until;
      top = top-next (demand p l) (block_limit p l) b c.loop-b.top _ held larger ∙ c.loop-b.invariant.top;
      grows = some_next (grown p l) (block_limit p l) b c.loop-b.grows _ held grew ∙ c.loop-b.invariant.grows;
    }

pub returns : goal.returns
returns c =
    let p = c.args.self.now.plan in
    let l = c.args.l in
    let past : block_limit p l < c.loop-b.b = omega (arith, c.loop-b.invariant.until) in
    let top = sym (top-end (demand p l) (block_limit p l) c.loop-b.b c.loop-b.top past) ∙ c.loop-b.invariant.top in
    let grows = sym (some_end (grown p l) (block_limit p l) c.loop-b.b c.loop-b.grows past) ∙ c.loop-b.invariant.grows in
    record { exact = c.then_some.ensures ∙ ap (λ t. then_some t c.loop-b.top) grows ∙ ap (then_some (grows_in p l)) top }
