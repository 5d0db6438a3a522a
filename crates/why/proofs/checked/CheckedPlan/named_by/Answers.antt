-- of a pass the tightest pair
use Rattle.base.proofs.Prelude.{ap, sym, ◌∙◌, some}
use Rattle.why.specs.Named.{pair_named, named_by}
use Rattle.why.proofs.{Tightest.tightest-best, Walking.ready}
use Rattle.why.proofs.checked.CheckedPlan.named_by.Goals as goal

pub returns-in-Pass : goal.returns-in-Pass
unfolding named_by pair_named
returns-in-Pass c =
    let p = c.args.self.now in
    record {
      exact = rw c.in-Pass.is
          (ap (λ q. pair_named (some q)) c.tightest_pair-spot.ensures.exact ∙ ap pair_named (sym (tightest-best p.plan (ready p))));
    }
