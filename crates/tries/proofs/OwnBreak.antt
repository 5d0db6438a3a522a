-- What the first broken pair of a lawful plan says, as the code has it.
use Rattle.base.proofs.Prelude.{ℕ, ◌≤◌, ◌≡◌, refl, sym, ap, ◌∙◌, Option, none, some, arith, length-map}
use Rattle.std.specs.Prelude.{Some, None}
use Rattle.days.specs.Days.{days}
use Rattle.rules.specs.declared.Broken.{Broken}
use Rattle.rules.specs.declared.Plan.{Plan}
use Rattle.rules.specs.Verdict.{Pair, broken_at}
use Rattle.laws.proofs.Lawful.{LawfulPlan, d_max-le}
use Rattle.demand.proofs.{Pairs.pair, Verdict.{first_broken-names, first_broken-in-range}}
use Rattle.exact.specs.Missing.{moved_freely, freely}
use Rattle.exact.proofs.Freely.{freely-lawful}
use Rattle.verdict.specs.inner.Asked.{Ready}
use Rattle.verdict.proofs.Blocking.{block_limit-short}
use Rattle.tries.specs.Tries.{own_break}

-- the plan with free moving is ready where the plan is
pub freely-ready : (p : Plan) → Ready p → Ready (freely p)
freely-ready p ready = record { lawful = freely-lawful p ready.lawful; ten = length-map p.strings moved_freely ∙ ready.ten }

-- the pair that is said
pub nowhere_said : (q : Option Pair) → None ≡ broken_at q → q ≡ none
unfolding broken_at
nowhere_said none e = refl
nowhere_said (some q) e = absurd cc

pub there_said : (q : Option Pair) (f : Broken) → Some f ≡ broken_at q → q ≡ some (pair f.interval.0 f.blocking.0)
unfolding broken_at
there_said none f e = absurd cc
there_said (some q) f e =
    let same : ◌≡◌ {A = Broken} (record { interval = days q.l; blocking = days q.b }) f = cc in
    ap (λ (g : Broken). some (pair g.interval.0 g.blocking.0)) same

module _ (p : Plan) (ready : Ready p) (f : Broken) (said : Some f ≡ broken_at (own_break p)) where
  -- both are small
  pub broken-interval : f.interval.0 ≤ 101000
  broken-interval =
      let there = there_said (own_break p) f said in
      omega (arith, first_broken-in-range p f.interval.0 f.blocking.0 there, d_max-le p ready.lawful, ready.lawful.h_max)

  pub broken-blocking : f.blocking.0 ≤ 1000
  broken-blocking =
      let first = first_broken-names p f.interval.0 f.blocking.0 (there_said (own_break p) f said) in
      omega (arith, first.allowed, block_limit-short p f.interval.0 ready.lawful)
