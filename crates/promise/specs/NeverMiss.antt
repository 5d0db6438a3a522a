-- What demand 3 says of a plan.
--     NeverMiss p           whatever is released, no answer that the code's `run` may give for p says miss
use Rattle.std.specs.Prelude.{ℕ, ◌≡◌}
use Rattle.rules.specs.declared.Outcome.{Outcome}
use Rattle.faults.specs.declared.Refusal.{Refusal}
use Rattle.std.specs.Prelude.{Result}
use contract.Lifetimes.{Lfts}
use Rattle.rules.specs.declared.Plan.{Plan}
use Rattle.rules.specs.declared.Releases.{Releases}
use Rattle.rules.specs.Said.{miss, asked_outcome_says}
use Rattle.run.proofs.run.Reads as run

abbrev pub NeverMiss : Plan → Type 0
NeverMiss p = (κs : Lfts 0) (rs : Releases) (e : _) (o : Result Outcome Refusal) → run.Learnt κs (p, (rs, tt)) o e → (t i : ℕ)
    → asked_outcome_says o ≡ miss t i → ⊥
