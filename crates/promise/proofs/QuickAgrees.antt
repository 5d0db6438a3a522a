-- Both engines of the code agree on every plan, refused ones too: apart from the pair count the quick verdict's answer is the verdict's.
use Rattle.base.proofs.Prelude.{ℕ, ◌≡◌, sym, ap, ◌∙◌}
use Rattle.rules.specs.declared.Verdict.{Verdict}
use Rattle.faults.specs.declared.Refusal.{Refusal}
use Rattle.std.specs.Prelude.{Result}
use Rattle.rules.specs.declared.Plan.{Plan}
use Rattle.demand.specs.Quick.{asked_apart}
use Rattle.demand.proofs.Agreeing.{quick-answer-agrees, quick-set-answer-agrees}
use Rattle.verdict.proofs.verdict.Reads as verdict
use Rattle.verdict.proofs.verdict_with.Reads as verdict-with
use Rattle.verdict.proofs.quick.Reads as quick
use Rattle.verdict.proofs.quick_with.Reads as quick-with
use contract.Lifetimes.{Lfts}

pub quick-as-verdict :
    (κs : Lfts 0) (p : Plan) (e f : _) (r s : Result Verdict Refusal) → quick.Learnt κs (p, tt) r e → verdict.Learnt κs (p, tt) s f
    → asked_apart r ≡ asked_apart s
quick-as-verdict κs p e f r s h k = ap asked_apart h ∙ quick-answer-agrees p ∙ sym (ap asked_apart k)

pub quick-with-as-verdict-with :
    (κs : Lfts 0) (p : Plan) (m : ℕ) (e f : _) (r s : Result Verdict Refusal)
    → quick-with.Learnt κs (p, (m, tt)) r e → verdict-with.Learnt κs (p, (m, tt)) s f
    → asked_apart r ≡ asked_apart s
quick-with-as-verdict-with κs p m e f r s h k = ap asked_apart h ∙ quick-set-answer-agrees p m ∙ sym (ap asked_apart k)
