-- What is explained of a plan: the overload, or one pair.
--     spare p q             the days of an interval that the demand leaves
--     tightest p            the first of the pairs with the least to spare
--     named_by p v           what the verdict v names: the overload, the pair of a fail; of a pass, which names none, the tightest pair
--     why_text p             all that is written of a lawful plan
--     named_answer p         what the entry answers: the check of the plan decides
use Rattle.std.specs.Prelude.{ℕ, ◌-◌, List, eqb, Result, Ok}
use Rattle.std.proofs.Math.Option.{Option, none, some}
use Rattle.days.specs.Days.{days}
use Rattle.faults.specs.declared.Refusal.{Refusal}
use Rattle.faults.specs.Checks.{Refused, or_refused}
use Rattle.base.specs.Count.{smallest, first_of}
use Rattle.rules.specs.declared.Plan.{Plan}
use Rattle.rules.specs.declared.Verdict.{Verdict}
use Rattle.rules.specs.declared.Verdict.TheVariants as verdict
use Rattle.rules.specs.Demand.{demand}
use Rattle.rules.specs.Verdict.{Pair, all_pairs, verdict_of}
use Rattle.rules.specs.Refusal.{plan_check}
use Rattle.why.specs.declared.Subject.{Subject}
use Rattle.why.specs.declared.Subject.TheVariants as subject
use Rattle.why.specs.Shares.{pair_text, over_text}

unfoldable pub spare : Plan → Pair → ℕ
spare p q = q.l - demand p q.l q.b

unfoldable pub tightest : Plan → Option Pair
tightest p = first_of (λ q. eqb (spare p q) (smallest (spare p) (all_pairs p))) (all_pairs p)

-- a lawful plan has pairs
unfoldable pub pair_named : Option Pair → Subject
pair_named none = subject.At (days 0) (days 0)
pair_named (some q) = subject.At (days q.l) (days q.b)

unfoldable pub named_by : Plan → Verdict → Subject
named_by p verdict.Overload = subject.Overload
named_by p (verdict.Fail l b d k) = subject.At l b
named_by p (verdict.Pass k) = pair_named (tightest p)

unfoldable pub named_answer : Plan → Result Subject Refusal
named_answer p =
    let v = named_by p (verdict_of p) in
    or_refused Refused (plan_check p) (Ok v)

unfoldable pub text_named : Plan → Subject → List ℕ
text_named p subject.Overload = over_text p
text_named p (subject.At l b) = pair_text p l.0 b.0

unfoldable pub why_text : Plan → List ℕ
why_text p = text_named p (named_by p (verdict_of p))
