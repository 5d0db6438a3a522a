-- The X of a plan plays no part in the search, and a lawful set's verdict is that of the plan with the set.
use Rattle.base.proofs.Prelude.{ℕ, ◌/◌, ◌≡◌, refl, sym, ap, ◌∙◌, List, [], ◌∷◌}
use Rattle.faults.specs.Checks.{Lawful}
use Rattle.std.specs.Prelude.{Ok}
use Rattle.base.specs.Count.{first_of}
use Rattle.rules.specs.declared.BatteryString.{BatteryString}
use Rattle.rules.specs.declared.Plan.{Plan}
use Rattle.rules.specs.Verdict.{verdict_of, is_pass}
use Rattle.rules.specs.Search.{permit, with_set, set_passes, ordered, assigned, first_passing, search_of}
use Rattle.rules.specs.Refusal.{plan_check, set_check, verdict_answer, set_answer, search_answer}
use Rattle.laws.proofs.{Lawful.plan_check-lawful, LawfulChecked.lawful-checked, Answers.{verdict-lawful, set-lawful, set-plan, search-lawful}}
use Rattle.demand.proofs.Sets.{with_set-lawful}

-- ---- A set in place of another

permit-again : (m k : ℕ) (ss : List BatteryString) → permit k (permit m ss) ≡ permit k ss
unfolding permit
permit-again m k [] = refl
permit-again m k (s ∷ ss) = rw (permit-again (m / 2) (k / 2) ss)

with_set-again : (p : Plan) (m k : ℕ) → with_set (with_set p m) k ≡ with_set p k
unfolding with_set
with_set-again p m k = rw (permit-again m k p.strings)

-- ---- The search

-- two plans that differ in X alone have the same sets that pass
same-sets : (p q : Plan) → with_set p 0 ≡ with_set q 0 → (m : ℕ) → set_passes p m ≡ set_passes q m
unfolding set_passes
same-sets p q h m =
    ap (λ r. is_pass (verdict_of r)) (sym (with_set-again p 0 m) ∙ ap (λ r. with_set r m) h ∙ with_set-again q 0 m)

same_first : (p q : Plan) → ((m : ℕ) → set_passes p m ≡ set_passes q m) → (ms : List ℕ)
    → first_of (set_passes p) ms ≡ first_of (set_passes q) ms
unfolding first_of
same_first p q same [] = refl
same_first p q same (m ∷ ms) = rw (same m, same_first p q same ms)

same-search : (p q : Plan) → with_set p 0 ≡ with_set q 0 → search_of p ≡ search_of q
unfolding search_of with_set
same-search p q h =
    ap assigned (same_first p q (same-sets p q h) (ordered p.n)) ∙ ap (λ n. first_passing q (ordered n)) (ap (λ r. r.n) h)

-- plans that differ in X alone, each within its bounds, are answered alike
pub search-blind-to-x : (p q : Plan) → plan_check p ≡ Lawful → plan_check q ≡ Lawful → with_set p 0 ≡ with_set q 0
    → search_answer p ≡ search_answer q
search-blind-to-x p q ok_p ok_q h = search-lawful p ok_p ∙ ap Ok (same-search p q h) ∙ sym (search-lawful q ok_q)

-- ---- The verdict with a set

pub set-is-plan : (p : Plan) (m : ℕ) → set_check p m ≡ Lawful → set_answer p m ≡ verdict_answer (with_set p m)
set-is-plan p m ok =
    let lawful = lawful-checked (with_set p m) (with_set-lawful p m (plan_check-lawful p (set-plan p m ok))) in
    set-lawful p m ok ∙ sym (verdict-lawful (with_set p m) lawful)
