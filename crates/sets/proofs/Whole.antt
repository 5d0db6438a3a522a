-- The lines that are asked for one by one, put together, are the whole text.
use Rattle.base.proofs.Prelude.{ℕ, ◌^◌, ◌≡◌, ap, ◌∙◌, List, arith}
use Rattle.faults.specs.Checks.{Lawful}
use mathlib.Core.List.{flat_map}
use Rattle.base.specs.Count.{up_from}
use Rattle.rules.specs.{declared.Plan.Plan, Search.{ordered, search_of}, Refusal.plan_check}
use Rattle.showing.specs.Shown.{in_place, on_text}
use Rattle.showing.proofs.Whole.{all-places}
use Rattle.sets.specs.Sets.{set_words, set_shown, sets_text}
use Rattle.sets.proofs.Ranking.{sets-many}

-- for a lawful plan, with what the search finds
pub sets-whole : (p : Plan) → plan_check p ≡ Lawful → flat_map (set_shown p (search_of p)) (up_from 1 (2 ^ p.n)) ≡ sets_text p
unfolding set_shown sets_text
sets-whole p lawful =
    let line : ℕ → ℕ → List ℕ = λ i m. set_words p (search_of p) m in
    ap (λ check. flat_map (λ k. on_text check (in_place line 0 (ordered p.n) k)) (up_from 1 (2 ^ p.n))) lawful
    ∙ all-places line 0 (ordered p.n) (2 ^ p.n) (omega (arith, sets-many p.n))
    ∙ rw lawful
