-- Permission sets, of what the code answered: the plan with the set that the search finds, as a text; and every set, line by line. `assign`
-- is lent the text and the page, and is given the place; what it wrote is what stands in the page from there on.
use Rattle.base.proofs.Prelude.{ℕ, ◌^◌, ◌≡◌, sym, ◌∙◌, subst, take, drop}
use Rattle.faults.specs.Checks.{Lawful}
use mathlib.Core.List.{flat_map}
use Rattle.base.specs.Count.{up_from}
use Rattle.rules.specs.{declared.Plan.Plan, Refusal.plan_check, Search.search_of}
use Rattle.lines.specs.{declared.Page.Page, Pages.text_of}
use Rattle.lines.proofs.Growing.{text-is}
use Rattle.std.specs.Prelude.{Option, Some, Result, Ok}
use Rattle.faults.specs.declared.Refusal.{Refusal}
use Rattle.assigning.specs.TakesFound.{TakesFound}
use Rattle.assigning.proofs.OfText.{assigned-text}
use Rattle.assigning.proofs.assign.Reads as assign
use Rattle.sets.specs.Sets.{set_shown, sets_text}
use Rattle.sets.proofs.Whole.{sets-whole}
use Rattle.sets.proofs.set_shown.Reads as set-shown
use Rattle.promise.proofs.Whiteboard.{pages-same}
use contract.Lifetimes.{Lfts}

-- what `assign` wrote reads back as the plan with the set that the search finds, and that plan passes
pub assign-passes : (κs : Lfts 2) (a : _) (e : _) (r : Result (Option ℕ) Refusal) → assign.Learnt κs a r e → (len : ℕ) → r ≡ Ok (Some len)
    → TakesFound a.0.now (take len (drop a.1.1.0 e.1.0.now))
assign-passes κs a e r did len is =
    subst (λ page. TakesFound a.0.now (take len (drop a.1.1.0 page))) (sym did.1.0)
    (assigned-text a.0.now a.1.0.now a.1.1.0 len (sym did.0 ∙ is))

-- the pages of the sets, with what the search finds, are the whole text, in the search's order
module _ (κs : Lfts 0) (p : Plan) (pages : ℕ → Page) (e : ℕ → _)
    (shown : (k : ℕ) → set-shown.Learnt κs (p, (search_of p, (k, tt))) (pages k) (e k)) where
  pub lists-sets : plan_check p ≡ Lawful → flat_map (λ k. text_of (pages k)) (up_from 1 (2 ^ p.n)) ≡ sets_text p
  lists-sets lawful =
      pages-same pages (set_shown p (search_of p)) (λ k. text-is (pages k) _ (shown k)) (up_from 1 (2 ^ p.n))
      ∙ sets-whole p lawful
