-- Where a set passes, the search finds one, with as many takers or fewer.
use Rattle.base.proofs.Prelude.{ℕ, ◌^◌, ◌≤◌, ◌<◌, ◌≡◌, refl, sym, ap, ◌∙◌, true, Option, none, some, ones}
use Rattle.std.specs.Prelude.{Some, None}
use Rattle.rules.specs.declared.Plan.{Plan}
use Rattle.rules.specs.Demand.{Passes}
use Rattle.rules.specs.Search.{assigned, with_set, set_passes, ordered, search_of}
use Rattle.base.specs.Count.{first_of}
use Rattle.base.proofs.Lists.{true-not-false}
use Rattle.laws.proofs.Lawful.{LawfulPlan}
use Rattle.demand.proofs.Search.{set_passes-exactly, none-of-nobody, search-fewest}

pub passing-found : (p : Plan) → LawfulPlan p → (k : ℕ) → k < 2 ^ p.n → Passes (with_set p k)
    → (m : ℕ) × (search_of p ≡ Some m) × (ones m ≤ ones k)
passing-found p ok k below rule = which (first_of (set_passes p) (ordered p.n)) refl
  where
    passes : set_passes p k ≡ true
    passes = (set_passes-exactly p ok k).1 rule

    which : (o : Option ℕ) → first_of (set_passes p) (ordered p.n) ≡ o → (m : ℕ) × (search_of p ≡ Some m) × (ones m ≤ ones k)
    which none e =
        let nobody : search_of p ≡ None = unfold search_of in ap assigned e in
        absurd (true-not-false (sym passes ∙ none-of-nobody p nobody k below))
    which (some m) e =
        let found : search_of p ≡ Some m = unfold search_of in ap assigned e in
        (m, found, search-fewest p m found k below passes)
