-- The search's definition means what document 01 says: the set found passes, none that passes has fewer ones, none with as many
-- is smaller, and "none" is given exactly if no set below 2^n passes. It names one answer.
--     Best p m              m passes, no passing set has fewer ones, and none with as many ones is smaller
use Rattle.base.proofs.Prelude.{ℕ, ◌^◌, ◌≤◌, ◌<◌, ◌≡◌, refl, sym, ap, ◌∙◌, ◌⊎◌, inl, inr, ◌↔◌, true, false, Option, none, some, arith, le_antisymm, le_refl, ones}
use Rattle.std.specs.Prelude.{Some, None}
use Rattle.rules.specs.declared.Plan.{Plan}
use Rattle.rules.specs.Demand.{Passes}
use Rattle.rules.specs.Search.{assigned, with_set, set_passes, ordered, search_of}
use Rattle.base.specs.Count.{first_of}
use Rattle.base.proofs.{Lists.true-not-false, FirstOf.{first_of-none, first_of-passes, first_of-in, first_of-least}}
use Rattle.laws.proofs.Lawful.{LawfulPlan}
use Rattle.demand.proofs.{Verdict.pass-exactly, Sets.with_set-lawful}
use Rattle.demand.proofs.SetOrder.{Sooner, all-sets, each-of-sets, sets-rising}

-- ---- What it is for a set to pass

-- the plan with that set passes the rule
pub set_passes-exactly : (p : Plan) → LawfulPlan p → (m : ℕ) → (set_passes p m ≡ true) ↔ Passes (with_set p m)
unfolding set_passes
set_passes-exactly p ok m = pass-exactly (with_set p m) (with_set-lawful p m ok)

-- ---- What the search finds

assigned-takers : (o : Option ℕ) (m : ℕ) → assigned o ≡ Some m → o ≡ some m
assigned-takers none m h =
    let z : ◌≡◌ {A = ℕ} 0 1 = cc in
    absurd (omega arith)
assigned-takers (some k) m h =
    let same : k ≡ m = cc in
    ap some same

assigned-nobody : (o : Option ℕ) → assigned o ≡ None → o ≡ none
assigned-nobody none h = refl
assigned-nobody (some k) h =
    let z : ◌≡◌ {A = ℕ} 0 1 = cc in
    absurd (omega arith)

module _ (p : Plan) (m : ℕ) (found : search_of p ≡ Some m) where
  pub search-passes : (set_passes p m ≡ true) × (m < 2 ^ p.n)
  unfolding search_of
  search-passes =
      let first = assigned-takers (first_of (set_passes p) (ordered p.n)) m found in (
        first_of-passes (set_passes p) (ordered p.n) m first,
        first_of-in (set_passes p) (λ k. k < 2 ^ p.n) (ordered p.n) m (all-sets p.n (λ k. k < 2 ^ p.n) (λ k below. below)) first,
      )

  -- every other passing set comes later in the search's order
  search-first : (k : ℕ) → k < 2 ^ p.n → set_passes p k ≡ true → (m ≡ k) ⊎ Sooner m k
  unfolding search_of
  search-first =
      each-of-sets p.n (λ k. set_passes p k ≡ true → (m ≡ k) ⊎ Sooner m k)
      (first_of-least (set_passes p) Sooner (ordered p.n) m (sets-rising p.n)
      (assigned-takers (first_of (set_passes p) (ordered p.n)) m found))

  pub search-fewest : (k : ℕ) → k < 2 ^ p.n → set_passes p k ≡ true → ones m ≤ ones k
  search-fewest k below passes = fewest (search-first k below passes)
    where
      fewest : (m ≡ k) ⊎ Sooner m k → ones m ≤ ones k
      fewest (inl same) = rw same (le_refl (ones k))
      fewest (inr (inl fewer)) = omega arith
      fewest (inr (inr smaller)) = omega arith

  search-smallest : (k : ℕ) → k < 2 ^ p.n → set_passes p k ≡ true → ones k ≡ ones m → m ≤ k
  search-smallest k below passes as_many = smallest (search-first k below passes)
    where
      smallest : (m ≡ k) ⊎ Sooner m k → m ≤ k
      smallest (inl same) = omega arith
      smallest (inr (inl fewer)) = omega arith
      smallest (inr (inr smaller)) = omega arith

-- ---- None

module _ (p : Plan) where
  pub none-of-nobody : search_of p ≡ None → (k : ℕ) → k < 2 ^ p.n → set_passes p k ≡ false
  unfolding search_of
  none-of-nobody h =
      let first = assigned-nobody (first_of (set_passes p) (ordered p.n)) h in
      each-of-sets p.n (λ k. set_passes p k ≡ false) ((first_of-none (set_passes p) (ordered p.n)).0 first)

  pub nobody-of-none : ((k : ℕ) → k < 2 ^ p.n → set_passes p k ≡ false) → search_of p ≡ None
  unfolding search_of
  nobody-of-none h = ap assigned ((first_of-none (set_passes p) (ordered p.n)).1 (all-sets p.n (λ k. set_passes p k ≡ false) h))

-- ---- One answer

pub record Best (p : Plan) (m : ℕ) : Type 0 where
  pub passes : set_passes p m ≡ true
  pub below : m < 2 ^ p.n
  pub fewest : (k : ℕ) → k < 2 ^ p.n → set_passes p k ≡ true → ones m ≤ ones k
  pub smallest : (k : ℕ) → k < 2 ^ p.n → set_passes p k ≡ true → ones k ≡ ones m → m ≤ k

pub best-of-search : (p : Plan) (m : ℕ) → search_of p ≡ Some m → Best p m
best-of-search p m found =
    record {
      passes = (search-passes p m found).0;
      below = (search-passes p m found).1;
      fewest = search-fewest p m found;
      smallest = search-smallest p m found;
    }

-- two sets that are best are the same
best-unique : (p : Plan) (m k : ℕ) → Best p m → Best p k → m ≡ k
best-unique p m k a b =
    let as_many : ones m ≡ ones k = le_antisymm (a.fewest k b.below b.passes) (b.fewest m a.below a.passes) in
    le_antisymm (a.smallest k b.below b.passes (sym as_many)) (b.smallest m a.below a.passes as_many)

pub search-of-best : (p : Plan) (m : ℕ) → Best p m → search_of p ≡ Some m
search-of-best p m best = which (first_of (set_passes p) (ordered p.n)) refl
  where
    which : (o : Option ℕ) → first_of (set_passes p) (ordered p.n) ≡ o → search_of p ≡ Some m
    which none e =
        let nobody : search_of p ≡ None = unfold search_of in ap assigned e in
        absurd (true-not-false (sym best.passes ∙ none-of-nobody p nobody m best.below))
    which (some k) e =
        let found : search_of p ≡ Some k = unfold search_of in ap assigned e in
        found ∙ ap Some (best-unique p k m (best-of-search p k found) best)
