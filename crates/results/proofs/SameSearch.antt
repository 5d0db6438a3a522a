-- The search in another order: it says "none" for both, or finds as many takers. A set that passes for one is carried along to one with as
-- many ones that passes for the other, so neither search can find fewer. The sets themselves may differ.
use Rattle.base.proofs.Prelude.{ℕ, ◌^◌, ◌≤◌, ◌<◌, ◌≡◌, refl, sym, ap, ◌∙◌, ◌↔◌, Option, none, some, arith, le_antisymm, ones}
use Rattle.faults.specs.Checks.{Lawful}
use Rattle.std.specs.Prelude.{Ok, Some, None}
use Rattle.base.specs.Count.{first_of}
use Rattle.rules.specs.declared.Plan.{Plan}
use Rattle.rules.specs.Verdict.{is_pass}
use Rattle.rules.specs.Search.{assigned, with_set, set_passes, ordered, search_of}
use Rattle.rules.specs.Refusal.{plan_check, search_answer}
use Rattle.laws.proofs.Answers.{search-lawful}
use Rattle.demand.proofs.Search.{search-passes, search-fewest, none-of-nobody, nobody-of-none}
use Rattle.results.specs.Order.{Reordered, AsManyTakers, nobody_both, takers_both}
use Rattle.results.proofs.{SameVerdict.{reordered-back, same-verdict}, Moving.carry-set}

-- ---- What a search says

nobody-no-takers : (k : ℕ) → None ≡ Some k → ⊥
nobody-no-takers k h =
    let z : ◌≡◌ {A = ℕ} 0 1 = cc in
    omega arith

nobody-said : (p : Plan) → first_of (set_passes p) (ordered p.n) ≡ none → search_of p ≡ None
unfolding search_of
nobody-said p e = ap assigned e

takers-said : (p : Plan) (m : ℕ) → first_of (set_passes p) (ordered p.n) ≡ some m → search_of p ≡ Some m
unfolding search_of
takers-said p m e = ap assigned e

-- ---- From one order to the other

module _ (p q : Plan) (r : Reordered p q) where
  -- a set and the one it is carried to both pass, or both fail
  carried-passes : (m : ℕ) (h : m < 2 ^ p.n) → set_passes q (carry-set p q r m h).set ≡ set_passes p m
  unfolding set_passes
  carried-passes m h =
      let there = carry-set p q r m h in
      ap is_pass (same-verdict (with_set p m) (with_set q there.set) there.order)

  none-from-reordered : search_of q ≡ None → search_of p ≡ None
  none-from-reordered None-passes =
      nobody-of-none p (λ m h.
      let there = carry-set p q r m h in
      sym (carried-passes m h) ∙ none-of-nobody q None-passes there.set there.below)

  no-more-takers : (m k : ℕ) → search_of p ≡ Some m → search_of q ≡ Some k → ones k ≤ ones m
  no-more-takers m k found other =
      let passes = search-passes p m found in
      let there = carry-set p q r m passes.1 in
      let fewest = search-fewest q k other there.set there.below (carried-passes m passes.1 ∙ passes.0) in
      omega (arith, there.as_many)

-- ---- The same search

module _ (p q : Plan) (r : Reordered p q) where
  same_none : (search_of p ≡ None) ↔ (search_of q ≡ None)
  same_none = (none-from-reordered q p (reordered-back p q r), none-from-reordered p q r)

  as-many-takers : (m k : ℕ) → search_of p ≡ Some m → search_of q ≡ Some k → ones k ≡ ones m
  as-many-takers m k found other =
      le_antisymm (no-more-takers p q r m k found other) (no-more-takers q p (reordered-back p q r) k m other found)

  -- both in one: "none" for both, or as many takers
  pub same-search : AsManyTakers (Ok (search_of p)) (Ok (search_of q))
  same-search = which (first_of (set_passes p) (ordered p.n)) (first_of (set_passes q) (ordered q.n)) refl refl
    where
      which : (o u : Option ℕ) → first_of (set_passes p) (ordered p.n) ≡ o → first_of (set_passes q) (ordered q.n) ≡ u
          → AsManyTakers (Ok (search_of p)) (Ok (search_of q))
      which none none e f = rw (nobody-said p e, nobody-said q f) nobody_both
      which none (some k) e f = absurd (nobody-no-takers k (sym (same_none.0 (nobody-said p e)) ∙ takers-said q k f))
      which (some m) none e f = absurd (nobody-no-takers m (sym (same_none.1 (nobody-said q f)) ∙ takers-said p m e))
      which (some m) (some k) e f =
          let found = takers-said p m e in
          let other = takers-said q k f in
          rw (found, other) (takers_both m k (as-many-takers m k found other))

  pub same-search-answer : plan_check p ≡ Lawful → plan_check q ≡ Lawful → AsManyTakers (search_answer p) (search_answer q)
  same-search-answer ok also = rw (search-lawful p ok, search-lawful q also) same-search
