-- The order of the list is nobody's business (document 02, W-209), of what the code answered for two plans p and q of which q has the
-- strings of p in another order, each with its own permission; N is each plan's own. Where both are within their bounds:
--     the verdict is the same, with interval, blocking, demand and pair count; so are the quick verdict and the first break
--     the same holds with a set, where the other set gives each string the permission that the first gives it; and there is such a set
--     the search says none for both, or finds as many takers
--     H and the load are the same
-- Where N is the same both are within their bounds or both are refused, by one number; the place named may differ.
-- Then, whether two plans hold the same strings: what `same_strings` answered says it exactly.
use Rattle.base.proofs.Prelude.{ℕ, ◌^◌, ◌<◌, ◌≡◌, sym, ap, ◌∙◌, ◌↔◌, List, arith, ones, length, length-take}
use Rattle.rules.specs.declared.Verdict.{Verdict}
use Rattle.faults.specs.Checks.{Lawful, Checked}
use Rattle.faults.specs.declared.Refusal.{Refusal}
use Rattle.std.specs.Prelude.{Ok, Result}
use Rattle.rules.specs.Found.{FirstBroken, Assign}
use Rattle.rules.specs.declared.Plan.{Plan}
use Rattle.rules.specs.declared.Figures.{Figures}
use Rattle.rules.specs.Figures.{figures_of}
use Rattle.rules.specs.Plan.{strings_of}
use Rattle.rules.specs.Search.{with_set}
use Rattle.rules.specs.Refusal.{plan_check, set_check}
use Rattle.laws.proofs.{Lawful.plan_check-lawful, Answers.{set-lawful, figures-lawful}}
use Rattle.demand.proofs.Answers.{quick-set-lawful}
use Rattle.results.specs.{Order.{SameFault, AsManyTakers}, Places.{InAnotherOrder, AnotherOrder, SmallestTo}, Partners.LeftAlone}
use Rattle.results.proofs.{SameVerdict.{same-verdict, same-quick, same-multiple, same_load, same_answer, same-quick-answer, same-break-answer, lawful-in-any-order}, Moving.carry-set, SameSearch.same-search-answer, SameRefusal.same-refusal, Bijection.reordered-exactly}
use Rattle.matching.specs.{declared.Matched.Matched, Matched.{same_at, alone_at, counts, matched_says}}
use Rattle.matching.proofs.SaysSame.{same-places, same-exactly, alone-says-exactly, alone-order, counts-say-exactly}
use Rattle.bounds.proofs.plan_check.Reads as plan-check
use Rattle.verdict.proofs.verdict.Reads as verdict
use Rattle.verdict.proofs.verdict_with.Reads as verdict-with
use Rattle.verdict.proofs.quick.Reads as quick
use Rattle.verdict.proofs.quick_with.Reads as quick-with
use Rattle.verdict.proofs.first_break.Reads as first-break
use Rattle.verdict.proofs.search.Reads as search-takers
use Rattle.verdict.proofs.figures.Reads as figures
use Rattle.matching.proofs.same_strings.Reads as same-strings
use contract.Lifetimes.{Lfts}

-- ---- The answers

module _ (κs : Lfts 0) (p q : Plan) (order : InAnotherOrder p q) where
  module _ (ok : plan_check p ≡ Lawful) (also : plan_check q ≡ Lawful) where
    pub verdict-any-order : (e f : _) (r s : Result Verdict Refusal) → verdict.Learnt κs (p, tt) r e → verdict.Learnt κs (q, tt) s f → s ≡ r
    verdict-any-order e f r s h k = k ∙ same_answer p q ((reordered-exactly p q).0 order) ok also ∙ sym h

    pub quick-any-order : (e f : _) (r s : Result Verdict Refusal) → quick.Learnt κs (p, tt) r e → quick.Learnt κs (q, tt) s f → s ≡ r
    quick-any-order e f r s h k = k ∙ same-quick-answer p q ((reordered-exactly p q).0 order) ok also ∙ sym h

    pub first-break-any-order : (e f : _) (r s : Result FirstBroken Refusal) → first-break.Learnt κs (p, tt) r e
        → first-break.Learnt κs (q, tt) s f
        → s ≡ r
    first-break-any-order e f r s h k = k ∙ same-break-answer p q ((reordered-exactly p q).0 order) ok also ∙ sym h

    pub search-any-order : (e f : _) (r s : Result Assign Refusal) → search-takers.Learnt κs (p, tt) r e
        → search-takers.Learnt κs (q, tt) s f
        → AsManyTakers r s
    search-any-order e f r s h k = rw (h, k) (same-search-answer p q ((reordered-exactly p q).0 order) ok also)

    pub figures-any-order : (e f : _) (r s : Result Figures Refusal) → figures.Learnt κs (p, tt) r e → figures.Learnt κs (q, tt) s f
        → (x : Figures) × (y : Figures) × (r ≡ Ok x) × (s ≡ Ok y) × (y.multiple ≡ x.multiple) × (y.load ≡ x.load)
    unfolding figures_of
    figures-any-order e f r s h k =
        let moved = (reordered-exactly p q).0 order in (
          figures_of p,
          figures_of q,
          h ∙ figures-lawful p ok,
          k ∙ figures-lawful q also,
          same-multiple p q moved,
          same_load p q moved,
        )

  -- both are refused, by one number, or neither is
  pub refused-any-order : q.run ≡ p.run → (e f : _) (r s : Checked) → plan-check.Learnt κs (p, tt) r e → plan-check.Learnt κs (q, tt) s f
      → SameFault r s
  refused-any-order same_run e f r s h k = rw (h, k) (same-refusal p q ((reordered-exactly p q).0 order) same_run)

  -- both are within their bounds, or neither is
  pub check-any-order : q.run ≡ p.run → (e f : _) (r s : Checked) → plan-check.Learnt κs (p, tt) r e → plan-check.Learnt κs (q, tt) s f
      → (r ≡ Lawful) ↔ (s ≡ Lawful)
  check-any-order same_run e f r s h k = rw (h, k) (lawful-in-any-order p q ((reordered-exactly p q).0 order) same_run)

-- ---- With a set

-- The set k of q gives each string the permission that the set m of p gives it.
module _ (κs : Lfts 0) (p q : Plan) (m k : ℕ) (order : InAnotherOrder (with_set p m) (with_set q k)) where
  module _ (ok : set_check p m ≡ Lawful) (also : set_check q k ≡ Lawful) where
    pub verdict-with-any-order : (e f : _) (r s : Result Verdict Refusal) → verdict-with.Learnt κs (p, (m, tt)) r e
        → verdict-with.Learnt κs (q, (k, tt)) s f → s ≡ r
    verdict-with-any-order e f r s h j =
        let moved = (reordered-exactly (with_set p m) (with_set q k)).0 order in
        j ∙ set-lawful q k also ∙ ap Ok (same-verdict (with_set p m) (with_set q k) moved) ∙ sym (h ∙ set-lawful p m ok)

    pub quick-with-any-order : (e f : _) (r s : Result Verdict Refusal) → quick-with.Learnt κs (p, (m, tt)) r e
        → quick-with.Learnt κs (q, (k, tt)) s f → s ≡ r
    quick-with-any-order e f r s h j =
        let moved = (reordered-exactly (with_set p m) (with_set q k)).0 order in
        j ∙ quick-set-lawful q k also ∙ ap Ok (same-quick (with_set p m) (with_set q k) moved) ∙ sym (h ∙ quick-set-lawful p m ok)

-- every set is carried along, to one with as many takers
pub set-any-order : (p q : Plan) → InAnotherOrder p q → (m : ℕ) → m < 2 ^ p.n
    → (k : ℕ) × (k < 2 ^ q.n) × (ones k ≡ ones m) × InAnotherOrder (with_set p m) (with_set q k)
set-any-order p q order m h =
    let there = carry-set p q ((reordered-exactly p q).0 order) m h in
    (there.set, there.below, there.as_many, (reordered-exactly (with_set p m) (with_set q there.set)).1 there.order)

-- ---- The same strings

-- two plans of ten places each: where their strings are in another order, so are the plans
pub plans-in-order : (p q : Plan) → length p.strings ≡ 10 → length q.strings ≡ 10 → plan_check p ≡ Lawful → plan_check q ≡ Lawful
    → AnotherOrder (strings_of p) (strings_of q) → InAnotherOrder p q
plans-in-order p q ten also-ten ok also order =
    let few = (plan_check-lawful p ok).n_max in
    let also-few = (plan_check-lawful q also).n_max in
    record {
      same_n = omega (arith, length-take p.n p.strings, length-take q.n q.strings, order.as_many);
      strings = order;
    }

module _ (κs : Lfts 0) (p q : Plan) (e : _) (r : Matched) (did : same-strings.Learnt κs (p, (q, tt)) r e) where
  -- `same` exactly where there is another order
  pub same-says-order : ((ps : List ℕ) × (matched_says r ≡ same_at ps)) ↔ AnotherOrder (strings_of p) (strings_of q)
  same-says-order = rw did (same-exactly (strings_of p) (strings_of q))

  -- with the smallest list of places that takes each string to the same string, at a place of its own
  pub same-says-places : (ps : List ℕ) → matched_says r ≡ same_at ps → SmallestTo (strings_of p) (strings_of q) ps
  same-says-places ps h = same-places (strings_of p) (strings_of q) ps (sym (ap matched_says did) ∙ h)

  -- `differ string i` exactly where i is the first that is left without a partner; then there is no other order
  pub alone-says : (i : ℕ)
      → (matched_says r ≡ alone_at i) ↔ ((length (strings_of p) ≡ length (strings_of q)) × LeftAlone (strings_of p) (strings_of q) i)
  alone-says i = rw did (alone-says-exactly (strings_of p) (strings_of q) i)

  pub alone-says-no-order : (i : ℕ) → matched_says r ≡ alone_at i → AnotherOrder (strings_of p) (strings_of q) → ⊥
  alone-says-no-order i h = alone-order (strings_of p) (strings_of q) i (sym (ap matched_says did) ∙ h)

  -- `differ strings m and n` exactly where these are the numbers of strings, and differ
  pub counts-say : (m n : ℕ)
      → (matched_says r ≡ counts m n) ↔ ((length (strings_of p) ≡ m) × (length (strings_of q) ≡ n) × (m ≡ n → ⊥))
  counts-say m n = rw did (counts-say-exactly (strings_of p) (strings_of q) m n)
