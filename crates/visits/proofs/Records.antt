-- What the check of a record says: the record keeps each rule on its own, and each of those before it has ended, and does not touch it
-- where it serves the same release.
--     LawfulVisit p rs v    the rules that v keeps or breaks on its own
--     Clear v q             q, listed before v, has ended by the first day of v, a day earlier where it serves the same release
use Rattle.base.proofs.Prelude.{ℕ, suc, ◌≤◌, ◌<◌, ◌≡◌, refl, sym, ◌∙◌, ◌↔◌, Bool, true, false, not, ◌&&◌, List, [], ◌∷◌, arith, leb-true, le-leb, ltb-false, le-ltb, eqb-true, eq-eqb, ne_eqb, not-true, leb, eqb, length, ℕ_discrete}
use Rattle.base.specs.Count.{any}
use Rattle.base.proofs.{Lists.{All, by_bool, true-not-false, and_left, and_right, and_both, all_map, any_none}, Order.{Rising, all_both, all_of}}
use Rattle.faults.proofs.Checks.{in_bounds-low, in_bounds-high, in_bounds-yes}
use Rattle.rules.specs.{declared.Plan.Plan, declared.Release.Release, Release.{released, deadline_of}}
use Rattle.visits.specs.{declared.Visit.Visit, Visits.{end_of_visit, long_enough, starts_inside, names_release, touches, visit_lawful, breaking_from, first_breaking}}

pub record LawfulVisit (p : Plan) (rs : List Release) (v : Visit) : Type 0 where
  pub long : 1 ≤ v.length.0
  pub low : 1 ≤ v.release
  pub high : v.release ≤ length rs
  pub since : (released rs v.release).day.0 ≤ v.first.0
  pub due : end_of_visit v ≤ deadline_of p (released rs v.release)

abbrev pub Clear : Visit → Visit → Type 0
Clear v q = (end_of_visit q ≤ v.first.0) × (q.release ≡ v.release → end_of_visit q < v.first.0)

-- ---- One before it

touches-not : (v q : Visit) → touches v q ≡ false → q.release ≡ v.release → end_of_visit q ≡ v.first.0 → ⊥
touches-not v q h same meets = true-not-false (sym (and_both _ _ (eq-eqb _ _ same) (eq-eqb _ _ meets)) ∙ h)

clear_of : (v q : Visit) → starts_inside v q ≡ false → touches v q ≡ false → Clear v q
clear_of v q inside touch =
    let ended : end_of_visit q ≤ v.first.0 = ltb-false _ _ inside in (
      ended,
      λ same.
          elim (ℕ_discrete (end_of_visit q) v.first.0) [
            | yes meets ↦ absurd (touches-not v q touch same meets)
            | no apart ↦ omega arith
          ],
    )

clear_apart : (v q : Visit) → Clear v q → touches v q ≡ false
clear_apart v q c =
    by_bool (eqb q.release v.release)
    (λ same. rw same (ne_eqb (end_of_visit q) v.first.0 (λ meets. omega (arith, c.1 (eqb-true _ _ same)))))
    (λ other. rw other)

-- ---- All before it

module _ (v : Visit) where
  none_of : (f : Visit → Bool) (seen : List Visit) → All (λ q. f q ≡ false) seen → any f seen ≡ false
  unfolding any
  none_of f [] h = refl
  none_of f (q ∷ seen) h = rw h.0 (none_of f seen h.1)

  clear-all : (seen : List Visit) → any (starts_inside v) seen ≡ false → any (touches v) seen ≡ false → All (Clear v) seen
  clear-all seen inside touch =
      all_both (λ q. starts_inside v q ≡ false) (λ q. touches v q ≡ false) (Clear v) (clear_of v) seen (any_none _ seen inside)
      (any_none _ seen touch)

  all-ended : (seen : List Visit) → All (Clear v) seen → any (starts_inside v) seen ≡ false
  all-ended seen all = none_of (starts_inside v) seen (all_map (Clear v) _ (λ q c. le-ltb v.first.0 (end_of_visit q) c.0) seen all)

  all_apart : (seen : List Visit) → All (Clear v) seen → any (touches v) seen ≡ false
  all_apart seen all = none_of (touches v) seen (all_map (Clear v) _ (clear_apart v) seen all)

-- ---- The record

module _ (p : Plan) (rs : List Release) where
  pub lawful-visit : (seen : List Visit) (v : Visit) → visit_lawful p rs seen v ≡ true → LawfulVisit p rs v × All (Clear v) seen
  unfolding visit_lawful
  lawful-visit seen v h =
      let L = long_enough v in
      let S = not (any (starts_inside v) seen) in
      let N = names_release rs v in
      let T = not (any (touches v) seen) in
      let since = leb (released rs v.release).day.0 v.first.0 in
      let due = leb (end_of_visit v) (deadline_of p (released rs v.release)) in
      let lsnt = and_left (L && S && N && T) (since && due) h in
      let days = and_right (L && S && N && T) (since && due) h in
      let lsn = and_left (L && S && N) T lsnt in
      let ls = and_left (L && S) N lsn in (
        record {
          long = leb-true 1 v.length.0 (and_left L S ls);
          low = in_bounds-low 1 v.release (length rs) (and_right (L && S) N lsn);
          high = in_bounds-high 1 v.release (length rs) (and_right (L && S) N lsn);
          since = leb-true _ _ (and_left since due days);
          due = leb-true _ _ (and_right since due days);
        },
        clear-all v seen (not-true _ (and_right L S ls)) (not-true _ (and_right (L && S && N) T lsnt)),
      )

  pub visit-lawful : (seen : List Visit) (v : Visit) → LawfulVisit p rs v → All (Clear v) seen → visit_lawful p rs seen v ≡ true
  unfolding visit_lawful
  visit-lawful seen v good all =
      rw (
        le-leb 1 v.length.0 good.long,
        all-ended v seen all,
        in_bounds-yes 1 v.release (length rs) good.low good.high,
        all_apart v seen all,
        le-leb (released rs v.release).day.0 v.first.0 good.since,
        le-leb (end_of_visit v) (deadline_of p (released rs v.release)) good.due,
      )

  -- ---- A list of them, after those seen

  abbrev pub Lined : List Visit → List Visit → Type 0
  Lined seen [] = Unit {0}
  Lined seen (v ∷ vs) = LawfulVisit p rs v × All (Clear v) seen × Lined (v ∷ seen) vs

  pub lined-of : (seen : List Visit) (k : ℕ) (vs : List Visit) → 1 ≤ k → breaking_from p rs seen k vs ≡ 0 → Lined seen vs
  unfolding breaking_from
  lined-of seen k [] pos h = tt
  lined-of seen k (v ∷ vs) pos h =
      by_bool (visit_lawful p rs seen v)
      (λ t.
      let one = lawful-visit seen v t in
      (one.0, one.1, lined-of (v ∷ seen) (suc k) vs (omega arith) (rw t at h)))
      (λ e.
      let broken : k ≡ 0 = rw e at h in
      absurd (omega arith))

  pub lined-none : (seen : List Visit) (k : ℕ) (vs : List Visit) → Lined seen vs → breaking_from p rs seen k vs ≡ 0
  unfolding breaking_from
  lined-none seen k [] l = refl
  lined-none seen k (v ∷ vs) l = rw (visit-lawful seen v l.0 l.1) (lined-none (v ∷ seen) (suc k) vs l.2)

  -- ---- The whole list: each on its own, and each against every later one

  abbrev pub ClearBefore : Visit → Visit → Type 0
  ClearBefore q v = Clear v q

  pub lined-rising : (seen vs : List Visit) → Lined seen vs → All (LawfulVisit p rs) vs × Rising ClearBefore vs × All (λ v. All (Clear v)
      seen) vs
  lined-rising seen [] l = (tt, tt, tt)
  lined-rising seen (v ∷ vs) l =
      let later = lined-rising (v ∷ seen) vs l.2 in (
        (l.0, later.0),
        (all_map (λ w. All (Clear w) (v ∷ seen)) (ClearBefore v) (λ w c. c.0) vs later.2, later.1),
        (l.1, all_map (λ w. All (Clear w) (v ∷ seen)) (λ w. All (Clear w) seen) (λ w c. c.1) vs later.2),
      )

  pub rising-lined : (seen vs : List Visit) → All (LawfulVisit p rs) vs → Rising ClearBefore vs → All (λ v. All (Clear v) seen) vs
      → Lined seen vs
  rising-lined seen [] good rise before = tt
  rising-lined seen (v ∷ vs) good rise before = (
    good.0,
    before.0,
    rising-lined (v ∷ seen) vs good.1 rise.1
        (all_both (ClearBefore v) (λ w. All (Clear w) seen) (λ w. All (Clear w) (v ∷ seen)) (λ w c cs. (c, cs)) vs rise.0 before.1),
  )

  pub none-breaking : (vs : List Visit) → (first_breaking p rs vs ≡ 0) ↔ (All (LawfulVisit p rs) vs × Rising ClearBefore vs)
  unfolding first_breaking
  none-breaking vs = (
    λ h.
        let l = lined-rising [] vs (lined-of [] 1 vs (omega arith) h) in
        (l.0, l.1),
    λ h. lined-none [] 1 vs (rising-lined [] vs h.0 h.1 (all_of (λ v. All (Clear v) []) (λ v. tt) vs)),
  )
