-- The list is lawful: due days of each string lie T apart, and the one that blocks comes once.
use Rattle.base.proofs.Prelude.{ℕ, ◌+◌, ◌≤◌, ◌<◌, ◌≡◌, refl, sym, ap, ◌∙◌, true, false, not, List, [], ◌∷◌, arith, ℕ_discrete, le_refl, eq-eqb, ne_eqb, eqb-false, eqb, not-true, length, length-take}
use Rattle.rules.specs.{declared.Plan.Plan, declared.Release.Release, Plan.{strings_of, string_at}, Release.first_unlawful}
use Rattle.base.specs.Count.{All, up_from, keep}
use Rattle.base.proofs.{Lists.{all_map, and_left, and_right}, Order.{Rising, all_of, all_keep, all-mapped, all-flat, all_append, all-up_from, rising-append, rising-flat, rising-mapped, rising-keep, rising-up_from, rising-map}}
use Rattle.laws.specs.Lawful.{LawfulPlan}
use Rattle.laws.proofs.{ReleaseList.LawfulRelease, Listing.{Ahead, rising-lawful}}
use Rattle.exact.specs.Missing.{most_late, interval_start, interval_end, block_release, blocker_release, first_in, due_coming, comes_in, comes_first, comes_at, release_in, releases_in, others_in, missing}
use Rattle.exact.proofs.{Coming.{Comes, comes-is, comes-apart, due-within}, Asking.{late-at, lawful-at, blocker-first}}

-- ---- The releases of a day

-- r is a release of day t, behind the first releases
pub record Other (p : Plan) (head : List Release) (lead b l t : ℕ) (r : Release) : Type 0 where
  pub day-is : r.day.0 ≡ t
  pub due_is : r.due.0 ≡ due_coming (first_in lead b (string_at p r.place)) (string_at p r.place) t
  pub low : 1 ≤ r.place
  pub high : r.place ≤ length (strings_of p)
  pub full : r.need.0 ≡ (string_at p r.place).c.0
  pub other : comes_first head r.place ≡ false
  pub when : Comes (first_in lead b (string_at p r.place)) (lead + l) (string_at p r.place) t

module _ (p : Plan) (head : List Release) (lead b l : ℕ) where
  day-others : (t : ℕ) → All (Other p head lead b l t) (releases_in p head lead b l t)
  unfolding releases_in
  day-others t =
      let places = up_from 1 (length (strings_of p)) in
      all-mapped (Other p head lead b l t) (release_in p lead b t) (keep (comes_at p head lead b l t) places)
      (all_keep (λ i. Other p head lead b l t (release_in p lead b t i)) (comes_at p head lead b l t) places
      (all-up_from (λ i. comes_at p head lead b l t i ≡ true → Other p head lead b l t (release_in p lead b t i)) 1 (length (strings_of p))
      each))
    where
      each : (i : ℕ) → 1 ≤ i → i < 1 + length (strings_of p) → comes_at p head lead b l t i ≡ true
          → Other p head lead b l t (release_in p lead b t i)
      each i low high e =
          let s = string_at p i in
          let N = not (comes_first head i) in
          let C = comes_in (first_in lead b s) (lead + l) s t in
          record {
            day-is = refl;
            due_is = refl;
            low = low;
            high = omega arith;
            full = refl;
            other = not-true (comes_first head i) (and_left N C e);
            when = comes-is (first_in lead b s) (lead + l) s t (and_right N C e);
          }

  -- the releases of one day are of different places
  day-rises : (t : ℕ) → Rising (Ahead p) (releases_in p head lead b l t)
  unfolding releases_in
  day-rises t =
      let kept = keep (comes_at p head lead b l t) (up_from 1 (length (strings_of p))) in
      rising-mapped (Ahead p) (release_in p lead b t) kept
      (rising-map ◌<◌ (λ i j. Ahead p (release_in p lead b t i) (release_in p lead b t j))
      (λ i j h. (le_refl t, λ same. absurd (omega arith))) kept
      (rising-keep ◌<◌ (comes_at p head lead b l t) (up_from 1 (length (strings_of p))) (rising-up_from 1 (length (strings_of p)))))

  -- each of the others comes on some day of the interval
  abbrev pub ComesLater : Release → Type 0
  ComesLater r = Other p head lead b l r.day.0 r

  pub others-all : All ComesLater (others_in p head lead b l)
  unfolding others_in
  others-all =
      all-flat ComesLater (releases_in p head lead b l) (up_from lead l)
      (all_of (λ t. All ComesLater (releases_in p head lead b l t))
      (λ t.
      all_map (Other p head lead b l t) ComesLater (λ r o. rw (sym o.day-is) at o) (releases_in p head lead b l t) (day-others t))
      (up_from lead l))

  module _ (late : most_late p ≤ lead) where
    -- the first job of a string comes no earlier than its J
    first-late : (r : Release) (t : ℕ) → Other p head lead b l t r → (string_at p r.place).j.0 ≤ first_in lead b (string_at p r.place)
    first-late r t o = omega (arith, late-at p r.place o.low o.high)

    -- those of a later day keep T
    others_keep : (t u : ℕ) → t < u → (a r : Release) → Other p head lead b l t a → Other p head lead b l u r → Ahead p a r
    others_keep t u h a r o c = (
      omega (arith, o.day-is, c.day-is),
      λ same.
          let s = string_at p r.place in
          let first = first_in lead b s in
          let when : Comes first (lead + l) s t = rw (ap (λ i. string_at p i) same) at o.when in
          let due : a.due.0 ≡ due_coming first s t = rw (ap (λ i. string_at p i) same) at o.due_is in
          omega (arith, comes-apart first (lead + l) s t u (first-late r u c) when c.when h, c.due_is),
    )

    day-before-day : (t u : ℕ) → t < u → All (λ a. All (Ahead p a) (releases_in p head lead b l u)) (releases_in p head lead b l t)
    day-before-day t u h =
        all_map (Other p head lead b l t) (λ a. All (Ahead p a) (releases_in p head lead b l u))
        (λ a o.
        all_map (Other p head lead b l u) (Ahead p a) (λ r c. others_keep t u h a r o c) (releases_in p head lead b l u) (day-others u))
        (releases_in p head lead b l t) (day-others t)

    others-rise : Rising (Ahead p) (others_in p head lead b l)
    unfolding others_in
    others-rise = rising-flat ◌<◌ (Ahead p) (releases_in p head lead b l) day-rises day-before-day (up_from lead l) (rising-up_from lead l)

-- ---- The one that blocks

module _ (p : Plan) (b q : ℕ) where
  pub blocker_release-none : b ≡ 0 → blocker_release p b q ≡ []
  unfolding blocker_release
  blocker_release-none e = rw (eq-eqb b 0 e)

  pub blocker_release-one : (b ≡ 0 → ⊥) → blocker_release p b q ≡ block_release p b q ∷ []
  unfolding blocker_release
  blocker_release-one e = rw (ne_eqb b 0 e)

  -- what holds of the blocker's release, where there is one
  blocker-all : (P : Release → Type 0) → (1 ≤ b → P (block_release p b q)) → All P (blocker_release p b q)
  blocker-all P f =
      elim (ℕ_discrete b 0) [
        | yes none ↦ rw (blocker_release-none none) tt
        | no some ↦ rw (blocker_release-one some) (f (omega arith), tt)
      ]

  blocker-rises : (R : Release → Release → Type 0) → Rising R (blocker_release p b q)
  blocker-rises R =
      elim (ℕ_discrete b 0) [
        | yes none ↦ rw (blocker_release-none none) tt
        | no some ↦ rw (blocker_release-one some) (tt, tt)
      ]

-- where a string can block, it is one of the plan's and has more than b days of work
pub record Blocks (p : Plan) (b q : ℕ) : Type 0 where
  pub low : 1 ≤ q
  pub high : q ≤ length (strings_of p)
  pub long : b < (string_at p q).c.0

-- ---- The list

module _ (p : Plan) (l b q : ℕ) where
  -- a release of the list behind the one that blocks
  abbrev pub ComesBehind : Release → Type 0
  ComesBehind = ComesLater p (blocker_release p b q) (interval_start p b) b l

  abbrev pub others : List Release
  others = others_in p (blocker_release p b q) (interval_start p b) b l

  -- it is of another string
  pub behind-other : 1 ≤ b → (r : Release) → ComesBehind r → r.place ≡ q → ⊥
  behind-other pos r o same =
      let one : comes_first (blocker_release p b q) r.place ≡ eqb r.place q =
      blocker-first p b q r.place o.low (λ e. absurd (omega arith)) in
      eqb-false r.place q (sym one ∙ o.other) same

  module _ (ok : LawfulPlan p) (blocks : 1 ≤ b → Blocks p b q) (some : 1 ≤ l) (room : interval_end p l b ≤ p.run.0) where
    place-within : (i : ℕ) → i ≤ length (strings_of p) → i ≤ p.n
    place-within i high = omega (arith, length-take p.n p.strings)

    other-lawful : (r : Release) → ComesBehind r → LawfulRelease p r
    other-lawful r o =
        let s = string_at p r.place in
        let string = lawful-at p r.place o.low o.high ok in
        let first = first_in (interval_start p b) b s in
        let early = first-late p (blocker_release p b q) (interval_start p b) b l (omega arith) r r.day.0 o in
        let within = due-within first s r.day.0 early o.when.from in
        record {
          place_pos = o.low;
          place_max = place-within r.place o.high;
          need_pos = omega (arith, o.full, string.c_pos);
          need_max = omega (arith, o.full);
          early = omega (arith, o.when.due, string.j_max);
          not_before = omega (arith, o.due_is);
          late_max = omega (arith, o.due_is);
          within = o.high;
        }

    blocker-lawful : 1 ≤ b → LawfulRelease p (block_release p b q)
    blocker-lawful pos =
        let can = blocks pos in
        record {
          place_pos = can.low;
          place_max = place-within q can.high;
          need_pos = omega arith;
          need_max = omega (arith, can.long);
          early = omega arith;
          not_before = le_refl (most_late p);
          late_max = omega arith;
          within = can.high;
        }

    -- the others come later, and are of other strings
    blocker-ahead : 1 ≤ b → (r : Release) → ComesBehind r → Ahead p (block_release p b q) r
    blocker-ahead pos r o = (omega (arith, o.when.from), λ same. absurd (behind-other pos r o (sym same)))

    list-rises : Rising (Ahead p) (missing p l b q)
    unfolding missing
    list-rises =
        rising-append (Ahead p) (blocker_release p b q) others (blocker-rises p b q (Ahead p))
        (others-rise p (blocker_release p b q) (interval_start p b) b l (omega arith))
        (blocker-all p b q (λ a. All (Ahead p a) others)
        (λ pos.
        all_map ComesBehind (Ahead p (block_release p b q)) (blocker-ahead pos) others
        (others-all p (blocker_release p b q) (interval_start p b) b l)))

    each-lawful : All (LawfulRelease p) (missing p l b q)
    unfolding missing
    each-lawful =
        all_append (LawfulRelease p) (blocker_release p b q) others (blocker-all p b q (LawfulRelease p) blocker-lawful)
        (all_map ComesBehind (LawfulRelease p) other-lawful others (others-all p (blocker_release p b q) (interval_start p b) b l))

    pub list_lawful : first_unlawful p (missing p l b q) ≡ 0
    list_lawful = rising-lawful p (missing p l b q) each-lawful list-rises
