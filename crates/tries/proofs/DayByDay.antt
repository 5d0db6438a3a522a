-- The releases of an interval behind the first ones, day by day and place by place.
--     days_from t            the releases from day t on
--     places_from t k        the releases of day t from place k on
--     release_at t i         that of the string behind the first i, if it comes
use Rattle.base.proofs.Prelude.{ℕ, suc, ◌+◌, ◌-◌, ◌≤◌, ◌<◌, ◌≡◌, ap, ◌∙◌, Bool, true, false, not, ◌&&◌, List, [], ◌∷◌, ◌++◌, map, arith, add-one, eq-eqb, ne_eqb, length, get_or}
use mathlib.Core.List.{flat_map}
use Rattle.days.specs.Days.{day}
use Rattle.base.specs.Count.{keep, up_from}
use Rattle.rules.specs.{declared.BatteryString.BatteryString, declared.Plan.Plan, declared.Release.Release, Plan.{strings_of, no_string}}
use Rattle.base.proofs.Order.{up_from-cons, keep-yes, keep-no}
use Rattle.verdict.specs.inner.Asked.{Ready}
use Rattle.verdict.proofs.StringSums.{strings-count}
use Rattle.exact.specs.Missing.{first_in, due_coming, comes_in, comes_first, comes_at, release_in, releases_in, others_in}
use Rattle.tries.proofs.Places.{from, from-all, from_next, from-end, string-here}

-- ---- The due day of a job that comes on day t

module _ (first : ℕ) (s : BatteryString) (t : ℕ) where
  pub due-at-first : t ≡ first → due_coming first s t ≡ first - s.j.0
  unfolding due_coming
  due-at-first e = rw (eq-eqb t first e)

  pub due-behind : (t ≡ first → ⊥) → due_coming first s t ≡ t
  unfolding due_coming
  due-behind e = rw (ne_eqb t first e)

-- ---- The releases

module _ (p : Plan) (head : List Release) (lead b l : ℕ) where
  abbrev pub days_from : ℕ → List Release
  days_from t = flat_map (releases_in p head lead b l) (up_from t (lead + l - t))

  abbrev pub places_from : ℕ → ℕ → List Release
  places_from t k = map (release_in p lead b t) (keep (comes_at p head lead b l t) (from k p.n))

  pub days-all : others_in p head lead b l ≡ days_from lead
  unfolding others_in
  days-all =
      let whole : lead + l - lead ≡ l = omega arith in
      rw whole

  pub days-end : (t : ℕ) → lead + l ≤ t → days_from t ≡ []
  unfolding up_from flat_map
  days-end t h =
      let none_left : lead + l - t ≡ 0 = omega arith in
      rw none_left

  module _ (ready : Ready p) where
    day-places : (t : ℕ) → releases_in p head lead b l t ≡ places_from t 1
    unfolding releases_in
    day-places t =
        let every : length (strings_of p) ≡ p.n + 1 - 1 = strings-count p ready ∙ omega arith in
        rw every

    pub days-next : (t : ℕ) → t < lead + l → days_from t ≡ places_from t 1 ++ days_from (t + 1)
    unfolding flat_map
    days-next t h =
        let left : lead + l - t ≡ suc (lead + l - (t + 1)) = omega arith in
        ap (λ m. flat_map (releases_in p head lead b l) (up_from t m)) left
        ∙ ap (flat_map (releases_in p head lead b l)) (up_from-cons t (lead + l - (t + 1)))
        ∙ rw (← add-one t, day-places t)

    module _ {ss : List BatteryString} (counted : ss ≡ strings_of p) (t i : ℕ) (h : i < p.n) where
      -- whether the string of the place comes, as the code asks
      abbrev pub comes_next : Bool
      comes_next =
          let s = get_or ss i no_string in
          not (comes_first head (i + 1)) && comes_in (first_in lead b s) (lead + l) s t

      asked-as : comes_at p head lead b l t (i + 1) ≡ comes_next
      asked-as =
          ap (λ s. not (comes_first head (i + 1)) && comes_in (first_in lead b s) (lead + l) s t) (string-here ready counted i)

      pub place-stays : comes_next ≡ false → places_from t (i + 1) ≡ places_from t (i + 1 + 1)
      place-stays e =
          ap (λ js. map (release_in p lead b t) (keep (comes_at p head lead b l t) js)) (from_next (i + 1) p.n (omega arith))
          ∙ ap (map (release_in p lead b t)) (keep-no (comes_at p head lead b l t) (i + 1) (from (i + 1 + 1) p.n) (asked-as ∙ e))

      -- the release as the code makes it
      abbrev pub release_at : Release
      release_at =
          let s = get_or ss i no_string in
          record { day = day t; place = i + 1; need = s.c; due = day (due_coming (first_in lead b s) s t) }

      pub place-comes : comes_next ≡ true → places_from t (i + 1) ≡ release_at ∷ places_from t (i + 1 + 1)
      place-comes e =
          let full : release_in p lead b t (i + 1) ≡ release_at =
          ap (λ s. record { day = day t; place = i + 1; need = s.c; due = day (due_coming (first_in lead b s) s t) })
          (string-here ready counted i) in
          ap (λ js. map (release_in p lead b t) (keep (comes_at p head lead b l t) js)) (from_next (i + 1) p.n (omega arith))
          ∙ ap (map (release_in p lead b t)) (keep-yes (comes_at p head lead b l t) (i + 1) (from (i + 1 + 1) p.n) (asked-as ∙ e))
          ∙ ap (λ r. r ∷ places_from t (i + 1 + 1)) full

    pub places-end : (t k : ℕ) → p.n + 1 ≤ k → places_from t k ≡ []
    unfolding keep
    places-end t k h = ap (λ js. map (release_in p lead b t) (keep (comes_at p head lead b l t) js)) (from-end k p.n h)
