-- The walk over a release list: what holds before each release, and how it ends.
use Rattle.base.proofs.Prelude.{ℕ, ◌+◌, ◌-◌, ◌≤◌, ◌<◌, ◌≡◌, sym, ap, ◌∙◌, true, false, List, arith, ℕ_discrete, length, drop, get_or, set, length-set, get_or-set_same, get_or-set_other}
use Rattle.std.specs.Prelude.{Some, None, Option}
use Rattle.days.specs.{declared.Day.Day, Days.day}
use Rattle.rules.specs.{declared.Plan.Plan, declared.Release.Release, Release.{release_lawful, unlawful_from, first_unlawful, no_release}}
use Rattle.bounds.specs.inner.Seen.{latest_of, last_of, remembered_of, admits}
use Rattle.bounds.proofs.Seen.{seen_to, seen_to-none, latest_of-next, last_of-same, last_of-other, unlawful_from-good, unlawful_from-bad, unlawful_from-end, admits-remembered, admits-facts, admitted-few}

pub record Walk (p : Plan) (rs : List Release) (last : List (Option Day)) (latest : Day) (i : ℕ) : Type 0 where
  pub within : i ≤ length rs
  pub ten : length p.strings ≡ 10
  pub places : length last ≡ 10
  pub order : latest ≡ latest_of (seen_to rs i)
  pub kept : (k : ℕ) → k < 10 → get_or last k None ≡ last_of (k + 1) (seen_to rs i)
  pub same : unlawful_from p (seen_to rs i) (i + 1) (drop i rs) ≡ first_unlawful p rs

module _ {p : Plan} {rs : List Release} where
  pub walk_start : {last : List (Option Day)} → length p.strings ≡ 10 → length last ≡ 10 → ((k : ℕ) → get_or last k None ≡ None)
      → Walk p rs last (day 0) 0
  unfolding first_unlawful latest_of last_of
  walk_start ten places none =
      record {
        within = omega arith;
        ten = ten;
        places = places;
        order = rw (seen_to-none rs);
        kept = λ k h. rw (seen_to-none rs) (none k);
        same = rw (seen_to-none rs);
      }

  module _ {last : List (Option Day)} {latest : Day} {i : ℕ} (w : Walk p rs last latest i) where
    here : Release
    here = get_or rs i no_release

    walk-admits : admits p latest (remembered_of last (get_or rs i no_release).place) (get_or rs i no_release)
        ≡ release_lawful p (seen_to rs i) (get_or rs i no_release)
    walk-admits =
        ap (λ v. admits p v (remembered_of last (get_or rs i no_release).place) (get_or rs i no_release)) w.order
        ∙ admits-remembered p (seen_to rs i) last (get_or rs i no_release) w.ten w.kept

    pub walk-bad : i < length rs → admits p latest (remembered_of last (get_or rs i no_release).place) (get_or rs i no_release) ≡ false
        → i + 1 ≡ first_unlawful p rs
    walk-bad inside e =
        sym (unlawful_from-bad p rs i inside (i + 1) (sym walk-admits ∙ e)) ∙ w.same

    pub releases-walked : length rs ≤ i → 0 ≡ first_unlawful p rs
    releases-walked h = sym (unlawful_from-end p rs i (i + 1) h) ∙ w.same

    -- an admitted release has one of the ten places
    pub walk-low : admits p latest (remembered_of last (get_or rs i no_release).place) (get_or rs i no_release) ≡ true
        → 1 ≤ (get_or rs i no_release).place
    walk-low t = (admits-facts p latest _ (get_or rs i no_release) t).place_low

    pub walk-high : admits p latest (remembered_of last (get_or rs i no_release).place) (get_or rs i no_release) ≡ true
        → (get_or rs i no_release).place ≤ 10
    walk-high t = admitted-few p latest _ (get_or rs i no_release) w.ten (admits-facts p latest _ (get_or rs i no_release) t)

    pub walk-next : i < length rs → admits p latest (remembered_of last (get_or rs i no_release).place) (get_or rs i no_release) ≡ true
        → Walk p rs (set last ((get_or rs i no_release).place - 1) (Some (get_or rs i no_release).due)) (get_or rs i no_release).day
        (i + 1)
    unfolding here
    walk-next inside t =
        record {
          within = omega arith;
          ten = w.ten;
          places = simp length-set w.places;
          order = sym (latest_of-next rs i);
          kept = λ k h. elim (ℕ_discrete k place) [ yes same ↦ at k h same | no other ↦ away k h other ];
          same = sym (unlawful_from-good p rs i inside (i + 1) (sym walk-admits ∙ t)) ∙ w.same;
        }
      where
        place : ℕ
        place = here.place - 1

        low : 1 ≤ here.place
        low = walk-low t

        high : here.place ≤ 10
        high = walk-high t

        written : get_or (set last place (Some here.due)) place None ≡ Some here.due
        written = get_or-set_same last place (Some here.due) None (omega (arith, w.places, low, high))

        at : (k : ℕ) → k < 10 → k ≡ place → get_or (set last place (Some here.due)) k None ≡ last_of (k + 1) (seen_to rs (i + 1))
        at k h same =
            let next : k + 1 ≡ here.place = omega (arith, low) in
            rw same (written ∙ sym (ap (λ v. last_of v (seen_to rs (i + 1))) (ap (λ v. v + 1) (sym same) ∙ next) ∙ last_of-same rs i))

        away : (k : ℕ) → k < 10 → (k ≡ place → ⊥) → get_or (set last place (Some here.due)) k None ≡ last_of (k + 1) (seen_to rs (i + 1))
        away k h other =
            get_or-set_other last place k (Some here.due) None other
            ∙ w.kept k h
            ∙ sym (last_of-other rs i (k + 1) (λ e. other (omega (arith, low))))
