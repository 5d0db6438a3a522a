-- Step 2 over a part of the list: releases of other days change nothing, so it is enough to join those of today that follow
-- each other from the first that has not joined.
use Rattle.base.proofs.Prelude.{ℕ, zero, suc, ◌+◌, ◌-◌, ◌≤◌, ◌<◌, ◌≡◌, refl, ap, ◌∙◌, List, [], ◌∷◌, arith, add-one, eq-eqb, ne_eqb, eqb-true, eqb, length, get_or, drop, set, drop-cons}
use Rattle.rules.specs.{declared.Plan.Plan, declared.Release.Release, declared.Slot.Slot, Release.no_release, Run.{new_slot, join_from}}
use Rattle.base.proofs.Lists.{by_bool, All, all_set}
use Rattle.stretch.specs.Stretch.{day_at}

module _ (p : Plan) (t : ℕ) where
  -- no release of today: nothing joins
  pub join_from-none : (k : ℕ) (rs : List Release) (ss : List Slot) → ((i : ℕ) → i < length rs → day_at rs i ≡ t → ⊥)
      → join_from p t k rs ss ≡ ss
  unfolding join_from
  join_from-none k [] ss other = refl
  join_from-none k (r ∷ rs) ss other =
      rw (ne_eqb _ t (other zero (omega arith))) (join_from-none (suc k) rs ss (λ i h. other (suc i) (omega arith)))

  -- the first m are of other days: they can be left out
  pub join_from-drop : (m k : ℕ) (rs : List Release) (ss : List Slot) → ((i : ℕ) → i < m → i < length rs → day_at rs i ≡ t → ⊥)
      → join_from p t k rs ss ≡ join_from p t (m + k) (drop m rs) ss
  unfolding join_from
  join_from-drop zero k rs ss other =
      let same : k ≡ 0 + k = omega arith in
      ap (λ j. join_from p t j rs ss) same
  join_from-drop (suc m) k [] ss other = refl
  join_from-drop (suc m) k (r ∷ rs) ss other =
      let same : m + suc k ≡ suc m + k = omega arith in
      let rest = join_from-drop m (suc k) rs ss (λ i h l. other (suc i) (omega arith) (omega arith)) in
      rw (ne_eqb _ t (other zero (omega arith) (omega arith))) (rest ∙ ap (λ j. join_from p t j (drop m rs) ss) same)

  join_from-first : (k : ℕ) (r : Release) (rs : List Release) (ss : List Slot) → r.day.0 ≡ t
      → join_from p t k (r ∷ rs) ss ≡ join_from p t (suc k) rs (set ss (r.place - 1) (new_slot p r k))
  unfolding join_from
  join_from-first k r rs ss today = rw (eq-eqb _ t today)

  -- the release at i is of today and joins
  pub join_from-here : (i : ℕ) (rs : List Release) (ss : List Slot) → i < length rs → day_at rs i ≡ t
      → join_from p t (i + 1) (drop i rs) ss
      ≡ join_from p t (i + 1 + 1) (drop (i + 1) rs) (set ss ((get_or rs i no_release).place - 1)
      (new_slot p (get_or rs i no_release) (i + 1)))
  join_from-here i rs ss room today =
      ap (λ l. join_from p t (i + 1) l ss) (drop-cons rs i no_release room)
      ∙ join_from-first (i + 1) (get_or rs i no_release) (drop (suc i) rs) ss today
      ∙ rw (add-one (i + 1), add-one i)

  -- what holds of every slot and of a release of today, holds after step 2; the releases are numbered from k on
  pub join_from-all : (P : Slot → Type 0) (k : ℕ) (rs : List Release)
      → ((r : Release) (i : ℕ) → k ≤ i → i < k + length rs → r.day.0 ≡ t → P (new_slot p r i))
      → (ss : List Slot) → All P ss → All P (join_from p t k rs ss)
  unfolding join_from
  join_from-all P k [] new ss h = h
  join_from-all P k (r ∷ rs) new ss h =
      let later : (q : Release) (i : ℕ) → suc k ≤ i → i < suc k + length rs → q.day.0 ≡ t → P (new_slot p q i) =
      λ q i low high e. new q i (omega arith) (omega arith) e in
      by_bool (eqb r.day.0 t)
      (λ today.
      rw today
      (join_from-all P (suc k) rs later _
      (all_set P ss (r.place - 1) (new_slot p r k) h (new r k (omega arith) (omega arith) (eqb-true _ t today)))))
      (λ other. rw other (join_from-all P (suc k) rs later ss h))
