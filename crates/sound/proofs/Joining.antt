-- Step 2 by place: a slot has a release of the day, the last listed, or it is as it was and the day has none for it.
use Rattle.base.proofs.Prelude.{ℕ, zero, suc, ◌+◌, ◌-◌, ◌≤◌, ◌<◌, ◌≡◌, refl, ap, ◌∙◌, ◌⊎◌, inl, inr, ◌≢◌, cond, List, [], ◌∷◌, arith, ℕ_discrete, eqb-true, eqb-false, eqb, length, get_or, set, length-set, get_or-set_same, get_or-set_other}
use Rattle.rules.specs.{declared.Plan.Plan, declared.Release.Release, declared.Slot.Slot, Release.{no_release, first_unlawful}, Run.{no_slot, new_slot, join_from, joined}}
use Rattle.base.proofs.Lists.{All, all-by, by_bool}
use Rattle.laws.proofs.{Slots.at, ReleaseList.release-lawful}

-- one of rs, of the place with index j and of day t, is in the slot s; k is the place in the list of the first of rs
abbrev pub Came : Plan → ℕ → List Release → ℕ → ℕ → Slot → Type 0
Came p k rs t j s =
    (m : ℕ) × (m < length rs) × ((get_or rs m no_release).place ≡ suc j) × ((get_or rs m no_release).day.0 ≡ t)
    × (s ≡ new_slot p (get_or rs m no_release) (k + m))

-- none of rs is of the place with index j and of day t
abbrev pub NoneCame : List Release → ℕ → ℕ → Type 0
NoneCame rs t j = (m : ℕ) → m < length rs → (get_or rs m no_release).place ≡ suc j → (get_or rs m no_release).day.0 ≢ t

abbrev pub JoinedSlot : Plan → ℕ → List Release → ℕ → ℕ → Slot → Slot → Type 0
JoinedSlot p k rs t j before after = Came p k rs t j after ⊎ (NoneCame rs t j × (after ≡ before))

-- the slots after the first of the releases
abbrev joined_one : Plan → ℕ → ℕ → Release → List Slot → List Slot
joined_one p t k r ss = cond (eqb r.day.0 t) (set ss (r.place - 1) (new_slot p r k)) ss

joined_one-length : (p : Plan) (t k : ℕ) (r : Release) (ss : List Slot) → length (joined_one p t k r ss) ≡ length ss
joined_one-length p t k r ss =
    by_bool (eqb r.day.0 t) (λ e. rw e (length-set ss (r.place - 1) (new_slot p r k))) (λ e. rw e)

-- it is of this place and day, or the slot stays
joined_one-at : (p : Plan) (t k : ℕ) (r : Release) (ss : List Slot) (j : ℕ) → 1 ≤ r.place → j < length ss
    → ((r.place ≡ suc j) × (r.day.0 ≡ t) × (at (joined_one p t k r ss) j ≡ new_slot p r k))
    ⊎ ((r.place ≡ suc j → r.day.0 ≢ t) × (at (joined_one p t k r ss) j ≡ at ss j))
joined_one-at p t k r ss j pos h =
    by_bool (eqb r.day.0 t)
    (λ e.
    elim (ℕ_discrete r.place (suc j)) [
      | yes here ↦
          let place : r.place - 1 ≡ j = omega arith in
          inl (here, eqb-true _ _ e, rw (e, place) (get_or-set_same ss j (new_slot p r k) no_slot h))
      | no away ↦
          inr ((λ s. absurd (away s)), rw e (get_or-set_other ss (r.place - 1) j (new_slot p r k) no_slot (omega arith)))
    ])
    (λ e. inr ((λ s. eqb-false _ _ e), rw e))

join_from-at : (p : Plan) (t k : ℕ) (rs : List Release) (ss : List Slot) → All (λ r. 1 ≤ r.place) rs → (j : ℕ) → j < length ss
    → JoinedSlot p k rs t j (at ss j) (at (join_from p t k rs ss) j)
unfolding join_from
join_from-at p t k [] ss pos j h = inr ((λ m a. absurd (omega arith)), refl)
join_from-at p t k (r ∷ rs) ss pos j h =
    go (join_from-at p t (suc k) rs (joined_one p t k r ss) pos.1 j (omega (arith, joined_one-length p t k r ss)))
    (joined_one-at p t k r ss j pos.0 h)
  where
    go : JoinedSlot p (suc k) rs t j (at (joined_one p t k r ss) j) (at (join_from p t (suc k) rs (joined_one p t k r ss)) j)
        → ((r.place ≡ suc j) × (r.day.0 ≡ t) × (at (joined_one p t k r ss) j ≡ new_slot p r k))
        ⊎ ((r.place ≡ suc j → r.day.0 ≢ t) × (at (joined_one p t k r ss) j ≡ at ss j))
        → JoinedSlot p k (r ∷ rs) t j (at ss j) (at (join_from p t (suc k) rs (joined_one p t k r ss)) j)
    go (inl c) one =
        let shift : suc k + c.0 ≡ k + suc c.0 = omega arith in
        inl (suc c.0, omega (arith, c.1), c.2, c.3, c.4 ∙ ap (new_slot p (get_or rs c.0 no_release)) shift)
    go (inr c) (inl one) =
        let here : k ≡ k + 0 = omega arith in
        inl (0, omega arith, one.0, one.1, c.1 ∙ one.2 ∙ ap (new_slot p r) here)
    go (inr c) (inr one) = inr (none, c.1 ∙ one.1)
      where
        none : NoneCame (r ∷ rs) t j
        none zero a = one.0
        none (suc m) a = c.0 m (omega arith)

join_from-length : (p : Plan) (t k : ℕ) (rs : List Release) (ss : List Slot) → length (join_from p t k rs ss) ≡ length ss
unfolding join_from
join_from-length p t k [] ss = refl
join_from-length p t k (r ∷ rs) ss = join_from-length p t (suc k) rs (joined_one p t k r ss) ∙ joined_one-length p t k r ss

pub joined_length : (p : Plan) (rs : List Release) (t : ℕ) (ss : List Slot) → length (joined p rs t ss) ≡ length ss
unfolding joined
joined_length p rs t ss = join_from-length p t 1 rs ss

pub joined_at : (p : Plan) (rs : List Release) → first_unlawful p rs ≡ 0 → (t : ℕ) (ss : List Slot) (j : ℕ) → j < length ss
    → JoinedSlot p 1 rs t j (at ss j) (at (joined p rs t ss) j)
unfolding joined
joined_at p rs lawful t ss j h =
    join_from-at p t 1 rs ss (all-by (λ r. 1 ≤ r.place) rs no_release (λ m a. (release-lawful p rs lawful m a).place_pos)) j h
