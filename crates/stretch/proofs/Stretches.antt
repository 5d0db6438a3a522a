-- Between two events of a run: from day to day the slots of the morning lose a day of what the job on the bank is at, the bank does the
-- same, and nobody is late.
use Rattle.base.proofs.Prelude.{ℕ, zero, suc, ◌+◌, ◌≤◌, ◌<◌, ◌≡◌, sym, ap, ◌∙◌, List, [], ◌∷◌, ◌++◌, append_assoc, append-nil, arith, dec_le, le_refl, length, replicate}
use lib.ListN.{replicate-append-replicate}
use Rattle.rules.specs.{declared.Plan.Plan, declared.Release.Release, Run.{left, given, taken, joined, use_of, spent, morning, state_at, use_on, late_on, history}}
use Rattle.laws.proofs.{Slots.at, Choices.late-nobody}
use Rattle.stretch.specs.Stretch.{day_at, days_off, morning_on, Stretch}
use Rattle.stretch.proofs.{QuietDay.morning-quiet, Spending.{given-twice, days_off-one, days_off-at, Goes, goes_on}}

module _ (p : Plan) (rs : List Release) (t k : ℕ) (s : Stretch p rs t k) where
  settled : given (morning_on p rs t) ≡ morning_on p rs t
  unfolding morning
  settled = given-twice (taken p t (joined p rs t (state_at p rs t)))

  -- j days of the stretch have passed, and the next is one of it too
  goes : (j : ℕ) → 1 ≤ j → j < k → Goes j (morning_on p rs t)
  goes j low high = goes_on j (morning_on p rs t) settled (λ held. omega (arith, s.part held))

  quiet : (j : ℕ) → 1 ≤ j → j < k → (i : ℕ) → i < length rs → day_at rs i ≡ t + j → ⊥
  quiet j low high i h e = omega (arith, s.releases i h (omega arith))

  -- the slots on the days of the stretch, and on the day after it
  state-after : (j : ℕ) → suc j ≤ k → state_at p rs (t + suc j) ≡ days_off (suc j) (morning_on p rs t)
  unfolding state_at
  state-after zero h =
      let next : t + 1 ≡ suc t = omega arith in
      ap (state_at p rs) next ∙ days_off-one (morning_on p rs t)
  state-after (suc j) h =
      let next : t + suc (suc j) ≡ suc (t + suc j) = omega arith in
      let g = goes (suc j) (omega arith) (omega arith) in
      let day : morning_on p rs (t + suc j) ≡ days_off (suc j) (morning_on p rs t) =
      morning-quiet p rs (t + suc j) (quiet (suc j) (omega arith) (omega arith)) ∙ ap given (state-after j (omega arith)) ∙ g.given in
      ap (state_at p rs) next ∙ ap spent day ∙ g.spent

  pub stretch-state : (j : ℕ) → 1 ≤ j → j ≤ k → state_at p rs (t + j) ≡ days_off j (morning_on p rs t)
  stretch-state zero low high = absurd (omega arith)
  stretch-state (suc j) low high = state-after j high

  -- the mornings of its other days
  morning-in : (j : ℕ) → 1 ≤ j → j < k → morning_on p rs (t + j) ≡ days_off j (morning_on p rs t)
  morning-in j low high =
      morning-quiet p rs (t + j) (quiet j low high) ∙ ap given (stretch-state j low (omega arith)) ∙ (goes j low high).given

  -- each day is used as the first
  pub stretch-use : (j : ℕ) → j < k → use_on p rs (t + j) ≡ use_on p rs t
  unfolding use_on
  stretch-use zero high =
      let same : t + 0 ≡ t = omega arith in
      ap (λ d. use_of (morning_on p rs d)) same
  stretch-use (suc j) high =
      ap use_of (morning-in (suc j) (omega arith) high) ∙ (goes (suc j) (omega arith) high).alike

  -- and on none after the first is anybody late
  pub stretch-late : (j : ℕ) → 1 ≤ j → j < k → late_on p rs (t + j) ≡ 0
  unfolding late_on
  stretch-late j low high =
      let ms = morning_on p rs t in
      rw (stretch-state j low (omega arith))
      (late-nobody (t + j) (days_off j ms)
      (λ i h due.
      let same : (at (days_off j ms) i).deadline.0 ≡ (at ms i).deadline.0 = ap (λ d. d.0) (days_off-at j ms i).0 in
      elim (dec_le 1 (left (at (days_off j ms) i).job)) [
        | yes some ↦ absurd (omega (arith, (days_off-at j ms i).1, s.deadlines i (omega (arith, (days_off-at j ms i).1)) (omega arith)))
        | no none ↦ omega arith
      ]))

  -- so the history has the same use once for each day
  history-after : (j : ℕ) → j ≤ k → history p rs (t + j) ≡ history p rs t ++ replicate j (use_on p rs t)
  unfolding history
  history-after zero h =
      let same : t + 0 ≡ t = omega arith in
      ap (history p rs) same ∙ sym (append-nil (history p rs t))
  history-after (suc j) h =
      let next : t + suc j ≡ suc (t + j) = omega arith in
      let one : j + 1 ≡ suc j = omega arith in
      let u = use_on p rs t in
      ap (history p rs) next
      ∙ ap (λ xs. xs ++ (use_on p rs (t + j) ∷ [])) (history-after j (omega arith))
      ∙ ap (λ v. (history p rs t ++ replicate j u) ++ (v ∷ [])) (stretch-use j (omega arith))
      ∙ append_assoc (history p rs t) (replicate j u) (u ∷ [])
      ∙ ap (λ xs. history p rs t ++ xs) (replicate-append-replicate j 1 u ∙ ap (λ n. replicate n u) one)

  pub stretch-history : history p rs (t + k) ≡ history p rs t ++ replicate k (use_on p rs t)
  stretch-history = history-after k (le_refl k)
