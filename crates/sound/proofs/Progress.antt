-- How far the run has served one release: the days of work and of moving so far, with what is left in its slot, are its need and what
-- it owes. A day keeps that.
--     Progress ..           the release is still to come, or its slot serves it, or the slot has gone on to a later one
use Rattle.base.proofs.Prelude.{ℕ, suc, ◌+◌, ◌≤◌, ◌<◌, ◌≡◌, sym, ap, ◌∙◌, subst, inl, inr, ◌≢◌, List, arith, ℕ_discrete, length, get_or}
use Rattle.days.specs.Days.{days}
use Rattle.rules.specs.{declared.Plan.Plan, declared.Release.Release, declared.Slot.Slot, declared.Job.TheVariants.{Empty, Waiting}, declared.Use.Use, Release.{no_release, first_unlawful}, Run.{seated, spent_job, used_for, new_slot, put_job}}
use Rattle.sound.specs.Served.{works_for, moves_for}
use Rattle.laws.proofs.{JobParts.{work_of, moving_of, stopped-parts, seated-parts}, Slots.{at, new_slot-serves}, ReleaseList.{str, released-once}}
use Rattle.sound.proofs.{Using.{Using, idle_day, kept_day, given_day, Used}, Orderly.{Live, Orderly, live-if-on, live-if-waits, used-within}, Morning.{Morning, new, same, fee}, Parts.{counted_if, spent-parts, other-use}}

-- the m-th release of rs, from 0, is of the place with index j; works and moves are the days for it so far, and owed is what it pays
pub data Progress (rs : List Release) (m j owed t works moves : ℕ) (s : Slot) : Type 0 where
  to_come : t ≤ (get_or rs m no_release).day.0 → works ≡ 0 → moves ≡ 0 → Progress rs m j owed t works moves s
  serving : (get_or rs m no_release).day.0 < t → s.serves ≡ suc m → works + work_of s.job ≡ (get_or rs m no_release).need.0
      → moves + moving_of s.job ≡ owed → Progress rs m j owed t works moves s
  past : (get_or rs m no_release).day.0 < t → s.serves ≢ suc m → works ≡ (get_or rs m no_release).need.0 → moves ≡ owed
      → Progress rs m j owed t works moves s

module _ (p : Plan) (rs : List Release) (listed : first_unlawful p rs ≡ 0) (m j : ℕ) (h : m < length rs)
    (place : (get_or rs m no_release).place ≡ suc j)
    (below : (str p j).j.0 < (str p j).t.0) (owed t works moves payer : ℕ) where
  -- ---- The morning: the progress is as of the next day, but for the day's use

  -- another release of the place than this one, on day t
  other-day : (i : ℕ) → i < length rs → (get_or rs i no_release).place ≡ suc j → (get_or rs i no_release).day.0 ≡ t → i ≢ m
      → (get_or rs m no_release).day.0 ≢ t
  other-day i a there day other today = other (released-once p rs listed j t below (i, a, there, day) (m, h, place, today))

  this-new : (s k : Slot) → (get_or rs m no_release).day.0 ≡ t → ((get_or rs m no_release).day.0 ≡ t → fee p payer j ≡ owed)
      → k ≡ put_job (new_slot p (get_or rs m no_release) (suc m)) (Waiting (get_or rs m no_release).need (days (fee p payer j)))
      → Progress rs m j owed t works moves s → Progress rs m j owed (suc t) works moves k
  this-new s k day owes is (to_come before w v) =
      serving (omega arith) (ap (λ x. x.serves) is ∙ new_slot-serves p (get_or rs m no_release) (suc m))
      (omega (arith, ap (λ x. work_of x.job) is))
      (omega (arith, ap (λ x. moving_of x.job) is, owes day))
  this-new s k day owes is (serving before named w v) = absurd (omega arith)
  this-new s k day owes is (past before named w v) = absurd (omega arith)

  other-new : (i : ℕ) (s k : Slot) → i < length rs → (get_or rs i no_release).place ≡ suc j → (get_or rs i no_release).day.0 ≡ t → i ≢ m
      → s.job ≡ Empty
      → k.serves ≡ suc i → Progress rs m j owed t works moves s → Progress rs m j owed (suc t) works moves k
  other-new i s k a there day other empty is (to_come before w v) = to_come (omega (arith, other-day i a there day other)) w v
  other-new i s k a there day other empty is (serving before named w v) =
      past (omega arith) (λ e. other (omega arith)) (omega (arith, ap work_of empty)) (omega (arith, ap moving_of empty))
  other-new i s k a there day other empty is (past before named w v) = past (omega arith) (λ e. other (omega arith)) w v

  kept_slot : (s k : Slot) → (get_or rs m no_release).day.0 ≢ t → k.serves ≡ s.serves → work_of k.job ≡ work_of s.job
      → moving_of k.job ≡ moving_of s.job
      → Progress rs m j owed t works moves s → Progress rs m j owed (suc t) works moves k
  kept_slot s k other serves-same work-same moving-same (to_come before w v) = to_come (omega arith) w v
  kept_slot s k other serves-same work-same moving-same (serving before named w v) =
      serving (omega arith) (serves-same ∙ named) (omega arith) (omega arith)
  kept_slot s k other serves-same work-same moving-same (past before named w v) = past (omega arith) (λ e. named (sym serves-same ∙ e)) w v

  pub morning-progress : (s k : Slot) → ((get_or rs m no_release).day.0 ≡ t → fee p payer j ≡ owed) → Morning p rs t payer j s k
      → Progress rs m j owed t works moves s → Progress rs m j owed (suc t) works moves k
  morning-progress s k owes (new i a there day empty is) so_far =
      elim (ℕ_discrete i m) [
        | yes this ↦
            this-new s k (sym (ap (λ n. (get_or rs n no_release).day.0) this) ∙ day) owes
            (is ∙ ap (λ n. put_job (new_slot p (get_or rs n no_release) (suc n))
            (Waiting (get_or rs n no_release).need (days (fee p payer j)))) this)
            so_far
        | no other ↦
            other-new i s k a there day other empty (ap (λ x. x.serves) is ∙ new_slot-serves p (get_or rs i no_release) (suc i)) so_far
      ]
  morning-progress s k owes (same none (inl is)) so_far =
      kept_slot s k (none m h place) (ap (λ x. x.serves) is) (ap (λ x. work_of x.job) is) (ap (λ x. moving_of x.job) is) so_far
  morning-progress s k owes (same none (inr is)) so_far =
      kept_slot s k (none m h place) (ap (λ x. x.serves) is)
      (ap (λ x. work_of x.job) is ∙ (stopped-parts s.job).0)
      (ap (λ x. moving_of x.job) is ∙ (stopped-parts s.job).1)
      so_far

-- ---- The use of the day

module _ (p : Plan) (rs : List Release) (m j : ℕ) (place : (get_or rs m no_release).place ≡ suc j)
    (owed t works moves : ℕ) (ks es : List Slot) (u : Use) (o : Orderly p rs t ks) where
  abbrev After : Type 0
  After = Progress rs m j owed t (works + counted_if (works_for (suc m) u)) (moves + counted_if (moves_for (suc m) u)) (at es j)

  -- the day is not for this release, and its slot keeps what is left
  idle-progress : counted_if (works_for (suc m) u) ≡ 0 → counted_if (moves_for (suc m) u) ≡ 0 → (at es j).serves ≡ (at ks j).serves
      → ((at ks j).serves ≡ suc m → (work_of (at es j).job ≡ work_of (at ks j).job) × (moving_of (at es j).job ≡ moving_of (at ks j).job))
      → Progress rs m j owed t works moves (at ks j) → After
  idle-progress no-work no_move serves-same parts (to_come before w v) = to_come before (omega arith) (omega arith)
  idle-progress no-work no_move serves-same parts (serving before named w v) =
      let kept = parts named in
      serving before (serves-same ∙ named) (omega arith) (omega arith)
  idle-progress no-work no_move serves-same parts (past before named w v) =
      past before (λ e. named (sym serves-same ∙ e)) (omega arith) (omega arith)

  module _ (h : ℕ) (k : Used ks es u h) (l : Live p rs t h (at ks h)) where
    -- the release that the user serves
    abbrev its : ℕ
    its = l.released.0

    its-this : (at ks h).serves ≡ suc m → its ≡ m
    its-this e = omega (arith, l.named)

    -- the user serves another
    another : (at ks h).serves ≢ suc m → Progress rs m j owed t works moves (at ks j) → After
    another other so_far =
        let none = other-use (suc h) (at ks h).serves (suc m) (seated (at ks h).job) other in
        let no-work : counted_if (works_for (suc m) u) ≡ 0 = ap (λ v. counted_if (works_for (suc m) v)) k.use-is ∙ none.0 in
        let no_move : counted_if (moves_for (suc m) u) ≡ 0 = ap (λ v. counted_if (moves_for (suc m) v)) k.use-is ∙ none.1 in
        elim (ℕ_discrete j h) [
          | yes here ↦
              idle-progress no-work no_move
              (subst (λ i. (at es i).serves ≡ (at ks i).serves) (sym here) (ap (λ s. s.serves) k.turn))
              (λ e. absurd (other (ap (λ i. (at ks i).serves) (sym here) ∙ e)))
              so_far
          | no away ↦
              let rest = k.rest j away in
              idle-progress no-work no_move (ap (λ s. s.serves) rest)
              (λ e. (ap (λ s. work_of s.job) rest, ap (λ s. moving_of s.job) rest))
              so_far
        ]

    -- the user serves this one: the slot with index j is his
    this_place : (at ks h).serves ≡ suc m → h ≡ j
    this_place e =
        let there : (get_or rs its no_release).place ≡ suc h = l.released.2 in
        let same_place : (get_or rs its no_release).place ≡ (get_or rs m no_release).place =
        ap (λ i. (get_or rs i no_release).place) (its-this e) in
        omega arith

    this-day : (at ks h).serves ≡ suc m → (get_or rs m no_release).day.0 < t
    this-day e =
        let same-day : (get_or rs its no_release).day.0 ≡ (get_or rs m no_release).day.0 =
        ap (λ i. (get_or rs i no_release).day.0) (its-this e) in
        omega (arith, l.released.3, l.before)

    served-parts : (at ks h).serves ≡ suc m
        → (counted_if (works_for (suc m) u) + work_of (at es h).job ≡ work_of (at ks h).job)
        × (counted_if (moves_for (suc m) u) + moving_of (at es h).job ≡ moving_of (at ks h).job)
    served-parts e =
        let job = (at ks h).job in
        let parts = spent-parts (suc h) (suc m) job l.some in
        let whole = seated-parts job in
        let today : u ≡ used_for (suc h) (suc m) (seated job) = k.use-is ∙ ap (λ n. used_for (suc h) n (seated job)) e in
        let after : (at es h).job ≡ spent_job (seated job) = ap (λ s. s.job) k.turn in (
          omega (arith, ap (λ v. counted_if (works_for (suc m) v)) today, ap work_of after, parts.0, whole.0),
          omega (arith, ap (λ v. counted_if (moves_for (suc m) v)) today, ap moving_of after, parts.1, whole.1),
        )

    this-here : (at ks j).serves ≡ suc m → h ≡ j → Progress rs m j owed t works moves (at ks j) → After
    this-here e here (to_come before w v) = absurd (omega (arith, this-day (ap (λ i. (at ks i).serves) here ∙ e)))
    this-here e here (serving before named w v) =
        let parts = served-parts (ap (λ i. (at ks i).serves) here ∙ e) in
        let work-before : work_of (at ks h).job ≡ work_of (at ks j).job = ap (λ i. work_of (at ks i).job) here in
        let work-after : work_of (at es h).job ≡ work_of (at es j).job = ap (λ i. work_of (at es i).job) here in
        let moving-before : moving_of (at ks h).job ≡ moving_of (at ks j).job = ap (λ i. moving_of (at ks i).job) here in
        let moving-after : moving_of (at es h).job ≡ moving_of (at es j).job = ap (λ i. moving_of (at es i).job) here in
        serving before
        (subst (λ i. (at es i).serves ≡ (at ks i).serves) here (ap (λ s. s.serves) k.turn) ∙ e)
        (omega (arith, parts.0))
        (omega (arith, parts.1))
    this-here e here (past before named w v) = absurd (named e)

    used-progress : Progress rs m j owed t works moves (at ks j) → After
    used-progress so_far =
        elim (ℕ_discrete (at ks h).serves (suc m)) [
          | yes this ↦
              let here = this_place this in
              this-here (sym (ap (λ i. (at ks i).serves) here) ∙ this) here so_far
          | no other ↦ another other so_far
        ]

  pub using-progress : Using ks es u → Progress rs m j owed t works moves (at ks j) → After
  using-progress (idle_day empty is idle) so_far =
      let rest : at es j ≡ at ks j = ap (λ ss. at ss j) is in
      idle-progress
      (ap (λ v. counted_if (works_for (suc m) v)) idle)
      (ap (λ v. counted_if (moves_for (suc m) v)) idle)
      (ap (λ s. s.serves) rest)
      (λ e. (ap (λ s. work_of s.job) rest, ap (λ s. moving_of s.job) rest))
      so_far
  using-progress (kept_day h on k) so_far =
      used-progress h k (live-if-on p rs t h (at ks h) (o.sits h (used-within p rs t ks es u o h k)) on) so_far
  using-progress (given_day h none w first k) so_far =
      used-progress h k (live-if-waits p rs t h (at ks h) (o.sits h (used-within p rs t ks es u o h k)) w) so_far
