-- The job that blocks: released alone on the first day of all, z, with need b + 1, and nobody who may take the bank comes up to day z + b.
-- It has the bank on the days z to z + b.
use Rattle.base.proofs.Prelude.{ℕ, zero, suc, ◌+◌, ◌-◌, ◌≤◌, ◌<◌, ◌≡◌, refl, sym, ap, ◌∙◌, subst, inl, inr, ◌≢◌, true, List, arith, dec_le, ℕ_discrete, le_refl, ne_eqb, length, get_or}
use Rattle.days.specs.Days.{days}
use Rattle.rules.specs.{declared.Plan.Plan, declared.Release.Release, declared.Slot.Slot, declared.Job.Job, declared.Job.TheVariants.{Empty, OnBank}, declared.Use.Use, declared.Use.TheVariants.Work, Plan.{strings_of, string_at}, Release.{no_release, first_unlawful}, Run.{on_bank, waits, seated, spent_job, new_slot, joined, taken, given, spent, use_of, morning, state_at, use_on, late_at, late_on, history}}
use Rattle.base.specs.Count.{count_of}
use Rattle.base.proofs.Lists.{true-not-false}
use Rattle.laws.proofs.{Lawful.LawfulPlan, History.history-next, Slots.{at, new_slot-job, new_slot-serves, new_slot-string}, ReleaseList.release-lawful}
use Rattle.sound.specs.Served.{works_for, payer_in}
use Rattle.sound.proofs.{Parts.counted_if, Joining.joined_length, Taking.{Taking, bank_free, bank_kept, bank_taken, Taker, taken-taking}, Using.{Using, idle_day, kept_day, given_day, Used, spent-using}, Orderly.{Orderly, Sits, live-if-waits, empty-not-on, empty-not-waits}, Arriving.{Arrival, arrived, stayed, arrival, joined-on, joined-orderly}, Clean.{Punctual, orderly-at}, Served.untouched}

-- ---- A day for the one that blocks

-- n days of work are left, and none of moving
abbrev works-on : ℕ → Job
works-on n = OnBank (days n) (days 0)

works-spent : (n : ℕ) → 1 ≤ n → spent_job (works-on (suc n)) ≡ works-on n
works-spent n pos =
    let less : suc n - 1 ≡ n = omega arith in
    rw (less, ne_eqb (n + 0) 0 (λ e. omega arith))

-- it uses the day; then one day less is left
record Worked (j n : ℕ) (es : List Slot) (u : Use) : Type 0 where
  pub use-is : u ≡ Work (suc j) 1
  pub serves-is : (at es j).serves ≡ 1
  pub job_is : 1 ≤ n → (at es j).job ≡ works-on n

day-worked : (ks es : List Slot) (u : Use) (j n : ℕ) → Used ks es u j → (at ks j).serves ≡ 1 → seated (at ks j).job ≡ works-on (suc n)
    → Worked j n es u
day-worked ks es u j n k serves job =
    record {
      use-is = k.use-is ∙ rw (serves, job);
      serves-is = ap (λ s. s.serves) k.turn ∙ serves;
      job_is = λ pos. ap (λ s. s.job) k.turn ∙ ap spent_job job ∙ works-spent n pos;
    }

-- ---- A list that begins with the one that blocks

-- the first release is of the place with index j and of day z; the others come later, are of other places, and those that may take the
-- bank come after day z + b
pub record Led (p : Plan) (rs : List Release) (j z b : ℕ) : Type 0 where
  pub there : 0 < length rs
  pub place_is : (get_or rs 0 no_release).place ≡ suc j
  pub day-is : (get_or rs 0 no_release).day.0 ≡ z
  pub need-is : (get_or rs 0 no_release).need ≡ days (suc b)
  pub later : (m : ℕ) → 1 ≤ m → m < length rs → z < (get_or rs m no_release).day.0
  pub once : (m : ℕ) → 1 ≤ m → m < length rs → (get_or rs m no_release).place ≢ suc j
  pub quiet : (m : ℕ) → 1 ≤ m → m < length rs → (string_at p (get_or rs m no_release).place).x ≡ 1 → z + b < (get_or rs m no_release).day.0

module _ (p : Plan) (rs : List Release) (lawful : LawfulPlan p) (listed : first_unlawful p rs ≡ 0) (j z b : ℕ) (led : Led p rs j z b) where
  place_in : j < length (strings_of p)
  place_in = omega (arith, (release-lawful p rs listed 0 led.there).within, led.place_is)

  -- a release of its place is the first
  own_first : (m : ℕ) → m < length rs → (get_or rs m no_release).place ≡ suc j → m ≡ 0
  own_first m h there = elim (dec_le 1 m) [ yes other ↦ absurd (led.once m other h there) | no first ↦ omega arith ]

  -- so is a release of day z
  day-first-only : (m : ℕ) → m < length rs → (get_or rs m no_release).day.0 ≡ z → m ≡ 0
  day-first-only m h today = elim (dec_le 1 m) [ yes other ↦ absurd (omega (arith, led.later m other h)) | no first ↦ omega arith ]

  -- and none is of an earlier day
  from_first : (m : ℕ) → m < length rs → z ≤ (get_or rs m no_release).day.0
  from_first zero h = omega (arith, led.day-is)
  from_first (suc m) h = omega (arith, led.later (suc m) (omega arith) h)

  module _ (t : ℕ) (ss : List Slot) (o : Orderly p rs t ss) (punctual : late_at t ss ≡ 0) where
    abbrev js : List Slot
    js = joined p rs t ss

    place-of-joined : (i : ℕ) → i < length js → i < length (strings_of p)
    place-of-joined i h = omega (arith, joined_length p rs t ss, o.size)

    joined-of-place : (i : ℕ) → i < length (strings_of p) → i < length js
    joined-of-place i h = omega (arith, joined_length p rs t ss, o.size)

    -- ---- Day z

    module _ (start : t ≡ z) where
      start-empty : (i : ℕ) → i < length (strings_of p) → (at ss i).job ≡ Empty
      start-empty i h = go (o.sits i h)
        where
          go : Sits p rs t i (at ss i) → (at ss i).job ≡ Empty
          go (inl e) = e
          go (inr l) =
              let when = l.released in
              absurd (omega (arith, l.before, from_first when.0 when.1, when.3))

      start-own : at js j ≡ new_slot p (get_or rs 0 no_release) 1
      start-own = go (arrival p rs lawful listed t ss o punctual j place_in)
        where
          go : Arrival p rs t j (at ss j) (at js j) → at js j ≡ new_slot p (get_or rs 0 no_release) 1
          go (arrived m h there day empty is) =
              is ∙ ap (λ n. new_slot p (get_or rs n no_release) (suc n)) (own_first m h there)
          go (stayed none is) = absurd (none 0 led.there led.place_is (led.day-is ∙ sym start))

      start-other : (i : ℕ) → i < length (strings_of p) → i ≢ j → (at js i).job ≡ Empty
      start-other i a other = go (arrival p rs lawful listed t ss o punctual i a)
        where
          go : Arrival p rs t i (at ss i) (at js i) → (at js i).job ≡ Empty
          go (arrived m h there day empty is) =
              let first = day-first-only m h (day ∙ start) in
              let same : (get_or rs m no_release).place ≡ suc j = ap (λ n. (get_or rs n no_release).place) first ∙ led.place_is in
              absurd (other (omega arith))
          go (stayed none is) = ap (λ s. s.job) is ∙ start-empty i a

      start-off : (i : ℕ) → i < length js → on_bank (at js i).job ≡ true → ⊥
      start-off i h on =
          let a = place-of-joined i h in
          empty-not-on (at ss i).job (start-empty i a) (joined-on p rs lawful listed t ss o punctual i a on)

      start-kept : (ks : List Slot) (payer : ℕ) → Taking p t js ks payer → ks ≡ js
      start-kept ks payer (bank_free none is zero-pays) = is
      start-kept ks payer (bank_kept h within on none is zero-pays) = is
      start-kept ks payer (bank_taken h q k sized pays) = absurd (start-off h k.holder_in k.holds)

      start-used : (es : List Slot) (u : Use) → Using js es u → Worked j b es u
      start-used es u (idle_day empty is idle) =
          let waits-now : waits (at js j).job ≡ true =
          ap (λ s. waits s.job) start-own ∙ ap waits (new_slot-job p (get_or rs 0 no_release) 1) in
          absurd (empty-not-waits (at js j).job (empty j (joined-of-place j place_in)) waits-now)
      start-used es u (kept_day h on k) = absurd (start-off h k.within on)
      start-used es u (given_day h none w first k) =
          elim (ℕ_discrete h j) [
            | yes own ↦
                day-worked js es u j b (subst (Used js es u) own k)
                (ap (λ s. s.serves) start-own ∙ new_slot-serves p (get_or rs 0 no_release) 1)
                (ap (λ s. seated s.job) start-own ∙ ap seated (new_slot-job p (get_or rs 0 no_release) 1)
                ∙ ap (λ n. OnBank n (days 0)) led.need-is)
            | no other ↦ absurd (empty-not-waits (at js h).job (start-other h (place-of-joined h k.within) other) w)
          ]

      start-day : Worked j b (spent (given (taken p t js))) (use_of (given (taken p t js)))
      start-day =
          subst (λ ks. Worked j b (spent (given ks)) (use_of (given ks)))
          (sym (start-kept (taken p t js) (payer_in t js) (taken-taking p t js)))
          (start-used (spent (given js)) (use_of (given js)) (spent-using js))

    -- ---- The days after

    module _ (n : ℕ) (from : z < t) (until : t ≤ z + b) (serves : (at ss j).serves ≡ 1) (job : (at ss j).job ≡ works-on (suc n)) where
      still-own : at js j ≡ at ss j
      still-own = go (arrival p rs lawful listed t ss o punctual j place_in)
        where
          go : Arrival p rs t j (at ss j) (at js j) → at js j ≡ at ss j
          go (arrived m h there day empty is) =
              let first : (get_or rs m no_release).day.0 ≡ z = ap (λ i. (get_or rs i no_release).day.0) (own_first m h there)
              ∙ led.day-is in
              absurd (omega arith)
          go (stayed none is) = is

      still-on : on_bank (at js j).job ≡ true
      still-on = ap (λ s. on_bank s.job) still-own ∙ ap on_bank job

      -- nobody takes the bank on these days
      no-taker : (h q : ℕ) → q < length (strings_of p) → Taker t (at js h) (at js q) → ⊥
      no-taker h q a k = go (arrival p rs lawful listed t ss o punctual q a)
        where
          go : Arrival p rs t q (at ss q) (at js q) → ⊥
          go (arrived m c there day empty is) =
              let r = get_or rs m no_release in
              let may : (string_at p r.place).x ≡ 1 =
              sym (ap (λ s. s.string.x) is ∙ ap (λ s. s.x) (new_slot-string p r (suc m))) ∙ k.allowed in
              elim (dec_le 1 m) [
                | yes other ↦ omega (arith, led.quiet m other c may)
                | no first ↦
                    let zero-th : m ≡ 0 = omega arith in
                    let start : r.day.0 ≡ z = ap (λ i. (get_or rs i no_release).day.0) zero-th ∙ led.day-is in
                    omega arith
              ]
          go (stayed none is) =
              let w : waits (at ss q).job ≡ true = sym (ap (λ s. waits s.job) is) ∙ k.waiting in
              let l = live-if-waits p rs t q (at ss q) (o.sits q a) w in
              let same : (at js q).release.0 ≡ (at ss q).release.0 = ap (λ s. s.release.0) is in
              omega (arith, l.before, k.today)

      still_kept : (ks : List Slot) (payer : ℕ) → Taking p t js ks payer → ks ≡ js
      still_kept ks payer (bank_free none is zero-pays) = is
      still_kept ks payer (bank_kept h within on none is zero-pays) = is
      still_kept ks payer (bank_taken h q k sized pays) = absurd (no-taker h q (place-of-joined q k.payer_place) k.takes)

      still-used : (es : List Slot) (u : Use) → Using js es u → Worked j n es u
      still-used es u (idle_day empty is idle) =
          absurd (empty-not-on (at js j).job (empty j (joined-of-place j place_in)) still-on)
      still-used es u (kept_day h on k) =
          let own : h ≡ j =
          (joined-orderly p rs lawful listed t ss o punctual).alone h j (place-of-joined h k.within) place_in on still-on in
          day-worked js es u j n (subst (Used js es u) own k)
          (ap (λ s. s.serves) still-own ∙ serves)
          (ap (λ s. seated s.job) still-own ∙ ap seated job)
      still-used es u (given_day h none w first k) = absurd (true-not-false (sym still-on ∙ none j (joined-of-place j place_in)))

      still-day : Worked j n (spent (given (taken p t js))) (use_of (given (taken p t js)))
      still-day =
          subst (λ ks. Worked j n (spent (given ks)) (use_of (given ks)))
          (sym (still_kept (taken p t js) (payer_in t js) (taken-taking p t js)))
          (still-used (spent (given js)) (use_of (given js)) (spent-using js))

  -- ---- The days z to z + b

  day-zero : Punctual p rs (suc z) → Worked j b (state_at p rs (suc z)) (use_on p rs z)
  unfolding state_at morning use_on late_on
  day-zero so_far =
      start-day z (state_at p rs z) (orderly-at p rs lawful listed z (λ i h. so_far i (omega arith))) (so_far z (omega arith)) refl

  day-next : (t n : ℕ) → z < t → t ≤ z + b → Punctual p rs (suc t) → (at (state_at p rs t) j).serves ≡ 1
      → (at (state_at p rs t) j).job ≡ works-on (suc n) → Worked j n (state_at p rs (suc t)) (use_on p rs t)
  unfolding state_at morning use_on late_on
  day-next t n from until so_far serves job =
      still-day t (state_at p rs t) (orderly-at p rs lawful listed t (λ i h. so_far i (omega arith))) (so_far t (omega arith))
      n from until serves job

  holds-bank : (t : ℕ) → t ≤ b → Punctual p rs (suc (z + t)) → Worked j (b - t) (state_at p rs (suc (z + t))) (use_on p rs (z + t))
  holds-bank zero h so_far =
      let all : b - 0 ≡ b = omega arith in
      let now : z + 0 ≡ z = omega arith in
      rw (all, now) (day-zero (λ i k. so_far i (omega arith)))
  holds-bank (suc t) h so_far =
      let before = holds-bank t (omega arith) (λ i k. so_far i (omega arith)) in
      let more : b - t ≡ suc (b - suc t) = omega arith in
      let next : z + suc t ≡ suc (z + t) = omega arith in
      rw next
      (day-next (suc (z + t)) (b - suc t) (omega arith) (omega arith) (λ i k. so_far i (omega arith)) before.serves-is
      (before.job_is (omega arith) ∙ ap works-on more))

  -- the days on which the bank worked for it
  abbrev worked : ℕ → ℕ
  worked t = count_of (works_for 1) (history p rs t)

  -- none before its release
  worked-none : Punctual p rs z → worked z ≡ 0
  worked-none so_far =
      (untouched p rs lawful listed 1 z (omega arith) led.there so_far (omega (arith, led.day-is))).work

  worked-all : (t : ℕ) → t ≤ suc b → Punctual p rs (z + t) → worked (z + t) ≡ t
  worked-all zero h so_far =
      let now : z + 0 ≡ z = omega arith in
      rw now (worked-none (λ i k. so_far i (omega arith)))
  worked-all (suc t) h so_far =
      let next : z + suc t ≡ suc (z + t) = omega arith in
      let before = worked-all t (omega arith) (λ i k. so_far i (omega arith)) in
      let uses = (holds-bank t (omega arith) (λ i k. so_far i (omega arith))).use-is in
      let today : counted_if (works_for 1 (use_on p rs (z + t))) ≡ 1 = ap (λ u. counted_if (works_for 1 u)) uses in
      rw next (omega (arith, history-next p rs (z + t) (works_for 1)))

  worked-grows : (t k : ℕ) → worked t ≤ worked (t + k)
  worked-grows t zero =
      let same : t + 0 ≡ t = omega arith in
      rw same (le_refl (worked t))
  worked-grows t (suc k) =
      let before = worked-grows t k in
      let next : t + suc k ≡ suc (t + k) = omega arith in
      rw next (omega (arith, history-next p rs (t + k) (works_for 1)))

  -- by any day after z + b it has had its need
  pub blocker-worked : (e : ℕ) → z + suc b ≤ e → Punctual p rs (z + suc b) → suc b ≤ worked e
  blocker-worked e h so_far =
      let split : e ≡ z + suc b + (e - (z + suc b)) = omega arith in
      let most : worked e ≡ worked (z + suc b + (e - (z + suc b))) = ap worked split in
      omega (arith, worked-all (suc b) (le_refl (suc b)) so_far, worked-grows (z + suc b) (e - (z + suc b)))
