-- What the code holds as it goes from event to event, and why a stretch keeps it.
--     Standing p rs t slots next tally      at the start of day t: the slots and the tally are the definition's, no job was late,
--                                           and the releases before next are those of the days before t
--     Until p rs t next until               day until comes after day t, at the end of the run at the latest, and no release from next
--                                           on before it
use Rattle.base.proofs.Prelude.{ℕ, suc, ◌+◌, ◌-◌, ◌≤◌, ◌<◌, ◌≡◌, sym, ap, ◌∙◌, cond, ltb, ltb-true, ltb-false, List, map, arith, dec_le, ℕ_discrete, le_refl, length, get_or, drop, set, length-drop, get_or-drop}
use Rattle.base.proofs.Lists.{by_bool}
use Rattle.days.specs.{declared.Day.Day, Days.days}
use Rattle.rules.specs.{declared.Plan.Plan, declared.Release.Release, declared.Slot.Slot, declared.Stint.Stint, Plan.strings_of, Release.no_release, Run.{empty_slot, late_at, new_slot, joined, taken, given, use_of, morning, state_at, use_on, late_on}}
use Rattle.stretch.specs.Stretch.{day_at, days_off, morning_on, Stretch}
use Rattle.stretch.proofs.{JoinList.{join_from-none, join_from-drop, join_from-here}, QuietDay.{state_at-old, taken-quiet}, Stretches.{stretch-state, stretch-late, stretch-history}}
use Rattle.run.specs.{declared.tally.Tally.Tally, inner.Tally.{added_to, tally_of}, inner.Day.EndedBy, inner.Join.{Joining, Joined}}
use Rattle.run.proofs.Counting.{tally_of-start, tally_of-more}

pub record Standing (p : Plan) (rs : List Release) (t : ℕ) (slots : List Slot) (next : ℕ) (tally : Tally) : Type 0 where
  pub state : slots ≡ state_at p rs t
  pub clean : (i : ℕ) → i < t → late_on p rs i ≡ 0
  pub count : tally ≡ tally_of p rs t
  pub within : next ≤ length rs
  pub passed : (i : ℕ) → i < next → day_at rs i < t
  pub coming : (i : ℕ) → next ≤ i → i < length rs → t ≤ day_at rs i

pub record Until (p : Plan) (rs : List Release) (t next until : ℕ) : Type 0 where
  pub coming : (i : ℕ) → next ≤ i → i < length rs → until ≤ day_at rs i
  pub later : t < until
  pub within : until ≤ p.run.0

module _ {p : Plan} {rs : List Release} where
  -- day 0
  pub standing-start : {slots : List Slot} {tally : Tally} → slots ≡ map empty_slot (strings_of p)
      → tally ≡ record { work = days 0; moving = days 0; idle = days 0 } → Standing p rs 0 slots 0 tally
  unfolding state_at
  standing-start first none =
      record {
        state = first;
        clean = λ i h. absurd (omega arith);
        count = none ∙ sym (tally_of-start p rs);
        within = omega arith;
        passed = λ i h. absurd (omega arith);
        coming = λ i h k. omega arith;
      }

  -- step 1
  pub standing-late : {t : ℕ} {slots : List Slot} {next : ℕ} {tally : Tally} → Standing p rs t slots next tally
      → late_at t slots ≡ late_on p rs t
  unfolding late_on
  standing-late {t} s = ap (late_at t) s.state

  -- step 2 starts
  pub joining-start : {t : ℕ} {slots : List Slot} {next : ℕ} {tally : Tally} → Standing p rs t slots next tally
      → Joining p rs t next slots next
  unfolding joined
  joining-start {t} {slots} {next} s =
      record {
        pending =
            rw s.state (sym (join_from-drop p t next 1 rs (state_at p rs t) (λ i h l e. omega (arith, s.passed i h))));
        since = le_refl next;
        within = s.within;
        passed = λ i h. omega (arith, s.passed i h);
        coming = s.coming;
        quiet = λ h. s.state;
      }

  -- the release at next is of today
  pub joining-more : {t from : ℕ} {slots : List Slot} {next : ℕ} → next < length rs → day_at rs next ≡ t → Joining p rs t from slots next
      → Joining p rs t from
      (set slots ((get_or rs next no_release).place - 1) (new_slot p (get_or rs next no_release) (next + 1))) (next + 1)
  joining-more {t} {from} {slots} {next} room today j =
      record {
        pending =
            sym (join_from-here p t next rs slots room today) ∙ j.pending;
        since = omega (arith, j.since);
        within = omega arith;
        passed =
            λ i h.
            elim (ℕ_discrete i next)
            [ yes same ↦ rw same (omega arith) | no before ↦ j.passed i (omega arith) ];
        coming = λ i h l. j.coming i (omega arith) l;
        quiet = λ h. absurd (omega (arith, j.since));
      }

  -- no release is left
  pub joined-last : {t from : ℕ} {slots : List Slot} {next : ℕ} → length rs ≤ next → Joining p rs t from slots next
      → Joined p rs t from slots next
  joined-last {t} {slots = slots} {next = next} end j =
      record {
        state =
            sym (join_from-none p t (next + 1) (drop next rs) slots (λ i h e. omega (arith, simp length-drop at h)))
            ∙ j.pending;
        within = j.within;
        passed = j.passed;
        coming = λ i h l. absurd (omega arith);
        quiet = j.quiet;
      }

  -- the release at next is of a later day, and so are those after it
  pub joined-before : {t from : ℕ} {slots : List Slot} {next : ℕ} → ((i k : ℕ) → i ≤ k → k < length rs → day_at rs i ≤ day_at rs k)
      → next < length rs → (day_at rs next ≡ t → ⊥) → Joining p rs t from slots next → Joined p rs t from slots next
  joined-before {t} {slots = slots} {next = next} sorted room other j =
      let later : t < day_at rs next = omega (arith, j.coming next (le_refl next) room) in
      record {
        state =
            sym (join_from-none p t (next + 1) (drop next rs) slots
            (λ i h e.
            let far : next + i < length rs = omega (arith, simp length-drop at h) in
            let same : day_at rs (next + i) ≡ t = ap (λ q. q.day.0) (sym (get_or-drop next rs i no_release)) ∙ e in
            omega (arith, sorted next (next + i) (omega arith) far)))
            ∙ j.pending;
        within = j.within;
        passed = j.passed;
        coming = λ i h l. omega (arith, sorted next i h l);
        quiet = j.quiet;
      }

  -- the next release is the next event from outside
  until_release : {t from until : ℕ} {slots : List Slot} {next : ℕ} → ((i k : ℕ) → i ≤ k → k < length rs → day_at rs i ≤ day_at rs k)
      → next < length rs → day_at rs next < p.run.0 → until ≡ day_at rs next → Joined p rs t from slots next → Until p rs t next until
  until_release {next = next} sorted room early is j =
      record {
        coming = λ i h l. omega (arith, sorted next i h l);
        later = omega (arith, j.coming next (le_refl next) room);
        within = omega arith;
      }

  -- or the end of the run
  until_end : {t until next : ℕ} → length rs ≤ next → t < p.run.0 → until ≡ p.run.0
      → Until p rs t next until
  until_end end running is =
      record { coming = λ i h l. absurd (omega arith); later = omega arith; within = omega arith }

  pub until-next : {t from : ℕ} {slots : List Slot} {next : ℕ} (end until : Day)
      → ((i k : ℕ) → i ≤ k → k < length rs → day_at rs i ≤ day_at rs k) → (next < length rs → day_at rs next < p.run.0) → t < p.run.0
      → end.0 ≡ p.run.0 → until ≡ cond (ltb next (length rs)) (get_or rs next no_release).day end → Joined p rs t from slots next
      → Until p rs t next until.0
  until-next {next = next} end until sorted early running last is j =
      by_bool (ltb next (length rs))
      (λ t.
      let room = ltb-true next (length rs) t in
      until_release sorted room (early room) (ap (λ (d : Day). d.0) (rw t at is)) j)
      (λ e. until_end (ltb-false next (length rs) e) running (ap (λ (d : Day). d.0) (rw e at is) ∙ last))

  -- where no release joined, step 3 changes nothing
  pub joined-quiet : {t from : ℕ} {slots : List Slot} {next : ℕ} → Joined p rs t from slots next → next ≤ from
      → taken p t slots ≡ slots
  joined-quiet {t} j h = rw (j.quiet h) (taken-quiet p t (state_at p rs t) (state_at-old p rs t))

  -- steps 3 and 4
  pub joined-morning : {t from : ℕ} {slots : List Slot} {next : ℕ} (settled : List Slot) → Joined p rs t from slots next
      → settled ≡ given (taken p t slots) → settled ≡ morning_on p rs t
  unfolding morning
  joined-morning {t} settled j m = m ∙ ap (λ ss. given (taken p t ss)) j.state

  -- step 5 goes on up to the next event
  pub ended-stretch : {today : Day} {from until : ℕ} {slots settled after : List Slot} {next : ℕ} {e : Stint}
      → Joined p rs today.0 from slots next → Until p rs today.0 next until → settled ≡ morning_on p rs today.0
      → EndedBy settled after today until e → Stretch p rs today.0 e.length.0
  ended-stretch {today} {until = until} {next = next} {e = e} j u m ended =
      let t = today.0 in
      record {
        some = ended.some;
        part = rw m at ended.part;
        releases = λ i h after. omega (arith, ended.latest, u.coming i (not-passed i h after) h);
        deadlines = rw m at ended.none-due;
      }
    where
      not-passed : (i : ℕ) → i < length rs → today.0 < day_at rs i → next ≤ i
      not-passed i h after = elim (dec_le next i) [ yes k ↦ k | no k ↦ absurd (omega (arith, j.passed i (omega arith))) ]

  -- the stretch ends
  pub standing-next : {today : Day} {from until : ℕ} {slots settled after : List Slot} {next : ℕ} {tally : Tally} {e : Stint}
      → ((i : ℕ) → i < today.0 → late_on p rs i ≡ 0) → late_on p rs today.0 ≡ 0 → tally ≡ tally_of p rs today.0
      → Joined p rs today.0 from slots next → Until p rs today.0 next until → settled ≡ morning_on p rs today.0
      → EndedBy settled after today until e
      → Standing p rs (today.0 + e.length.0) after next (added_to tally e.used e.length.0)
  standing-next {today} {until = until} {settled = settled} {e = e} clean now count j u m ended =
      let t = today.0 in
      let k = e.length.0 in
      let s = ended-stretch j u m ended in
      record {
        state =
            ended.after ∙ ap (days_off k) m ∙ sym (stretch-state p rs t k s k ended.some (le_refl k));
        clean =
            λ i h.
            elim (dec_le (suc i) t) [
              | yes before ↦ clean i before
              | no from ↦
                  elim (ℕ_discrete i t) [
                    | yes same ↦ rw same now
                    | no after ↦
                        let day : t + (i - t) ≡ i = omega arith in
                        rw day at (stretch-late p rs t k s (i - t) (omega arith) (omega arith))
                  ]
            ];
        count =
            let used : e.used ≡ use_on p rs t = ended.used ∙ use-is m in
            rw (count, used) (tally_of-more p rs t k (use_on p rs t) (stretch-history p rs t k s));
        within = j.within;
        passed = λ i h. omega (arith, j.passed i h, ended.some);
        coming = λ i h l. omega (arith, ended.latest, u.coming i h l);
      }
    where
      use-is : settled ≡ morning_on p rs today.0 → use_of settled ≡ use_on p rs today.0
      use-is m = unfold use_on in ap use_of m
