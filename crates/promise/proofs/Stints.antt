-- The stints of a run, of what the code answered: `stints` listed k of them in a list that was lent, and read back from it they are
-- stretches of days, one after the other from day 0 on, that together are the days of the run: up to, not into, the day of the miss that
-- `run` names, or all N. On each day the bank did what its stint says; two that follow each other differ; no shorter list says the same.
-- There are at most 3 for each release and 1 more, so that a list of 15,005 numbers is never too short. A refusal leaves the list as it
-- was.
--     told numbers k        the k stints that a list of numbers says
use Rattle.base.proofs.Prelude.{ℕ, ◌+◌, ◌*◌, ◌≤◌, ◌<◌, ◌≡◌, refl, sym, ap, ◌∙◌, subst, List, ◌++◌, map, arith, dec_le, leb, leb-true, length, take, drop, take_at, drop_at}
use Rattle.rules.specs.declared.Outcome.{Outcome}
use Rattle.faults.specs.Checks.{Refused, Lawful, Checked}
use Rattle.faults.specs.declared.Refusal.{Refusal}
use Rattle.std.specs.Prelude.{Ok, Err, Result}
use Rattle.base.specs.Count.{up_from, sum_of}
use Rattle.base.proofs.Lists.{by_bool}
use Rattle.days.specs.{declared.Day.Day, declared.Length.Length, Days.{day, days}}
use Rattle.faults.specs.declared.Fault.{Fault}
use Rattle.rules.specs.declared.Plan.{Plan}
use Rattle.rules.specs.declared.Release.{Release}
use Rattle.rules.specs.declared.Releases.{Releases}
use Rattle.rules.specs.declared.Stint.{Stint}
use Rattle.rules.specs.Release.{releases_of}
use Rattle.rules.specs.Run.{use_on, miss_day, run_of}
use Rattle.rules.specs.Refusal.{run_check}
use Rattle.rules.specs.Stints.{days_run, run_stints, stints_numbers, stints_answer, stints_listed}
use Rattle.rules.specs.Said.{miss, clean, asked_outcome_says}
use Rattle.rules.specs.declared.Outcome.TheVariants as outcome
use Rattle.laws.proofs.{Releases.run_check-lawful, Answers.run-lawful, Says.{asked-miss, asked-clean}}
use Rattle.stretch.specs.Stints.{spelled, Following, Differing, InOne}
use Rattle.stretch.proofs.RunStints.{run-stints-spell, run-stints-follow, run-stints-add-up, run-stints-each-day, run-stints-differ, run-stints-shortest, few-run-stints}
use Rattle.run.specs.Numbers.{stint_at}
use Rattle.run.proofs.{Booking.numbers-length, Answering.{few-here, stints-refused, stints-short, stints-fit}, ReadBack.all-read-back}
use Rattle.run.proofs.stints.Reads as stints
use Rattle.run.proofs.run.Reads as run
use borrow.Author.Tests.{leb-false}
use contract.Lifetimes.{Lfts}

abbrev told : List ℕ → ℕ → List Stint
told numbers k = map (stint_at numbers) (up_from 0 k)

-- ---- What was listed

module _ (p : Plan) (rs : Releases) (list after : List ℕ) where
  abbrev theirs : List Stint
  theirs = run_stints p (releases_of rs)

  -- what a count says of the list that was lent and of the list afterwards
  record Given (k : ℕ) : Type 0 where
    pub lawful : run_check p rs ≡ Lawful
    pub count : k ≡ length theirs
    pub front : after ≡ stints_numbers theirs ++ drop (length (stints_numbers theirs)) list

  given : (k : ℕ) → Ok k ≡ stints_answer p rs (length list) → after ≡ stints_listed p rs list → Given k
  given k said held = go (run_check p rs) refl
    where
      go : (c : Checked) → run_check p rs ≡ c → Given k
      go (Err e) is =
          let other = (stints-refused p rs list e.fault e.at is).0 in
          let z : ◌≡◌ {A = ℕ} 0 1 = cc in
          absurd (omega arith)
      go (Ok _) is =
          elim (dec_le (5 * length theirs) (length list)) [
            | yes room ↦
                let fit = stints-fit p rs list is room in
                let here = fit.0 in
                let same : k ≡ length theirs = cc in
                record { lawful = is; count = same; front = held ∙ sym fit.1 }
            | no short ↦
                let other = (stints-short p rs list is (omega arith)).0 in
                let z : ◌≡◌ {A = ℕ} 0 1 = cc in
                absurd (omega arith)
          ]

  kept : (f : Fault) (at : ℕ) → Refused f at ≡ stints_answer p rs (length list) → after ≡ stints_listed p rs list → after ≡ list
  kept f at said held = go (run_check p rs) refl
    where
      go : (c : Checked) → run_check p rs ≡ c → after ≡ list
      go (Err e) is = held ∙ sym (stints-refused p rs list e.fault e.at is).1
      go (Ok _) is =
          elim (dec_le (5 * length theirs) (length list)) [
            | no short ↦ held ∙ sym (stints-short p rs list is (omega arith)).1
            | yes room ↦
                let other = (stints-fit p rs list is room).0 in
                let z : ◌≡◌ {A = ℕ} 0 1 = cc in
                absurd (omega arith)
          ]

module _ (κs : Lfts 1) (p : Plan) (rs : Releases) (list : _) (e : _) where
  -- read back, they are the run's
  pub listed_back : (k : ℕ) → stints.Learnt κs (p, (rs, (list, tt))) (Ok k) e
      → told e.1.1.0.now k ≡ run_stints p (releases_of rs)
  listed_back k h =
      let g = given p rs list.now e.1.1.0.now k h.0 h.1 in
      let ss = run_stints p (releases_of rs) in
      rw (g.count, g.front) (all-read-back ss (drop (length (stints_numbers ss)) list.now))

  -- five numbers each at the front of the list, whose later places are as they were
  pub listed-places : (k : ℕ) → stints.Learnt κs (p, (rs, (list, tt))) (Ok k) e
      → (take (5 * k) e.1.1.0.now ≡ stints_numbers (run_stints p (releases_of rs)))
      × (drop (5 * k) e.1.1.0.now ≡ drop (5 * k) list.now)
  listed-places k h =
      let g = given p rs list.now e.1.1.0.now k h.0 h.1 in
      let numbers = stints_numbers (run_stints p (releases_of rs)) in
      let rest = drop (length numbers) list.now in
      let size : length numbers ≡ 5 * k = omega (arith, numbers-length (run_stints p (releases_of rs)), g.count) in (
        ap (take (5 * k)) g.front ∙ take_at numbers rest (5 * k) size,
        ap (drop (5 * k)) g.front ∙ drop_at numbers rest (5 * k) size ∙ ap (λ n. drop n list.now) size,
      )

  -- one after the other, from day 0 on
  pub listed-follow : (k : ℕ) → stints.Learnt κs (p, (rs, (list, tt))) (Ok k) e → Following 0 (told e.1.1.0.now k)
  listed-follow k h = subst (Following 0) (sym (listed_back k h)) (run-stints-follow p (releases_of rs))

  -- each day of the run lies in exactly one, which says what the bank did on it
  pub listed-each-day : (k : ℕ) → stints.Learnt κs (p, (rs, (list, tt))) (Ok k) e → (t : ℕ) → t < days_run p (releases_of rs)
      → InOne (told e.1.1.0.now k) t (use_on p (releases_of rs) t)
  listed-each-day k h t early =
      subst (λ ss. InOne ss t (use_on p (releases_of rs) t)) (sym (listed_back k h)) (run-stints-each-day p (releases_of rs) t early)

  pub listed-add-up : (k : ℕ) → stints.Learnt κs (p, (rs, (list, tt))) (Ok k) e
      → sum_of (λ s. s.length.0) (told e.1.1.0.now k) ≡ days_run p (releases_of rs)
  listed-add-up k h = ap (sum_of (λ s. s.length.0)) (listed_back k h) ∙ run-stints-add-up p (releases_of rs)

  -- moving is apart from work, and each release from the others
  pub listed-differ : (k : ℕ) → stints.Learnt κs (p, (rs, (list, tt))) (Ok k) e → Differing (told e.1.1.0.now k)
  listed-differ k h = subst Differing (sym (listed_back k h)) (run-stints-differ p (releases_of rs))

  -- a list of stints that says the same of every day is as long at least
  pub listed-shortest : (k : ℕ) → stints.Learnt κs (p, (rs, (list, tt))) (Ok k) e → (ss : List Stint)
      → spelled ss ≡ spelled (told e.1.1.0.now k) → k ≤ length ss
  listed-shortest k h ss same =
      let g = given p rs list.now e.1.1.0.now k h.0 h.1 in
      let spells = same ∙ ap spelled (listed_back k h) ∙ run-stints-spell p (releases_of rs) in
      omega (arith, g.count, run-stints-shortest p (releases_of rs) ss spells)

  pub listed-few : (k : ℕ) → stints.Learnt κs (p, (rs, (list, tt))) (Ok k) e → k ≤ 3 * length (releases_of rs) + 1
  listed-few k h =
      let g = given p rs list.now e.1.1.0.now k h.0 h.1 in
      omega (arith, g.count, few-run-stints p (releases_of rs))

  -- 15,005 numbers are always enough
  pub listed-enough : (r : Result ℕ Refusal) → stints.Learnt κs (p, (rs, (list, tt))) r e → run_check p rs ≡ Lawful
      → 15005 ≤ length list.now
      → r ≡ Ok (length (run_stints p (releases_of rs)))
  listed-enough r h lawful room =
      let few = few-here p rs (run_check-lawful p rs lawful) in
      h.0 ∙ sym (stints-fit p rs list.now lawful (omega arith)).0

  -- a refusal leaves the list as it was
  pub listed-refusal-keeps : (f : Fault) (at : ℕ) → stints.Learnt κs (p, (rs, (list, tt))) (Refused f at) e
      → e.1.1.0.now ≡ list.now
  listed-refusal-keeps f at h = kept p rs list.now e.1.1.0.now f at h.0 h.1

-- ---- The days of the run, by what `run` answered

module _ (p : Plan) (rs : List Release) where
  days-of-miss : (d i : ℕ) → run_of p rs ≡ outcome.Miss (day d) i → days_run p rs ≡ d
  unfolding run_of days_run
  days-of-miss d i h =
      by_bool (leb (miss_day p rs) p.run.0)
      (λ t.
      let is = rw t at h in
      let same : day (miss_day p rs) ≡ day d = cc in
      omega (arith, ap (λ (x : Day). x.0) same, leb-true (miss_day p rs) p.run.0 t))
      (λ f.
      let is = rw f at h in
      let z : ◌≡◌ {A = ℕ} 0 1 = cc in
      absurd (omega arith))

  days-of-clean : (w m i : Length) → run_of p rs ≡ outcome.Clean w m i → days_run p rs ≡ p.run.0
  unfolding run_of days_run
  days-of-clean w m i h =
      by_bool (leb (miss_day p rs) p.run.0)
      (λ t.
      let is = rw t at h in
      let z : ◌≡◌ {A = ℕ} 0 1 = cc in
      absurd (omega arith))
      (λ f. omega (arith, leb-false (miss_day p rs) p.run.0 f))

module _ (κs : Lfts 0) (p : Plan) (rs : Releases) (r : Result Outcome Refusal) (e : _) (learnt : run.Learnt κs (p, (rs, tt)) r e)
    (lawful : run_check p rs ≡ Lawful) where
  -- up to, not into, the day of the miss
  pub listed-until-miss : (d i : ℕ) → asked_outcome_says r ≡ miss d i → days_run p (releases_of rs) ≡ d
  listed-until-miss d i says =
      let same = sym (run-lawful p rs lawful) ∙ sym learnt ∙ asked-miss r d i says in
      days-of-miss p (releases_of rs) d i (cc)

  -- or all days
  pub listed-all-days : (w m i : ℕ) → asked_outcome_says r ≡ clean w m i → days_run p (releases_of rs) ≡ p.run.0
  listed-all-days w m i says =
      let same = sym (run-lawful p rs lawful) ∙ sym learnt ∙ asked-clean r w m i says in
      days-of-clean p (releases_of rs) (days w) (days m) (days i) (cc)
