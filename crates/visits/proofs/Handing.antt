-- The visits of a run that are handed out: its stints were listed, and there is room for the visits.
use Rattle.base.proofs.Prelude.{ℕ, suc, ◌+◌, ◌*◌, ◌≤◌, ◌≡◌, sym, ap, ◌∙◌, List, [], ◌∷◌, ◌++◌, arith, length, get_or, drop}
use Rattle.faults.specs.Checks.{Refused, Lawful}
use Rattle.std.specs.Prelude.{Ok, Err, Result}
use Rattle.faults.specs.declared.Refusal.{Refusal}
use Rattle.base.specs.Count.{All}
use Rattle.base.proofs.Lists.{by_bool, all_map, all_get_d}
use Rattle.faults.specs.declared.Fault.{Fault}
use Rattle.faults.proofs.Checks.{by-checked}
use Rattle.rules.specs.{declared.Plan.Plan, declared.Releases.Releases, declared.Use.Use, declared.Use.TheVariants.Idle, declared.Stint.Stint, Release.releases_of, Run.history, Refusal.run_check, Stints.{same_use, stint, day_ahead, stints_from, days_run, run_stints, stints_numbers, stints_answer, stints_listed}}
use Rattle.laws.specs.Lawful.{LawfulRun}
use Rattle.laws.proofs.{Releases.run_check-lawful, History.history-length}
use Rattle.run.specs.Numbers.{stint_at}
use Rattle.run.proofs.{Answering.{few-here, stints-refused, stints-fit}, ReadBack.{read_back, all-read-back}}
use Rattle.visits.specs.{declared.OwnVisits.OwnVisits, OwnRun.{stints_visits, handed_out, own_visits}, inner.Own.{stints_in, end_of_stint, StintsEnd}}
use Rattle.visits.proofs.OwnStints.{StartAt, stints-start, stints-visits}

-- ---- The stints of a run end with it

stints-end : (t : ℕ) (us : List Use) → All (λ s. end_of_stint s ≤ t + length us) (stints_from t us)
unfolding stints_from day_ahead
stints-end t [] = tt
stints-end t (u ∷ us) =
    ahead (stints_from (suc t) us) (stints-start (suc t) us)
    (all_map (λ s. end_of_stint s ≤ suc t + length us) (λ s. end_of_stint s ≤ t + suc (length us)) (λ s h. omega arith)
    (stints_from (suc t) us) (stints-end (suc t) us))
  where
    ahead : (ss : List Stint) → StartAt (suc t) ss → All (λ s. end_of_stint s ≤ t + suc (length us)) ss
        → All (λ s. end_of_stint s ≤ t + suc (length us)) (day_ahead t u ss)
    ahead [] start h = (omega arith, tt)
    ahead (s ∷ ss) start h =
        let first = h.0 in
        let one : t + 1 ≤ t + suc (length us) = omega arith in
        let longer : t + (s.length.0 + 1) ≤ t + suc (length us) = omega (arith, start, first) in
        by_bool (same_use u s.used) (λ same. rw same (longer, h.1)) (λ other. rw other (one, h))

module _ (p : Plan) (rs : Releases) (run : run_check p rs ≡ Lawful) where
  abbrev ss : List Stint
  ss = run_stints p (releases_of rs)

  abbrev lawful : LawfulRun p rs
  lawful = run_check-lawful p rs run

  ends : All (λ s. end_of_stint s ≤ 1000000) ss
  unfolding run_stints days_run
  ends =
      let e = days_run p (releases_of rs) in
      let last = lawful.plan.run_max in
      let size = history-length p (releases_of rs) e in
      all_map (λ s. end_of_stint s ≤ 0 + length (history p (releases_of rs) e)) (λ s. end_of_stint s ≤ 1000000) (λ s h. omega arith) ss
      (stints-end 0 (history p (releases_of rs) e))

  -- read back from a list that holds their numbers
  module _ (numbers rest : List ℕ) (n : ℕ) (holds : numbers ≡ stints_numbers ss ++ rest) (count : n ≡ length ss) where
    pub stints-listed-few : n ≤ 3001
    stints-listed-few = omega (arith, few-here p rs lawful)

    pub stints-listed-end : StintsEnd numbers n
    stints-listed-end i inside =
        let read : stint_at numbers i ≡ get_or ss i (stint 0 0 Idle) = ap (λ l. stint_at l i) holds ∙ read_back ss rest i (omega arith) in
        rw read (all_get_d (λ s. end_of_stint s ≤ 1000000) ss i (stint 0 0 Idle) ends (omega arith))

    pub stints-listed-visits : Ok (handed_out (stints_visits (stints_in numbers n))) ≡ own_visits p rs
    unfolding own_visits
    stints-listed-visits =
        let all : stints_in numbers n ≡ ss = ap (λ l. stints_in l n) holds ∙ ap (stints_in (stints_numbers ss ++ rest)) count
        ∙ all-read-back ss rest in
        rw (run, all, stints-visits p (releases_of rs))

-- ---- What was answered for the stints

module _ (p : Plan) (rs : Releases) (list : List ℕ) (room : length list ≡ 15005) where
  fits : (run : run_check p rs ≡ Lawful) → 5 * length (run_stints p (releases_of rs)) ≤ length list
  fits run = omega (arith, few-here p rs (run_check-lawful p rs run))

  pub stints-lawful : (n : ℕ) → Ok n ≡ stints_answer p rs (length list) → run_check p rs ≡ Lawful
  stints-lawful n said =
      by-checked (run_check p rs)
      (λ run. run)
      (λ f at refused. absurd (never n f at (said ∙ sym (stints-refused p rs list f at refused).0)))
    where
      never : (n : ℕ) (f : Fault) (at : ℕ) → ◌≡◌ {A = Result ℕ Refusal} (Ok n) (Refused f at) → ⊥
      never n f at e = cc

  pub stints-count : (n : ℕ) → Ok n ≡ stints_answer p rs (length list) → n ≡ length (run_stints p (releases_of rs))
  stints-count n said = same n _ (said ∙ sym (stints-fit p rs list (stints-lawful n said) (fits (stints-lawful n said))).0)
    where
      same : (i j : ℕ) → ◌≡◌ {A = Result ℕ Refusal} (Ok i) (Ok j) → i ≡ j
      same i j e = cc

  pub stints-hold : (n : ℕ) → Ok n ≡ stints_answer p rs (length list)
      → stints_listed p rs list
      ≡ stints_numbers (run_stints p (releases_of rs)) ++ drop (length (stints_numbers (run_stints p (releases_of rs)))) list
  stints-hold n said = sym (stints-fit p rs list (stints-lawful n said) (fits (stints-lawful n said))).1

  pub own-refused : (e : Refusal) → Err e ≡ stints_answer p rs (length list) → Err e ≡ own_visits p rs
  unfolding own_visits
  own-refused e said =
      by-checked (run_check p rs)
      (λ run. absurd (never e _ (said ∙ sym (stints-fit p rs list run (fits run)).0)))
      (λ g place refused. rw refused (same e g place (said ∙ sym (stints-refused p rs list g place refused).0)))
    where
      never : (e : Refusal) (n : ℕ) → ◌≡◌ {A = Result ℕ Refusal} (Err e) (Ok n) → ⊥
      never e n h = cc

      same : (e : Refusal) (g : Fault) (i : ℕ) → ◌≡◌ {A = Result ℕ Refusal} (Err e) (Refused g i)
          → ◌≡◌ {A = Result OwnVisits Refusal} (Err e) (Refused g i)
      same e g i h =
          let is : e ≡ record { fault = g; at = i } = cc in
          rw is
