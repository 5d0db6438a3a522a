-- A plan file and an input: the first refusal decides, and where there is none the run gives the board.
use Rattle.base.proofs.Prelude.{ℕ, ◌≡◌, sym, ◌∙◌, List, length}
use Rattle.std.specs.Prelude.{Result, Ok, Err}
use Rattle.faults.specs.{declared.Refusal.Refusal, Checks.Lawful}
use Rattle.faults.proofs.Checks.{then-first, err-not-ok}
use Rattle.rules.specs.{declared.PlanFile.PlanFile, declared.Plan.Plan, declared.Releases.Releases, declared.Outcome.Outcome, Release.releases_of, Run.run_of, Refusal.{run_check, run_answer}, Stints.{run_stints, stints_check, stints_answer, stints_listed}, Text.{Reading, reading_of, said_in}}
use Rattle.laws.proofs.Answers.{run-lawful}
use Rattle.boards.specs.{declared.CrewInput.CrewInput, Input.{Input, input_reading, entered_in}, Whole.{board_in, board_with, board_over, board_reading, over_listed, board_listed}}
use Rattle.boards.proofs.Answered.{check-refused, check-lawful}

-- where the stints are counted the run is not refused
module _ (p : Plan) (rs : Releases) (room n : ℕ) (counted : Ok n ≡ stints_answer p rs room) where
  both : (stints_check p rs room ≡ Lawful) × (length (run_stints p (releases_of rs)) ≡ n)
  unfolding stints_answer
  both = check-lawful (stints_check p rs room) _ n (sym counted)

  ran : run_answer p rs ≡ Ok (run_of p (releases_of rs))
  unfolding stints_check
  ran = run-lawful p rs (then-first (run_check p rs) _ both.0)

  pub boards-run-given : (e : Refusal) → Err e ≡ run_answer p rs → ⊥
  boards-run-given e h = err-not-ok e _ (h ∙ ran)

  run-is : (o : Outcome) → Ok o ≡ run_answer p rs → run_of p (releases_of rs) ≡ o
  run-is o h =
      let there : ◌≡◌ {A = Result Outcome Refusal} (Ok o) (Ok (run_of p (releases_of rs))) = h ∙ ran in
      cc

module _ (plan text list : List ℕ) where
  abbrev r : Reading
  r = reading_of plan

  pub plan-refused : (e : Refusal) → Err e ≡ said_in r
      → (Err e ≡ board_in (board_reading plan text (length list))) × (list ≡ board_listed plan text list)
  unfolding board_reading board_listed
  plan-refused e h = let c = check-refused r.checked _ e (sym h) in (rw c, rw c)

  module _ (file : PlanFile) (read : Ok file ≡ said_in r) where
    lawful : (r.checked ≡ Lawful) × (record { plan = r.plan; releases = r.releases } ≡ file)
    lawful = check-lawful r.checked _ file (sym read)

    abbrev i : Input
    i = input_reading r.plan.run.0 text

    pub input-refused : (e : Refusal) → Err e ≡ entered_in (input_reading file.plan.run.0 text)
        → (Err e ≡ board_in (board_reading plan text (length list))) × (list ≡ board_listed plan text list)
    unfolding board_reading board_listed board_over over_listed
    input-refused e h =
        let c = check-refused i.checked _ e (sym (rw (← lawful.1) at h)) in
        (rw (lawful.0, c), rw (lawful.0, c))

    module _ (entered : CrewInput) (said : Ok entered ≡ entered_in (input_reading file.plan.run.0 text)) where
      there : (i.checked ≡ Lawful) × (record { start = i.start; diary = i.diary } ≡ entered)
      there = check-lawful i.checked _ entered (sym (rw (← lawful.1) at said))

      pub boards_listed : stints_listed file.plan file.releases list ≡ board_listed plan text list
      unfolding board_listed over_listed
      boards_listed = rw (← lawful.1, lawful.0, there.0)

      pub boards-stints-refused : (e : Refusal) → Err e ≡ stints_answer file.plan file.releases (length list)
          → Err e ≡ board_in (board_reading plan text (length list))
      unfolding board_reading board_over board_with stints_answer
      boards-stints-refused e h =
          let c = check-refused (stints_check r.plan r.releases (length list)) _ e (sym (rw (← lawful.1) at h)) in
          rw (lawful.0, there.0, c)

      pub board-given : (n : ℕ) (o : Outcome) → Ok n ≡ stints_answer file.plan file.releases (length list)
          → Ok o ≡ run_answer file.plan file.releases
          → Ok (record { start = entered.start; diary = entered.diary; stints = n; outcome = o })
          ≡ board_in (board_reading plan text (length list))
      unfolding board_reading board_over board_with
      board-given n o counted ran =
          let some = rw (← lawful.1) at counted in
          let went = rw (← lawful.1) at ran in
          let fits = both r.plan r.releases (length list) n some in
          let ends = run-is r.plan r.releases (length list) n some o went in
          rw (lawful.0, there.0, fits.0, fits.1, ends, ← there.1)
