-- What is answered where the stints of a run are asked for, case by case.
use Rattle.base.proofs.Prelude.{ℕ, ◌*◌, ◌≤◌, ◌<◌, ◌≡◌, List, ◌++◌, arith, lt-ltb, le-ltb, length, drop, length-take}
use Rattle.faults.specs.Checks.{Refused, Lawful}
use Rattle.std.specs.Prelude.{Ok}
use Rattle.faults.specs.declared.Fault.{Fault}
use Rattle.faults.specs.declared.Fault.TheVariants.{NoRoom}
use Rattle.rules.specs.{declared.Plan.Plan, declared.Releases.Releases, Release.releases_of, Refusal.run_check, Stints.{run_stints, stints_numbers, stints_check, stints_answer, stints_listed}}
use Rattle.laws.proofs.Releases.{LawfulRun}
use Rattle.stretch.proofs.RunStints.{few-run-stints}

module _ (p : Plan) (rs : Releases) where
  abbrev stints_here : ℕ
  stints_here = length (run_stints p (releases_of rs))

  -- they are few
  pub few-here : LawfulRun p rs → stints_here ≤ 3001
  few-here lawful =
      omega (arith, few-run-stints p (releases_of rs), length-take rs.count rs.list, lawful.few)

  module _ (list : List ℕ) where
    pub stints-refused : (f : Fault) (at : ℕ) → run_check p rs ≡ Refused f at
        → (Refused f at ≡ stints_answer p rs (length list)) × (list ≡ stints_listed p rs list)
    unfolding stints_check stints_answer stints_listed
    stints-refused f at e = (rw e, rw e)

    pub stints-short : run_check p rs ≡ Lawful → length list < 5 * stints_here
        → (Refused NoRoom 0 ≡ stints_answer p rs (length list)) × (list ≡ stints_listed p rs list)
    unfolding stints_check stints_answer stints_listed
    stints-short e short = let test = lt-ltb (length list) (5 * stints_here) short in (rw (e, test), rw (e, test))

    pub stints-fit : run_check p rs ≡ Lawful → 5 * stints_here ≤ length list
        → (Ok stints_here ≡ stints_answer p rs (length list))
        × (stints_numbers (run_stints p (releases_of rs)) ++ drop (length (stints_numbers (run_stints p (releases_of rs)))) list
        ≡ stints_listed p rs list)
    unfolding stints_check stints_answer stints_listed
    stints-fit e room = let test = le-ltb (length list) (5 * stints_here) room in (rw (e, test), rw (e, test))
