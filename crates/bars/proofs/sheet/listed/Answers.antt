-- The list holds the run's stints, and the run says how it ended.
use Rattle.base.proofs.Prelude.{ℕ, ◌≡◌, ◌∙◌, List, ◌++◌, length, drop}
use Rattle.faults.specs.Checks.{Lawful}
use Rattle.std.specs.Prelude.{Ok}
use Rattle.std.proofs.lemmas.Result.{err_from_is_err_and}
use Rattle.rules.specs.{declared.Plan.Plan, declared.Releases.Releases, Release.releases_of, Refusal.run_check, Stints.{run_stints, stints_numbers, stints_answer, stints_listed}}
use Rattle.visits.proofs.Handing.{stints-listed-end, stints-lawful, stints-count, stints-hold}
use Rattle.bars.proofs.Sheets.{refused-by, outcome-is, never-refused, stints-of-run}
use Rattle.bars.proofs.sheet.listed.Goals as goal

-- the stints were listed
module _ (p : Plan) (rs : Releases) (given : List ℕ) (room : length given ≡ 15005) (n : ℕ) (list : List ℕ)
    (said : Ok n ≡ stints_answer p rs (length given)) (stored : list ≡ stints_listed p rs given) where
  lawful : run_check p rs ≡ Lawful
  lawful = stints-lawful p rs given room n said

  holds : list ≡ stints_numbers (run_stints p (releases_of rs)) ++ drop (length (stints_numbers (run_stints p (releases_of rs)))) given
  holds = stored ∙ stints-hold p rs given room n said

  counted : n ≡ length (run_stints p (releases_of rs))
  counted = stints-count p rs given room n said

pub ended-requires-clause-rs_value : goal.ended-requires-clause-rs_value
ended-requires-clause-rs_value c =
    let e = c.in_ok-stints.ensures in
    lawful c.args.p c.args.rs c.args.list.now c.requires _ _ e.exact e.stored

pub ended-requires-clause-stints_value : goal.ended-requires-clause-stints_value
ended-requires-clause-stints_value c =
    let e = c.in_ok-stints.ensures in
    stints-of-run c.args.p (releases_of c.args.rs) _ _ _ (holds c.args.p c.args.rs c.args.list.now c.requires _ _ e.exact e.stored)
    (counted c.args.p c.args.rs c.args.list.now c.requires _ _ e.exact e.stored)

pub ended-requires-clause-stints_end : goal.ended-requires-clause-stints_end
ended-requires-clause-stints_end c =
    let e = c.in_ok-stints.ensures in
    stints-listed-end c.args.p c.args.rs (lawful c.args.p c.args.rs c.args.list.now c.requires _ _ e.exact e.stored) _ _ _
    (holds c.args.p c.args.rs c.args.list.now c.requires _ _ e.exact e.stored)
    (counted c.args.p c.args.rs c.args.list.now c.requires _ _ e.exact e.stored)

pub ended-requires-clause-outcome_value : goal.ended-requires-clause-outcome_value
ended-requires-clause-outcome_value c =
    let e = c.in_ok-stints.ensures in
    outcome-is c.args.p c.args.rs _ (lawful c.args.p c.args.rs c.args.list.now c.requires _ _ e.exact e.stored)
    c.in_ok-outcome.ensures.exact

pub returns-in_err-stints : goal.returns-in_err-stints
returns-in_err-stints c =
    let p = err_from_is_err_and c.from_residual.result c.from_residual.ensures.1 in
    record { told = rw (p.1, p.2) (refused-by c.args.p c.args.rs c.args.list.now c.requires _ c.in_err-stints.ensures.exact) }

pub returns-in_err-outcome : goal.returns-in_err-outcome
returns-in_err-outcome c =
    let e = c.in_ok-stints.ensures in
    absurd (never-refused c.args.p c.args.rs _ (lawful c.args.p c.args.rs c.args.list.now c.requires _ _ e.exact e.stored)
    c.in_err-outcome.ensures.exact)

pub returns : goal.returns
returns c =
    let e = c.in_ok-stints.ensures in
    record { told = (lawful c.args.p c.args.rs c.args.list.now c.requires _ _ e.exact e.stored, c.ended.ensures.told) }
