-- The run's stints are in the list, and their visits are the run's.
use Rattle.base.proofs.Prelude.{ℕ, ◌≡◌, ◌∙◌, List, ◌++◌, length, drop, replicate}
use Rattle.faults.specs.Checks.{Lawful}
use Rattle.std.specs.Prelude.{Ok}
use Rattle.std.proofs.lemmas.Result.{err_from_is_err_and}
use lib.ListN.{length-replicate}
use Rattle.rules.specs.{declared.Plan.Plan, declared.Releases.Releases, Release.releases_of, Refusal.run_check, Stints.{run_stints, stints_numbers, stints_answer, stints_listed}}
use Rattle.visits.proofs.Handing.{stints-listed-few, stints-listed-end, stints-listed-visits, stints-lawful, stints-count, stints-hold, own-refused}
use Rattle.visits.proofs.own.own_visits.Goals as goal

-- before anything is listed
abbrev blank : List ℕ
blank = replicate 15005 0

blank-long : length blank ≡ 15005
blank-long = length-replicate {A = ℕ} 15005 0

-- the stints were listed
module _ (p : Plan) (rs : Releases) (n : ℕ) (list : List ℕ) (said : Ok n ≡ stints_answer p rs (length blank))
    (stored : list ≡ stints_listed p rs blank) where
  run : run_check p rs ≡ Lawful
  run = stints-lawful p rs blank blank-long n said

  holds : list ≡ stints_numbers (run_stints p (releases_of rs)) ++ drop (length (stints_numbers (run_stints p (releases_of rs)))) blank
  holds = stored ∙ stints-hold p rs blank blank-long n said

  counted : n ≡ length (run_stints p (releases_of rs))
  counted = stints-count p rs blank blank-long n said

pub joined-requires-clause-stints_bound : goal.joined-requires-clause-stints_bound
joined-requires-clause-stints_bound c =
    let e = c.in_ok-stints.ensures in
    let n = c.in_ok-stints.stints in
    stints-listed-few c.args.p c.args.rs (run _ _ n _ e.exact e.stored) _ _ n (holds _ _ n _ e.exact e.stored)
    (counted _ _ n _ e.exact e.stored)

pub joined-requires-clause-stints_end : goal.joined-requires-clause-stints_end
joined-requires-clause-stints_end c =
    let e = c.in_ok-stints.ensures in
    let n = c.in_ok-stints.stints in
    stints-listed-end c.args.p c.args.rs (run _ _ n _ e.exact e.stored) _ _ n (holds _ _ n _ e.exact e.stored)
    (counted _ _ n _ e.exact e.stored)

pub returns-in_err-stints : goal.returns-in_err-stints
returns-in_err-stints c =
    let p = err_from_is_err_and c.from_residual.result c.from_residual.ensures.1 in
    record { exact = rw (p.1, p.2) (own-refused c.args.p c.args.rs blank blank-long _ c.in_err-stints.ensures.exact) }

pub returns : goal.returns
returns c =
    let e = c.in_ok-stints.ensures in
    let n = c.in_ok-stints.stints in
    record {
      exact = rw c.joined.ensures.exact
          (stints-listed-visits c.args.p c.args.rs (run _ _ n _ e.exact e.stored) _ _ n (holds _ _ n _ e.exact e.stored)
          (counted _ _ n _ e.exact e.stored));
    }
