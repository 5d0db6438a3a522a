-- The stints of a run: each day of it lies in exactly one, with what the bank did on that day; their lengths are its days; neighbours
-- differ, so that no shorter list says the same; and they are few.
use Rattle.base.proofs.Prelude.{ℕ, zero, suc, ◌+◌, ◌*◌, ◌≤◌, ◌<◌, ◌≡◌, ap, ◌∙◌, subst, List, [], ◌∷◌, arith, ℕ_discrete, length, get_or}
use lib.ListN.{get_or-append}
use lib.Seq.{get_or_at}
use Rattle.rules.specs.{declared.Plan.Plan, declared.Release.Release, declared.Use.TheVariants.Idle, declared.Stint.Stint, Run.{use_on, history}, Stints.{stints_from, days_run, run_stints}}
use Rattle.base.specs.Count.{sum_of}
use Rattle.laws.proofs.History.{history-length}
use Rattle.stretch.specs.Stints.{spelled, Following, Differing, InOne}
use Rattle.stretch.proofs.{StintList.{stints-follow, stints-spell, lengths-spelled, stints-differ, stints-shortest, each-day}, Few.few-stints}

history-at : (p : Plan) (rs : List Release) (k t : ℕ) → t < k → get_or (history p rs k) t Idle ≡ use_on p rs t
unfolding history
history-at p rs zero t h = absurd (omega arith)
history-at p rs (suc k) t h =
    let before = history p rs k in
    elim (ℕ_discrete t k) [
      | yes last ↦ rw last (get_or_at before (use_on p rs k) [] Idle k (history-length p rs k))
      | no earlier ↦
          get_or-append before (use_on p rs k ∷ []) Idle t (omega (arith, history-length p rs k)) ∙ history-at p rs k t (omega arith)
    ]

module _ (p : Plan) (rs : List Release) where
  -- day by day they say what the history says
  pub run-stints-spell : spelled (run_stints p rs) ≡ history p rs (days_run p rs)
  unfolding run_stints
  run-stints-spell = stints-spell 0 (history p rs (days_run p rs))

  pub run-stints-follow : Following 0 (run_stints p rs)
  unfolding run_stints
  run-stints-follow = stints-follow 0 (history p rs (days_run p rs))

  pub run-stints-add-up : sum_of (λ s. s.length.0) (run_stints p rs) ≡ days_run p rs
  run-stints-add-up = lengths-spelled (run_stints p rs) ∙ ap length run-stints-spell ∙ history-length p rs (days_run p rs)

  pub run-stints-each-day : (t : ℕ) → t < days_run p rs → InOne (run_stints p rs) t (use_on p rs t)
  run-stints-each-day t h =
      let days = ap length run-stints-spell ∙ history-length p rs (days_run p rs) in
      let same : 0 + t ≡ t = omega arith in
      let used = ap (λ us. get_or us t Idle) run-stints-spell ∙ history-at p rs (days_run p rs) t h in
      subst (InOne (run_stints p rs) t) used
      (subst (λ d. InOne (run_stints p rs) d (get_or (spelled (run_stints p rs)) t Idle)) same
      (each-day 0 (run_stints p rs) run-stints-follow t (omega arith)))

  pub run-stints-differ : Differing (run_stints p rs)
  unfolding run_stints
  run-stints-differ = stints-differ 0 (history p rs (days_run p rs))

  -- a list of stints that says the same of every day is as long at least
  pub run-stints-shortest : (ss : List Stint) → spelled ss ≡ history p rs (days_run p rs) → length (run_stints p rs) ≤ length ss
  unfolding run_stints
  run-stints-shortest ss same = subst (λ us. length (stints_from 0 us) ≤ length ss) same (stints-shortest 0 ss)

  pub few-run-stints : length (run_stints p rs) ≤ 3 * length rs + 1
  unfolding run_stints
  few-run-stints = few-stints p rs (days_run p rs)
