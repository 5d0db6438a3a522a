-- The tally of a run's days: a stretch more adds its days to the kind of their use, and no kind has more days than have passed.
use Rattle.base.proofs.Prelude.{ℕ, zero, suc, ◌+◌, ◌≤◌, ◌≡◌, refl, sym, ap, ◌∙◌, Bool, cond, List, ◌++◌, arith, replicate}
use Rattle.days.specs.Days.{days}
use Rattle.rules.specs.{declared.Plan.Plan, declared.Release.Release, declared.Use.Use, declared.Use.TheVariants.{Idle, Work, Move}, declared.Outcome.TheVariants.Clean, Run.{history, is_work, is_move, is_idle, late_on, days_of, run_of}}
use Rattle.base.specs.Count.{count_of}
use Rattle.base.proofs.{Counts.{count_of-append, count_of-le}, Lists.by_bool}
use Rattle.laws.proofs.History.{history-length, miss_day-none, run_of-clean}
use Rattle.run.specs.inner.Tally.{added_to, tally_of, Under}

-- a use k times
count-alike : (f : Use → Bool) (k : ℕ) (u : Use) → count_of f (replicate k u) ≡ cond (f u) k 0
unfolding count_of
count-alike f zero u = by_bool (f u) (λ t. rw t) (λ e. rw e)
count-alike f (suc k) u =
    let rest = count-alike f k u in
    by_bool (f u) (λ t. rw t (omega (arith, rw t at rest))) (λ e. rw e (omega (arith, rw e at rest)))

module _ (p : Plan) (rs : List Release) where
  -- a day adds one or nothing
  count-le : (f : Use → Bool) (k : ℕ) → count_of f (history p rs k) ≤ k
  count-le f k = omega (arith, count_of-le f (history p rs k), history-length p rs k)

  pub tally_of-under : (k m : ℕ) → k ≤ m → Under m (tally_of p rs k)
  tally_of-under k m h =
      record {
        work = omega (arith, count-le is_work k);
        moving = omega (arith, count-le is_move k);
        idle = omega (arith, count-le is_idle k);
      }

  pub tally_of-start : tally_of p rs 0 ≡ record { work = days 0; moving = days 0; idle = days 0 }
  unfolding history count_of
  tally_of-start = refl

  pub tally_of-more : (t k : ℕ) (u : Use) → history p rs (t + k) ≡ history p rs t ++ replicate k u
      → added_to (tally_of p rs t) u k ≡ tally_of p rs (t + k)
  tally_of-more t k u longer =
      added (count_of is_work (history p rs t)) (count_of is_move (history p rs t)) (count_of is_idle (history p rs t)) u
      ∙ rw (sym (grows is_work), sym (grows is_move), sym (grows is_idle))
    where
      grows : (f : Use → Bool) → count_of f (history p rs (t + k)) ≡ count_of f (history p rs t) + cond (f u) k 0
      grows f =
          ap (count_of f) longer ∙ count_of-append f (history p rs t) (replicate k u)
          ∙ ap (λ n. count_of f (history p rs t) + n) (count-alike f k u)

      added : (w m i : ℕ) (u : Use)
          → added_to (record { work = days w; moving = days m; idle = days i }) u k
          ≡ record {
            work = days (w + cond (is_work u) k 0);
            moving = days (m + cond (is_move u) k 0);
            idle =
                days (i + cond (is_idle u) k 0);
          }
      added w m i Idle =
          let sw : w ≡ w + 0 = omega arith in
          let sm : m ≡ m + 0 = omega arith in
          rw (← sw, ← sm)
      added w m i (Work j l) =
          let sm : m ≡ m + 0 = omega arith in
          let si : i ≡ i + 0 = omega arith in
          rw (← sm, ← si)
      added w m i (Move j l) =
          let sw : w ≡ w + 0 = omega arith in
          let si : i ≡ i + 0 = omega arith in
          rw (← sw, ← si)

  -- a run on which no day is late reports its tally
  pub run_of-tally : ((t : ℕ) → t ≤ p.run.0 → late_on p rs t ≡ 0)
      → run_of p rs ≡ Clean (tally_of p rs p.run.0).work (tally_of p rs p.run.0).moving (tally_of p rs p.run.0).idle
  unfolding days_of
  run_of-tally none = run_of-clean p rs (miss_day-none p rs none)
