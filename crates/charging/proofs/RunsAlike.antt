-- What follows where two runs are one, day by day: the same days are late, they end alike.
use Rattle.base.proofs.Prelude.{ℕ, zero, suc, ◌≤◌, ◌≡◌, refl, sym, ap, ◌∙◌, subst, Bool, List, arith, dec_le, ltb, ltb-true}
use Rattle.days.specs.Days.{day, days}
use Rattle.rules.specs.{declared.Plan.Plan, declared.Release.Release, declared.Use.Use, declared.Outcome.TheVariants.Miss, Run.{late_on, history, is_work, is_move, is_idle, miss_day, days_of, run_of}}
use Rattle.base.specs.Count.{count_of}
use Rattle.base.proofs.Least.{least_from-passes}
use Rattle.laws.proofs.History.{miss_day-none, miss_day-before, miss_day-is, run_of-clean, run_of-miss, run_of-late}
use Rattle.sound.proofs.Clean.{Punctual}
use Rattle.charging.specs.RunsAlike.{RunsAlike}

pub alike-itself : (p : Plan) (rs : List Release) → RunsAlike p p rs
alike-itself p rs = record { late = λ t so_far. refl; done = λ t so_far. refl }

module _ (p q : Plan) (rs : List Release) (alike : RunsAlike q p rs) where
  alike-punctual : (t : ℕ) → Punctual p rs t → Punctual q rs t
  alike-punctual t so_far i h = alike.late i (λ j a. so_far j (omega arith)) ∙ so_far i h

  pub alike-back : (t : ℕ) → Punctual q rs t → Punctual p rs t
  alike-back zero so_far i h = absurd (omega arith)
  alike-back (suc t) so_far i h =
      let before = alike-back t (λ j a. so_far j (omega arith)) in
      elim (dec_le (suc i) t) [
        | yes earlier ↦ before i earlier
        | no last ↦
            let today : t ≡ i = omega arith in
            subst (λ d. late_on p rs d ≡ 0) today (sym (alike.late t before) ∙ so_far t (omega arith))
      ]

  pub alike-chain : (r : Plan) → RunsAlike r q rs → RunsAlike r p rs
  alike-chain r more =
      record {
        late = λ t so_far. more.late t (alike-punctual t so_far) ∙ alike.late t so_far;
        done = λ t so_far. more.done t (alike-punctual t so_far) ∙ alike.done t so_far;
      }

  -- ---- How they end

  module _ (length-same : q.run ≡ p.run) where
    days-same : q.run.0 ≡ p.run.0
    days-same = ap (λ n. n.0) length-same

    -- the run of p misses
    module _ (within : miss_day p rs ≤ p.run.0) where
      abbrev d : ℕ
      d = miss_day p rs

      so_far : Punctual p rs d
      so_far = miss_day-before p rs

      late-there : 1 ≤ late_on q rs d
      unfolding miss_day
      late-there =
          let passes = least_from-passes (λ t. ltb 0 (late_on p rs t)) 0 (suc p.run.0) (omega arith) in
          omega (arith, ltb-true 0 (late_on p rs d) passes, alike.late d so_far)

      miss-same : miss_day q rs ≡ miss_day p rs
      miss-same = miss_day-is q rs d (omega (arith, days-same)) late-there (alike-punctual d so_far)

      ends-late : run_of q rs ≡ run_of p rs
      ends-late =
          run_of-late q rs d (omega (arith, days-same)) late-there (alike-punctual d so_far)
          ∙ ap (Miss (day d)) (alike.late d so_far) ∙ sym (run_of-miss p rs within)

    -- it does not
    module _ (without : miss_day p rs ≤ p.run.0 → ⊥) where
      all-along : Punctual p rs (suc p.run.0)
      all-along i h = miss_day-before p rs i (omega arith)

      p-none : miss_day p rs ≡ suc p.run.0
      p-none = miss_day-none p rs (λ t h. all-along t (omega arith))

      q-none : miss_day q rs ≡ suc q.run.0
      q-none = miss_day-none q rs (λ t h. alike-punctual (suc p.run.0) all-along t (omega (arith, days-same)))

      kind-same : (kind : Use → Bool) → days_of q rs kind ≡ days_of p rs kind
      unfolding days_of
      kind-same kind =
          let whole = alike.done p.run.0 (λ i h. all-along i (omega arith)) in
          ap (λ n. days (count_of kind (history q rs n))) days-same ∙ ap (λ us. days (count_of kind us)) whole

      ends-clean : run_of q rs ≡ run_of p rs
      ends-clean = run_of-clean q rs q-none ∙ rw (kind-same is_work, kind-same is_move, kind-same is_idle) (sym (run_of-clean p rs p-none))

    pub alike-miss : miss_day q rs ≡ miss_day p rs
    alike-miss =
        elim (dec_le (miss_day p rs) p.run.0) [
          | yes within ↦ miss-same within
          | no without ↦ omega (arith, p-none without, q-none without, days-same)
        ]

    pub alike-run : run_of q rs ≡ run_of p rs
    alike-run = elim (dec_le (miss_day p rs) p.run.0) [ yes within ↦ ends-late within | no without ↦ ends-clean without ]
