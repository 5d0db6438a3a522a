-- What one string asks: nothing before its D − J, a whole E from there on, less under blocking; and once it is eased, no more than before.
use Rattle.base.proofs.Prelude.{ℕ, ◌+◌, ◌-◌, ◌*◌, ◌≤◌, ◌<◌, ◌≡◌, ap, ◌∙◌, arith, dec_le, ℕ_discrete, le_refl, mul-le-mul, one-mul, zero-mul}
use Rattle.rules.specs.{declared.BatteryString.BatteryString, declared.Plan.Plan, Demand.{moving_cost, hold_of, jobs, blocker_hold, need}}
use Rattle.laws.proofs.{Lawful.LawfulString, Jobs.{jobs-short, jobs-first, jobs-window, jobs-last, jobs-mono}, Demand.{need-taker, need-keeper, need-unblocked, blocker_hold-early, blocker_hold-late}}
use Rattle.results.specs.Easing.{Eased}

-- ---- A string as it is

module _ (p : Plan) (l : ℕ) (s : BatteryString) where
  -- before its D − J it asks for nothing
  need-early : (b : ℕ) → l + s.j.0 < s.d.0 → need p l b s ≡ 0
  need-early b early =
      let short : l - b + s.j.0 < s.d.0 = omega arith in
      elim (ℕ_discrete s.x 1) [
        | yes taker ↦ need-taker p l b s taker ∙ ap (λ k. k * hold_of p s) (jobs-short s (l - b) short) ∙ zero-mul (hold_of p s)
        | no keeper ↦ need-keeper p l b s keeper ∙ ap (λ k. k * s.c.0) (jobs-short s l early) ∙ zero-mul s.c.0
      ]

  module _ (ok : LawfulString s) where
    -- from there on it asks for a whole job at least, where nothing blocks
    need-whole : s.d.0 ≤ l + s.j.0 → hold_of p s ≤ need p l 0 s
    need-whole long =
        let once : 1 * hold_of p s ≤ jobs s l * hold_of p s = mul-le-mul (jobs-first s l long) (le_refl (hold_of p s)) in
        omega (arith, need-unblocked p l s ok.x_max, one-mul (hold_of p s))

    -- blocking leaves a taker fewer days, and the others theirs
    pub need-blocked : (b : ℕ) → need p l b s ≤ need p l 0 s
    need-blocked b =
        let fewer : jobs s (l - b) ≤ jobs s (l - 0) = jobs-mono s (l - b) (l - 0) ok.t_pos (omega arith) in
        let days : jobs s (l - b) * hold_of p s ≤ jobs s (l - 0) * hold_of p s = mul-le-mul fewer (le_refl (hold_of p s)) in
        elim (ℕ_discrete s.x 1) [
          | yes taker ↦ omega (arith, need-taker p l b s taker, need-taker p l 0 s taker)
          | no keeper ↦ omega (arith, need-keeper p l b s keeper, need-keeper p l 0 s keeper)
        ]

-- ---- And eased

-- due days farther apart, deadlines later, fewer late days: as many jobs or fewer
jobs-eased : (old new : BatteryString) → Eased old new → 1 ≤ old.t.0 → (w : ℕ) → jobs new w ≤ jobs old w
jobs-eased old new easier pos w =
    elim (dec_le new.d.0 (w + new.j.0)) [
      | yes long ↦
          let some = jobs-first new w long in
          let last = jobs-last new w (omega (arith, easier.apart)) long in
          let closer : (jobs new w - 1) * old.t.0 ≤ (jobs new w - 1) * new.t.0 =
          mul-le-mul (le_refl (jobs new w - 1)) easier.apart in
          omega (arith, jobs-window old (jobs new w - 1) w pos (omega (arith, easier.due, easier.late)))
      | no short ↦ omega (arith, jobs-short new w (omega arith))
    ]

module _ (p q : Plan) (old new : BatteryString) (easier : Eased old new) where
  -- E is no larger
  hold-eased : hold_of q new ≤ hold_of p old
  unfolding hold_of moving_cost
  hold-eased =
      let permission : new.x ≤ old.x = omega (arith, easier.permission) in
      let moved : new.a.0 * new.x ≤ old.a.0 * old.x = mul-le-mul easier.moving permission in
      omega (arith, easier.work)

  module _ (ok : LawfulString old) (l b : ℕ) where
    -- nor is what it asks
    pub need-eased : need q l b new ≤ need p l b old
    need-eased =
        elim (ℕ_discrete old.x 1) [
          | yes taker ↦
              let still : new.x ≡ 1 = omega (arith, easier.permission) in
              let fewer = jobs-eased old new easier ok.t_pos (l - b) in
              omega (arith, need-taker q l b new still, need-taker p l b old taker, mul-le-mul fewer hold-eased)
          | no keeper ↦
              let still : new.x ≡ 1 → ⊥ = λ taker. keeper (omega (arith, easier.permission)) in
              let fewer = jobs-eased old new easier ok.t_pos l in
              omega (arith, need-keeper q l b new still, need-keeper p l b old keeper, mul-le-mul fewer easier.work)
        ]

    -- one that blocks, and did not block for as long before, was due within l before: it asked for its whole E; its D has grown, so it has
    -- no late days, and now asks for nothing
    pub blocker-asked : 1 ≤ b → b ≤ blocker_hold q l new → blocker_hold p l old < b → b + need q l b new ≤ need p l 0 old
    blocker-asked some blocks more =
        elim (dec_le new.d.0 l) [
          | yes late ↦ absurd (omega (arith, blocker_hold-late q l new late))
          | no early ↦ due-before (omega arith)
        ]
      where
        due-before : l < new.d.0 → b + need q l b new ≤ need p l 0 old
        due-before early =
            elim (dec_le old.d.0 l) [
              | yes within ↦
                  let on-time : new.j.0 ≡ 0 = easier.grown (omega arith) in
                  omega (
                    arith,
                    blocker_hold-early q l new early,
                    hold-eased,
                    need-whole p l old ok (omega arith),
                    need-early q l new b (omega arith),
                  )
              | no beyond ↦
                  let blocked : blocker_hold p l old ≡ hold_of p old - 1 = blocker_hold-early p l old (omega arith) in
                  absurd (omega (arith, blocker_hold-early q l new early, hold-eased))
            ]
