-- The account closes: on day d it is the sharp demand rule at the interval since its start, so nothing due by d is left.
use Rattle.base.proofs.Prelude.{ℕ, suc, ◌+◌, ◌-◌, ◌*◌, ◌≤◌, ◌<◌, ◌≡◌, sym, ap, ◌∙◌, ◌⊎◌, inl, inr, List, arith, ℕ_discrete, dec_le, mul-le-mul_right, zero-mul, length}
use Rattle.rules.specs.{declared.Plan.Plan, declared.Release.Release, declared.Slot.Slot, Plan.{strings_of, string_at, no_string}, Demand.{hold_of, jobs, need, demand}}
use Rattle.base.proofs.Sums.{sum_to, sum_to-le, sum_to-some, sum_to-sum_of}
use Rattle.laws.proofs.{Lawful.{LawfulPlan, LawfulString}, Jobs.jobs-window, ReleaseList.{str, string_at-suc}, Demand.{hold_of-other, need-taker, need-keeper}}
use Rattle.sound.specs.Sharp.{need_but, demand_but, CanBlock, SharplyPasses}
use Rattle.sound.proofs.{Arriving.lawful-str, Account.{backlog, Span, BlockedBy, Account}, Sharp.{need_but-other, demand_but-places}}

-- ---- What a place has asked is within what its string may ask

need-other : (p : Plan) (l b j : ℕ) → (str p j).x ≡ 0 → need p l b (str p j) ≡ jobs (str p j) l * hold_of p (str p j)
need-other p l b j x =
    need-keeper p l b (str p j) (λ e. omega arith) ∙ ap (λ c. jobs (str p j) l * c) (sym (hold_of-other p (str p j) x))

span-need : (p : Plan) (rs : List Release) (d start b j k : ℕ) → LawfulString (str p j) → start + b ≤ d → Span p rs d d start b j k
    → k * hold_of p (str p j) ≤ need p (d - start) b (str p j)
span-need p rs d start b j k good within (inl none) =
    let zero-days : k * hold_of p (str p j) ≡ 0 = ap (λ m. m * hold_of p (str p j)) none ∙ zero-mul (hold_of p (str p j)) in
    omega arith
span-need p rs d start b j k good within (inr s) =
    elim (ℕ_discrete (str p j).x 1) [
      | yes x ↦
          let from = s.from_taker x in
          let many : k ≤ jobs (str p j) (d - start - b) =
          omega (arith, s.count, jobs-window (str p j) s.earlier (d - start - b) good.t_pos (omega (arith, s.until))) in
          omega (arith, need-taker p (d - start) b (str p j) x, mul-le-mul_right (hold_of p (str p j)) many)
      | no other ↦
          let many : k ≤ jobs (str p j) (d - start) =
          omega (arith, s.count, jobs-window (str p j) s.earlier (d - start) good.t_pos (omega (arith, s.until, s.from))) in
          omega (arith, need-other p (d - start) b j (omega (arith, good.x_max)), mul-le-mul_right (hold_of p (str p j)) many)
    ]

-- ---- The account against the rule

module _ (p : Plan) (rs : List Release) (lawful : LawfulPlan p) (sharp : SharplyPasses p) (d start b : ℕ) (k : ℕ → ℕ) (ss : List Slot)
    (account : Account p rs d d ss start b k) where
  abbrev asked : ℕ
  asked = sum_to (length (strings_of p)) (λ j. k j * hold_of p (str p j))

  -- what a place has asked
  place-need : (j : ℕ) → j < length (strings_of p) → k j * hold_of p (str p j) ≤ need p (d - start) b (str p j)
  place-need j a = span-need p rs d start b j (k j) (lawful-str p lawful j a) account.within (account.spans j a)

  asked-demand : b + asked ≤ demand p (d - start) b
  unfolding demand
  asked-demand =
      let each = sum_to-sum_of (λ j. k j * hold_of p (str p j)) (need p (d - start) b) (strings_of p) no_string place-need in
      omega arith

  -- the string that blocked has asked for nothing
  asked-but : (q : ℕ) → k q ≡ 0 → b + asked ≤ demand_but p (d - start) b (suc q)
  asked-but q own =
      let each =
      sum_to-le (length (strings_of p)) (λ j. k j * hold_of p (str p j)) (λ j. need_but p (d - start) b (suc q) (1 + j)) (λ j a.
      elim (ℕ_discrete (suc j) (suc q)) [
        | yes same ↦
            let index : j ≡ q = omega arith in
            let none : k j * hold_of p (str p j) ≡ 0 =
            ap (λ n. n * hold_of p (str p j)) (ap k index ∙ own) ∙ zero-mul (hold_of p (str p j)) in
            omega arith
        | no other ↦ omega (arith, need_but-other p (d - start) b (suc q) j other, place-need j a)
      ]) in
      omega (arith, demand_but-places p (d - start) b (suc q))

  -- a place that has asked: the interval has room for a job of it
  asked-short : (j : ℕ) → 1 ≤ k j * hold_of p (str p j) → Span p rs d d start b j (k j) → start + (str p j).d.0 ≤ d + (str p j).j.0
  asked-short j some (inl none) =
      let zero-days : k j * hold_of p (str p j) ≡ 0 = ap (λ m. m * hold_of p (str p j)) none ∙ zero-mul (hold_of p (str p j)) in
      absurd (omega arith)
  asked-short j some (inr s) = omega (arith, s.from, s.until)

  -- what has blocked and what was asked are within the interval
  unblocked-holds : 1 ≤ d - start → b ≡ 0 → b + asked ≤ d - start
  unblocked-holds pos none =
      let same : demand p (d - start) b ≡ demand p (d - start) 0 = ap (demand p (d - start)) none in
      omega (arith, asked-demand, sharp.unblocked (d - start) pos)

  rule-holds : 1 ≤ d - start → (b ≡ 0) ⊎ BlockedBy p rs d start b k → b + asked ≤ d - start
  rule-holds pos (inl none) = unblocked-holds pos none
  rule-holds pos (inr by) =
      elim (dec_le 1 b) [
        | yes some ↦
            let string : string_at p (suc by.q) ≡ str p by.q = string_at-suc p by.q in
            let can : CanBlock p (d - start) b (suc by.q) =
            record {
              low = omega arith;
              high = by.place;
              some = some;
              within = omega (arith, account.within);
              far = rw string (omega (arith, by.job.far, account.within));
              less = rw string by.bound;
            } in
            omega (arith, asked-but by.q by.own, sharp.blocked (d - start) b (suc by.q) can)
        | no none ↦ unblocked-holds pos (omega arith)
      ]

  pub account-closes : backlog p d ss ≡ 0
  account-closes =
      elim (dec_le 1 (backlog p d ss)) [
        | yes some ↦
            let one =
            sum_to-some (length (strings_of p)) (λ j. k j * hold_of p (str p j)) (omega (arith, account.balance, account.within)) in
            let j = one.0 in
            let short = asked-short j one.2 (account.spans j one.1) in
            let late : (str p j).j.0 < (str p j).d.0 = (lawful-str p lawful j one.1).j_max in
            absurd (omega (arith, account.balance, account.within, rule-holds (omega arith) account.blocker))
        | no none ↦ omega arith
      ]
