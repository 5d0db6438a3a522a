-- What the first break of the sharp rule means: where there is one the rule breaks at it; where there is none it holds.
use Rattle.base.proofs.Prelude.{ℕ, ◌+◌, ◌-◌, ◌*◌, ◌≤◌, ◌<◌, ◌≡◌, refl, sym, ◌∙◌, true, false, cond, Option, none, some, arith, dec_le, ℕ_discrete, eq-eqb, ne_eqb, ltb-true, lt-ltb, le-ltb, eqb, ltb, length, zero-le}
use Rattle.base.specs.Count.{All, first_of, up_from, largest}
use Rattle.base.proofs.{Lists.{by_bool, all-at, sum_of-le, largest-ge, and_left, and_right, and_both, true-not-false}, Order.{all-flat, all-mapped, all-up_from, each-of-flat, each-of-mapped, each-of-up_from}, FirstOf.{first_of-none, first_of-passes, first_of-in}}
use Rattle.rules.specs.{declared.BatteryString.BatteryString, declared.Plan.Plan, Plan.{strings_of, string_at, no_string, multiple_of}, Demand.{hold_of, jobs, need, blocker_hold}}
use Rattle.laws.proofs.{Lawful.{LawfulPlan, PlanString}, Demand.{hold_of-other, need-taker, need-keeper, blocker_hold-early}}
use Rattle.sound.specs.Sharp.{need_but, demand_but, CanBlock, SharplyPasses}
use Rattle.exact.specs.Missing.{freely, delay_of, SharpBreak}
use Rattle.exact.proofs.{Freely.{delay_of-taker, delay_of-keeper, freely-multiple, freely-lawful}, Exact.{blocked-short, sharp-of-none, none-of-sharp}}
use Rattle.verdict.proofs.Asked.{work-le}
use Rattle.tries.specs.Tries.{Break, break_at, longest_block, blocked_breaks, breaks_in, all_breaks, can_block, is_broken, sharp_break, free_break}

-- ---- What a string asks

-- E for each job in the days that are the string's own
pub need-own : (p : Plan) (l b : ℕ) (s : BatteryString) → s.x ≤ 1 → need p l b s ≡ jobs s (l - delay_of b s) * hold_of p s
need-own p l b s h =
    elim (ℕ_discrete s.x 1) [
      | yes e ↦ need-taker p l b s e ∙ rw (delay_of-taker b s e)
      | no e ↦
          let all-days : l - 0 ≡ l = omega arith in
          need-keeper p l b s e ∙ rw (delay_of-keeper b s e, all-days, hold_of-other p s (omega arith))
    ]

pub need-small : (p : Plan) (l b : ℕ) (s : BatteryString) → PlanString p s → l ≤ 101000 → need p l b s ≤ 202000000
need-small p l b s ok short =
    omega (arith, need-own p l b s ok.lawful.x_max, work-le p (l - delay_of b s) s ok (omega arith))

module _ (p : Plan) where
  -- ---- What is looked at

  record Reach (y : Break) : Type 0 where
    pub pos : 1 ≤ y.l
    pub near : y.l < 1000 + multiple_of p
    pub nobody : y.b ≡ 0 → y.q ≡ 0
    pub within : y.b ≤ y.l
    pub low : 1 ≤ y.b → 1 ≤ y.q
    pub high : 1 ≤ y.b → y.q ≤ length (strings_of p)

  pub longest-within : (l : ℕ) → longest_block p l ≤ l
  unfolding longest_block
  longest-within l = omega arith

  all-reach : All Reach (all_breaks p)
  unfolding all_breaks
  all-reach =
      all-flat Reach (breaks_in p) (up_from 1 (multiple_of p + 999))
      (all-up_from (λ l. All Reach (breaks_in p l)) 1 (multiple_of p + 999) row)
    where
      blocked : (l : ℕ) → 1 ≤ l → l < 1 + (multiple_of p + 999) → (b : ℕ) → 1 ≤ b → b < 1 + longest_block p l
          → All Reach (blocked_breaks p l b)
      blocked l pos near b least most =
          all-mapped Reach (break_at l b) (up_from 1 (length (strings_of p)))
          (all-up_from (λ q. Reach (break_at l b q)) 1 (length (strings_of p))
          (λ q low high.
          record {
            pos = pos;
            near = omega arith;
            nobody = λ e. absurd (omega arith);
            within = omega (arith, longest-within l);
            low = λ h. low;
            high = λ h. omega arith;
          }))

      row : (l : ℕ) → 1 ≤ l → l < 1 + (multiple_of p + 999) → All Reach (breaks_in p l)
      row l pos near = (
        record {
          pos = pos;
          near = omega arith;
          nobody = λ e. refl;
          within = omega arith;
          low = λ h. absurd (omega arith);
          high = λ h. absurd (omega arith);
        },
        all-flat Reach (blocked_breaks p l) (up_from 1 (longest_block p l))
            (all-up_from (λ b. All Reach (blocked_breaks p l b)) 1 (longest_block p l) (blocked l pos near)),
      )

  -- ---- A string that can block

  module _ (l b q : ℕ) where
    can-of : 1 ≤ q → q ≤ length (strings_of p) → 1 ≤ b → b ≤ l → can_block p l b (string_at p q) ≡ true → CanBlock p l b q
    can-of low high least within can =
        let s = string_at p q in
        let F = ltb l s.d.0 in
        let L = ltb b (hold_of p s) in
        record {
          low = low;
          high = high;
          some = least;
          within = within;
          far = ltb-true l s.d.0 (and_left F L can);
          less = ltb-true b (hold_of p s) (and_right F L can);
        }

    of-can : CanBlock p l b q → can_block p l b (string_at p q) ≡ true
    of-can can = and_both _ _ (lt-ltb l _ can.far) (lt-ltb b _ can.less)

  -- ---- Broken

  module _ (y : Break) where
    over-of : is_broken p y ≡ true → y.l < demand_but p y.l y.b y.q
    unfolding is_broken
    over-of t =
        let C = cond (eqb y.b 0) true (can_block p y.l y.b (string_at p y.q)) in
        ltb-true _ _ (and_right C (ltb y.l (demand_but p y.l y.b y.q)) t)

    block_of : is_broken p y ≡ true → 1 ≤ y.b → can_block p y.l y.b (string_at p y.q) ≡ true
    unfolding is_broken
    block_of t least =
        let C = cond (eqb y.b 0) true (can_block p y.l y.b (string_at p y.q)) in
        let can = and_left C (ltb y.l (demand_but p y.l y.b y.q)) t in
        rw (ne_eqb y.b 0 (λ e. omega arith)) at can

    -- the tests in turn
    pub nobody-over : y.b ≡ 0 → y.l < demand_but p y.l y.b y.q → is_broken p y ≡ true
    unfolding is_broken
    nobody-over e over = rw (eq-eqb y.b 0 e) (lt-ltb _ _ over)

    pub blocker-over : 1 ≤ y.b → can_block p y.l y.b (string_at p y.q) ≡ true
        → y.l < demand_but p y.l y.b y.q → is_broken p y ≡ true
    unfolding is_broken
    blocker-over least can over = rw (ne_eqb y.b 0 (λ e. omega arith), can) (lt-ltb _ _ over)

    pub blocker-cannot : 1 ≤ y.b → can_block p y.l y.b (string_at p y.q) ≡ false → is_broken p y ≡ false
    unfolding is_broken
    blocker-cannot least cannot = rw (ne_eqb y.b 0 (λ e. omega arith), cannot)

    pub not-over : demand_but p y.l y.b y.q ≤ y.l → is_broken p y ≡ false
    unfolding is_broken
    not-over h =
        let C = cond (eqb y.b 0) true (can_block p y.l y.b (string_at p y.q)) in
        rw (le-ltb _ _ h) (by_bool C (λ t. rw t) (λ f. rw f))

    broken-of : SharpBreak p y.l y.b y.q → is_broken p y ≡ true
    broken-of broken =
        elim (dec_le 1 y.b) [
          | yes least ↦ blocker-over least (of-can y.l y.b y.q (broken.can least)) broken.over
          | no nothing ↦ nobody-over (omega arith) broken.over
        ]

    sharp-of : Reach y → is_broken p y ≡ true → SharpBreak p y.l y.b y.q
    sharp-of reach t =
        record {
          pos = reach.pos;
          nobody = reach.nobody;
          can = λ least. can-of y.l y.b y.q (reach.low least) (reach.high least) least reach.within (block_of t least);
          over = over-of t;
        }

  -- no string breaks it by blocking where not even all of them ask for more than the interval
  but-less : (l b q : ℕ) → demand_but p l b q ≤ demand_but p l b 0
  unfolding demand_but need_but
  but-less l b q =
      let n = length (strings_of p) in
      let each =
      sum_of-le (need_but p l b q) (need_but p l b 0) (up_from 1 n)
      (all-up_from (λ i. need_but p l b q i ≤ need_but p l b 0 i) 1 n
      (λ i low high.
      let asks = need p l b (string_at p i) in
      let all : cond (eqb i 0) 0 asks ≡ asks = rw (ne_eqb i 0 (λ e. omega arith)) in
      by_bool (eqb i q) (λ t. rw t zero-le) (λ f. rw f (omega arith)))) in
      omega arith

  pub none-blocks : (l b : ℕ) → demand_but p l b 0 ≤ l → first_of (is_broken p) (blocked_breaks p l b) ≡ none
  none-blocks l b h =
      (first_of-none (is_broken p) (blocked_breaks p l b)).1
      (all-mapped (λ y. is_broken p y ≡ false) (break_at l b) (up_from 1 (length (strings_of p)))
      (all-up_from (λ q. is_broken p (break_at l b q) ≡ false) 1 (length (strings_of p))
      (λ q low high. not-over (break_at l b q) (omega (arith, but-less l b q)))))

  -- the first break
  module _ (y : Break) (is : sharp_break p ≡ some y) where
    found-reach : Reach y
    unfolding sharp_break
    found-reach = first_of-in (is_broken p) Reach (all_breaks p) y all-reach is

    pub break-names : SharpBreak p y.l y.b y.q
    unfolding sharp_break
    break-names = sharp-of y found-reach (first_of-passes (is_broken p) (all_breaks p) y is)

    pub break-near : y.l < 1000 + multiple_of p
    break-near = found-reach.near

    pub break-blocking : LawfulPlan p → y.b ≤ 1000
    break-blocking ok =
        elim (dec_le 1 y.b) [
          | yes least ↦
              let can = break-names.can least in
              omega (arith, can.within, blocked-short p y.l y.b y.q can ok)
          | no nothing ↦ omega arith
        ]

  -- ---- No break

  module _ (is : sharp_break p ≡ none) where
    each-whole : All (λ y. is_broken p y ≡ false) (all_breaks p)
    unfolding sharp_break
    each-whole = (first_of-none (is_broken p) (all_breaks p)).0 is

    row-whole : (l : ℕ) → 1 ≤ l → l < 1000 + multiple_of p → All (λ y. is_broken p y ≡ false) (breaks_in p l)
    unfolding all_breaks
    row-whole l pos near =
        each-of-up_from (λ l. All (λ y. is_broken p y ≡ false) (breaks_in p l)) 1 (multiple_of p + 999)
        (each-of-flat (λ y. is_broken p y ≡ false) (breaks_in p) (up_from 1 (multiple_of p + 999)) each-whole) l pos (omega arith)

    -- a blocking that some string can cause is looked at
    longest-most : (l b q : ℕ) → CanBlock p l b q → b ≤ longest_block p l
    unfolding longest_block
    longest-most l b q can =
        let places = can.low in
        let top = all-at (λ s. blocker_hold p l s ≤ largest (blocker_hold p l) (strings_of p)) (strings_of p) no_string
        (largest-ge (blocker_hold p l) (strings_of p)) (q - 1) (omega (arith, can.high)) in
        omega (arith, can.within, can.less, blocker_hold-early p l (string_at p q) can.far)

    whole-at : (l b q : ℕ) → l < 1000 + multiple_of p → SharpBreak p l b q → is_broken p (break_at l b q) ≡ false
    whole-at l b q near broken =
        elim (dec_le 1 b) [
          | yes least ↦
              let can = broken.can least in
              let most = longest-most l b q can in
              let rows = each-of-flat (λ y. is_broken p y ≡ false) (blocked_breaks p l) (up_from 1 (longest_block p l))
              (row-whole l broken.pos near).1 in
              let row = each-of-up_from (λ b. All (λ y. is_broken p y ≡ false) (blocked_breaks p l b)) 1 (longest_block p l) rows b least
              (omega arith) in
              each-of-up_from (λ q. is_broken p (break_at l b q) ≡ false) 1 (length (strings_of p))
              (each-of-mapped (λ y. is_broken p y ≡ false) (break_at l b) (up_from 1 (length (strings_of p))) row) q can.low
              (omega (arith, can.high))
          | no nothing ↦
              let unblocked : b ≡ 0 = omega arith in
              let nobody : q ≡ 0 = broken.nobody unblocked in
              rw (unblocked, nobody) (row-whole l broken.pos near).0
        ]

    pub none-sharp : LawfulPlan p → SharplyPasses p
    none-sharp ok =
        sharp-of-none p ok
        (λ l b q near broken. true-not-false (sym (broken-of (break_at l b q) broken) ∙ whole-at l b q near broken))

  -- and the other way round
  pub sharp-none : LawfulPlan p → SharplyPasses p → sharp_break p ≡ none
  sharp-none ok sharp = go (sharp_break p) refl
    where
      go : (o : Option Break) → sharp_break p ≡ o → sharp_break p ≡ none
      go none e = e
      go (some y) e = absurd (none-of-sharp p ok sharp y.l y.b y.q (break-names y e))

-- ---- With free moving

module _ (p : Plan) (ok : LawfulPlan p) (y : Break) (is : free_break p ≡ some y) where
  pub free-near : y.l < 1000 + multiple_of p
  free-near = omega (arith, break-near (freely p) y is, freely-multiple p)

  pub free-blocking : y.b ≤ 1000
  free-blocking = break-blocking (freely p) y is (freely-lawful p ok)
