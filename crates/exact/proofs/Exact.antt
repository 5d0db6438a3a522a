-- Where the sharp rule with free moving breaks, a lawful release list misses in the plan as it stands, late days or not. So where moving is
-- free the sharp rule is exact: a plan passes sharply exactly if no lawful release list misses, whatever the length of the run.
use Rattle.base.proofs.Prelude.{ℕ, ◌+◌, ◌-◌, ◌≤◌, ◌<◌, zero-le, ◌≡◌, refl, subst, ap, ◌∙◌, ◌↔◌, false, cond, eqb, arith, dec_le, length, get_or}
use Rattle.rules.specs.{declared.Plan.Plan, declared.Verdict.TheVariants.Overload, Plan.{strings_of, string_at, no_string, multiple_of, with_run}, Demand.{moving_cost, hold_of, need, demand, Passes, overloaded}, Verdict.verdict_of}
use Rattle.base.specs.Count.{sum_of, up_from}
use Rattle.base.proofs.{Lists.{by_bool, all_map, largest-le}, Adding.sum_of-places}
use Rattle.laws.specs.Lawful.{LawfulPlan, LawfulString}
use Rattle.laws.proofs.Lawful.{d_max-le}
use Rattle.demand.proofs.{Verdict.overload-exactly, Range.{overload-at-period, range-suffices-for}}
use Rattle.sound.specs.Sharp.{need_but, demand_but, CanBlock, SharplyPasses}
use Rattle.sound.proofs.{Sharp.{need_but-other, passes-sharply}, Clean.sharply-clean}
use Rattle.exact.specs.Missing.{freely, SharpBreak, most_late, interval_end, blocker_release, releases_in, others_in, missing, MissesBy, NeverMisses, FreeMoving}
use Rattle.exact.proofs.{Freely.{freely-hold, freely-lawful, freely-string, freely-many, freely-multiple, free-same, free-demand}, Asking.lawful-at, Listed.Blocks, Misses.list-misses}

-- nobody blocks: the sharp demand is the demand
pub demand_but-nobody : (p : Plan) (l b : ℕ) → demand_but p l b 0 ≡ demand p l b
unfolding demand_but demand
demand_but-nobody p l b =
    ap (λ n. b + n)
    (sum_of-places (need_but p l b 0) (need p l b) no_string 1 (strings_of p) (λ j h. need_but-other p l b 0 j (λ e. omega arith)))

-- ---- The plan with another length of the run

module _ (p : Plan) (n : ℕ) where
  pub with_run-lawful : LawfulPlan p → 1 ≤ n → n ≤ 1000000 → LawfulPlan (with_run p n)
  unfolding multiple_of
  with_run-lawful ok low high =
      record {
        n_pos = ok.n_pos;
        n_max = ok.n_max;
        run_pos = low;
        run_max = high;
        each = ok.each;
        h_pos = ok.h_pos;
        h_max = ok.h_max;
        h_whole = ok.h_whole;
        h_least = ok.h_least;
      }

  with_run-sharp : SharplyPasses p → SharplyPasses (with_run p n)
  unfolding demand_but need_but demand need hold_of moving_cost
  with_run-sharp sharp =
      record {
        unblocked = sharp.unblocked;
        blocked = λ l b q can.
            sharp.blocked l b q (record {
              low = can.low;
              high = can.high;
              some = can.some;
              within = can.within;
              far = can.far;
              less = can.less;
            });
      }

  -- neither the list nor its interval depends on it
  with_run-missing : (l b q : ℕ) → missing (with_run p n) l b q ≡ missing p l b q
  unfolding missing others_in blocker_release releases_in most_late
  with_run-missing l b q = refl

  with_run-end : (l b : ℕ) → interval_end (with_run p n) l b ≡ interval_end p l b
  unfolding most_late
  with_run-end l b = refl

  with_run-but : (l b q : ℕ) → demand_but (freely (with_run p n)) l b q ≡ demand_but (freely p) l b q
  unfolding demand_but need_but need hold_of moving_cost
  with_run-but l b q = refl

-- ---- A plan that passes sharply

module _ (p : Plan) (ok : LawfulPlan p) where
  -- never misses
  pub sharply-never : SharplyPasses p → NeverMisses p
  sharply-never sharp n low high rs m =
      let clean = sharply-clean (with_run p n) rs (with_run-lawful p n ok low high) m.listed (with_run-sharp p n sharp) in
      let missed = m.ends in
      let z : ◌≡◌ {A = ℕ} 0 1 = cc in
      omega arith

  pub passes-never : Passes p → NeverMisses p
  passes-never rule = sharply-never (passes-sharply p rule)

-- ---- A break

blocks-by : (p : Plan) (l b q : ℕ) → CanBlock (freely p) l b q → Blocks p b q
blocks-by p l b q can =
    let hold : hold_of (freely p) (string_at (freely p) q) ≡ (string_at p q).c.0 =
    ap (hold_of (freely p)) (freely-string p q) ∙ freely-hold (freely p) (string_at p q) in
    record { low = can.low; high = omega (arith, can.high, freely-many p); long = omega (arith, can.less) }

-- the interval is shorter than some D
pub blocked-short : (p : Plan) (l b q : ℕ) → CanBlock p l b q → LawfulPlan p → l < 1000
blocked-short p l b q can ok =
    let good = lawful-at p q can.low can.high ok in
    omega (arith, can.far, good.d_max, good.t_max)

module _ (p : Plan) (ok : LawfulPlan p) where
  pub most_late-le : most_late p ≤ 999
  unfolding most_late
  most_late-le =
      largest-le (λ s. s.j.0) 999 (strings_of p)
      (all_map LawfulString (λ s. s.j.0 ≤ 999) (λ s good. omega (arith, good.j_max, good.d_max, good.t_max)) (strings_of p) ok.each)

  -- the sharp rule with free moving breaks: the list misses, in the plan as it stands, by the interval's end
  pub sharp-break-misses : (n l b q : ℕ) → n ≤ 1000000 → interval_end p l b ≤ n → SharpBreak (freely p) l b q
      → MissesBy (with_run p n) (missing p l b q) (interval_end p l b)
  sharp-break-misses n l b q most room broken =
      let pos = broken.pos in
      let fits : b ≤ l =
      elim (dec_le 1 b) [ yes some ↦ omega (arith, (broken.can some).within) | no none ↦ omega arith ] in
      let blocks : 1 ≤ b → Blocks (with_run p n) b q =
      λ some.
      let can = blocks-by p l b q (broken.can some) in
      record { low = can.low; high = can.high; long = can.long } in
      let m = list-misses (with_run p n) l b q (with_run-lawful p n ok (omega arith) most) blocks broken.nobody pos fits
      (rw (with_run-end p n l b) room) (rw (with_run-but p n l b q) broken.over) in
      subst (λ rs. MissesBy (with_run p n) rs (interval_end p l b)) (with_run-missing p n l b q)
      (subst (λ e. MissesBy (with_run p n) (missing (with_run p n) l b q) e) (with_run-end p n l b) m)

  -- so it does where the verdict with free moving is an overload, at H with no blocking
  pub overload-misses : (n : ℕ) → n ≤ 1000000 → interval_end p (multiple_of p) 0 ≤ n → verdict_of (freely p) ≡ Overload
      → MissesBy (with_run p n) (missing p (multiple_of p) 0 0) (interval_end p (multiple_of p) 0)
  overload-misses n most room over =
      let h = multiple_of p in
      let breaks = overload-at-period (freely p) (freely-lawful p ok) ((overload-exactly (freely p)).0 over) in
      let at-period : h < demand (freely p) h 0 = rw (freely-multiple p) at breaks in
      sharp-break-misses n h 0 0 most room
      (record {
        pos = ok.h_pos;
        nobody = λ e. refl;
        can = λ some. absurd (omega arith);
        over = omega (arith, demand_but-nobody (freely p) h 0);
      })

-- ---- Where the sharp rule breaks nowhere in reach, it holds

module _ (p : Plan) (ok : LawfulPlan p) where
  module _ (none : (l b q : ℕ) → l < 1000 + multiple_of p → SharpBreak p l b q → ⊥) where
    whole : (l : ℕ) → 1 ≤ l → l < 1000 + multiple_of p → demand p l 0 ≤ l
    whole l pos inside =
        elim (dec_le (demand p l 0) l) [
          | yes h ↦ h
          | no h ↦
              let broken : SharpBreak p l 0 0 =
              record {
                pos = pos;
                nobody = λ e. refl;
                can = λ some. absurd (omega arith);
                over = omega (arith, demand_but-nobody p l 0);
              } in
              absurd (none l 0 0 inside broken)
        ]

    light : overloaded p ≡ false
    light =
        by_bool (overloaded p)
        (λ t. absurd (omega (arith, overload-at-period p ok t, whole (multiple_of p) ok.h_pos (omega arith))))
        (λ e. e)

    unblocked-by : (l : ℕ) → 1 ≤ l → demand p l 0 ≤ l
    unblocked-by l pos =
        let d = d_max-le p ok in
        range-suffices-for p ok (λ k. 0) (λ k late. refl) light
        (λ k b low inside nothing. rw (zero_is b nothing) (whole k low (omega arith))) l 0 pos zero-le
      where
        zero_is : (b : ℕ) → b ≤ 0 → b ≡ 0
        zero_is b h = omega arith

    blocked-by : (l b q : ℕ) → CanBlock p l b q → demand_but p l b q ≤ l
    blocked-by l b q can =
        elim (dec_le (demand_but p l b q) l) [
          | yes h ↦ h
          | no h ↦
              let some = can.some in
              let broken : SharpBreak p l b q =
              record {
                pos = omega (arith, can.within);
                nobody = λ e. absurd (omega arith);
                can = λ pos. can;
                over = omega arith;
              } in
              absurd (none l b q (omega (arith, blocked-short p l b q can ok)) broken)
        ]

    pub sharp-of-none : SharplyPasses p
    sharp-of-none = record { unblocked = unblocked-by; blocked = blocked-by }

  -- and the other way round
  pub none-of-sharp : SharplyPasses p → (l b q : ℕ) → SharpBreak p l b q → ⊥
  none-of-sharp sharp l b q broken =
      elim (dec_le 1 b) [
        | yes some ↦ omega (arith, broken.over, sharp.blocked l b q (broken.can some))
        | no none ↦
            let zero_is : b ≡ 0 = omega arith in
            let nobody : q ≡ 0 = broken.nobody zero_is in
            let over : l < demand_but p l 0 0 = rw (zero_is, nobody) at broken.over in
            omega (arith, demand_but-nobody p l 0, sharp.unblocked l broken.pos)
      ]

module _ (p : Plan) (ok : LawfulPlan p) where
  -- if no lawful release list misses, the sharp rule holds with free moving
  pub never-sharp : NeverMisses p → SharplyPasses (freely p)
  never-sharp never =
      sharp-of-none (freely p) (freely-lawful p ok)
      (λ l b q inside broken.
      let n : ℕ = interval_end p l b in
      let most : interval_end p l b ≤ 1000000 = omega (arith, most_late-le p ok, freely-multiple p, ok.h_max) in
      let room : interval_end p l b ≤ interval_end p l b = omega arith in
      never n (omega (arith, broken.pos)) most (missing p l b q) (sharp-break-misses p ok n l b q most room broken))

-- ---- Where moving is free already

module _ (p : Plan) (free : FreeMoving p) where
  free-but-same : (l b q : ℕ) → demand_but (freely p) l b q ≡ demand_but p l b q
  unfolding demand_but need_but need hold_of moving_cost
  free-but-same l b q =
      ap (λ ss. b + sum_of (λ i. cond (eqb i q) 0 (need p l b (get_or ss (i - 1) no_string))) (up_from 1 (length ss))) (free-same p free)

  pub free-can : (l b q : ℕ) → CanBlock p l b q → CanBlock (freely p) l b q
  unfolding hold_of moving_cost
  free-can l b q can =
      let string : string_at (freely p) q ≡ string_at p q = ap (λ ss. get_or ss (q - 1) no_string) (free-same p free) in
      record {
        low = can.low;
        high = omega (arith, can.high, freely-many p);
        some = can.some;
        within = can.within;
        far = rw string can.far;
        less = rw string can.less;
      }

  pub free-sharp : SharplyPasses (freely p) → SharplyPasses p
  free-sharp sharp =
      record {
        unblocked = λ l pos. omega (arith, sharp.unblocked l pos, free-demand p free l 0);
        blocked = λ l b q can. omega (arith, sharp.blocked l b q (free-can l b q can), free-but-same l b q);
      }

  -- the sharp rule is exact
  pub sharp-exact : LawfulPlan p → SharplyPasses p ↔ NeverMisses p
  sharp-exact ok = (sharply-never p ok, λ never. free-sharp (never-sharp p ok never))
