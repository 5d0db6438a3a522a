-- Where no string has late days the sharp rule is the rule: a string that blocks is due beyond the interval, so it counts no job there. So
-- what is said of the sharp rule is said of the rule.
use Rattle.base.proofs.Prelude.{ℕ, suc, ◌+◌, ◌-◌, ◌*◌, ◌≤◌, ◌<◌, ◌≡◌, refl, sym, ap, ◌∙◌, ◌↔◌, ◌&&◌, arith, dec_le, ℕ_discrete, zero-mul, leb, ltb}
use Rattle.days.specs.declared.Length.{Length}
use Rattle.rules.specs.{declared.Plan.Plan, declared.Verdict.TheVariants.Fail, Plan.{strings_of, string_at, no_string, leeway_min, d_max, with_run}, Demand.{hold_of, jobs, blocker_hold, block_limit, need, demand, Passes}, Verdict.verdict_of}
use Rattle.base.specs.Count.{largest}
use Rattle.base.proofs.{Lists.{by_bool, all-at, all_map, largest-some, largest-le}, Order.all-mapped, Adding.sum_of-places}
use Rattle.laws.specs.Lawful.{OnTime}
use Rattle.laws.proofs.{Lawful.LawfulPlan, Jobs.jobs-short, ReleaseList.{str, string_at-suc}, Demand.{block_limit-interval, blocker_hold-early, blocker_hold-late, need-taker, need-keeper}}
use Rattle.demand.proofs.Verdict.{fail-names}
use Rattle.sound.specs.Sharp.{need_but, demand_but, CanBlock, SharplyPasses}
use Rattle.sound.proofs.Sharp.{need_but-own, need_but-other, passes-sharply}
use Rattle.exact.specs.Missing.{moved_freely, freely, SharpBreak, most_late, missing, MissesBy, NeverMisses, FreeMoving}
use Rattle.exact.proofs.{Freely.freely-strings, Exact.{demand_but-nobody, sharp-break-misses, never-sharp, sharp-exact}}

-- ---- Who blocks

-- a limit above 0 is a blocker's
limit-largest : (p : Plan) (l b : ℕ) → 1 ≤ b → b ≤ block_limit p l → b ≤ largest (blocker_hold p l) (strings_of p)
unfolding block_limit
limit-largest p l b pos h =
    by_bool (leb (leeway_min p) l && ltb l (d_max p))
    (λ t. let limit = rw t at h in omega arith)
    (λ e. let limit = rw e at h in absurd (omega arith))

-- where the limit allows b, some string can block for b days
pub some-string-blocks : (p : Plan) (l b : ℕ) → 1 ≤ b → b ≤ block_limit p l → (q : ℕ) × CanBlock p l b q
some-string-blocks p l b pos allowed =
    let found = largest-some (blocker_hold p l) (b - 1) (strings_of p) no_string (omega (arith, limit-largest p l b pos allowed)) in
    let j : ℕ = found.0 in
    let hold : b - 1 < blocker_hold p l (str p j) = found.2 in
    let string = string_at-suc p j in
    elim (dec_le (str p j).d.0 l) [
      | yes late ↦ absurd (omega (arith, blocker_hold-late p l (str p j) late))
      | no early ↦
          let held = blocker_hold-early p l (str p j) (omega arith) in
          let far : l < (string_at p (suc j)).d.0 = rw string (omega arith) in
          let less : b < hold_of p (string_at p (suc j)) = rw string (omega arith) in (
            suc j,
            record {
              low = omega arith;
              high = omega (arith, found.1);
              some = pos;
              within = omega (arith, block_limit-interval p l);
              far = far;
              less = less;
            },
          )
    ]

-- ---- The sharp rule is the rule

module _ (p : Plan) (on-time : OnTime p) where
  -- the one that blocks counts no job
  blocker-asks : (l b q : ℕ) → CanBlock p l b q → (j : ℕ) → suc j ≡ q → need p l b (str p j) ≡ 0
  blocker-asks l b q can j same =
      let s = str p j in
      let string : string_at p q ≡ s = ap (string_at p) (sym same) ∙ string_at-suc p j in
      let far : l < s.d.0 = rw string at can.far in
      let prompt : s.j.0 ≡ 0 = all-at (λ s. s.j.0 ≡ 0) (strings_of p) no_string on-time j (omega (arith, can.high)) in
      let none : (w : ℕ) → w ≤ l → jobs s w ≡ 0 = λ w fits. jobs-short s w (omega arith) in
      elim (ℕ_discrete s.x 1) [
        | yes x ↦ need-taker p l b s x ∙ ap (λ k. k * hold_of p s) (none (l - b) (omega arith)) ∙ zero-mul (hold_of p s)
        | no x ↦ need-keeper p l b s x ∙ ap (λ k. k * s.c.0) (none l (omega arith)) ∙ zero-mul s.c.0
      ]

  demand_but-all : (l b q : ℕ) → CanBlock p l b q → demand_but p l b q ≡ demand p l b
  unfolding demand_but demand
  demand_but-all l b q can =
      ap (λ n. b + n) (sum_of-places (need_but p l b q) (need p l b) no_string 1 (strings_of p) (λ j h. each j))
    where
      each : (j : ℕ) → need_but p l b q (1 + j) ≡ need p l b (str p j)
      each j =
          elim (ℕ_discrete (suc j) q) [
            | yes same ↦ need_but-own p l b q j same ∙ sym (blocker-asks l b q can j same)
            | no other ↦ need_but-other p l b q j other
          ]

  rule-of-sharp : SharplyPasses p → Passes p
  rule-of-sharp sharp l b pos allowed =
      elim (dec_le 1 b) [
        | yes some ↦
            let blocks = some-string-blocks p l b some allowed in
            omega (arith, sharp.blocked l b blocks.0 blocks.1, demand_but-all l b blocks.0 blocks.1)
        | no none ↦
            let nothing : b ≡ 0 = omega arith in
            rw nothing (sharp.unblocked l pos)
      ]

  pub sharp-is-rule : SharplyPasses p ↔ Passes p
  sharp-is-rule = (rule-of-sharp, passes-sharply p)

freely-on-time : (p : Plan) → OnTime p → OnTime (freely p)
freely-on-time p on-time = rw (freely-strings p) (all-mapped (λ s. s.j.0 ≡ 0) moved_freely (strings_of p) on-time)

-- ---- So what is said of the sharp rule is said of the rule

module _ (p : Plan) (ok : LawfulPlan p) (on-time : OnTime p) where
  none-late : most_late p ≡ 0
  unfolding most_late
  none-late =
      let most : largest (λ s. s.j.0) (strings_of p) ≤ 0 =
      largest-le (λ s. s.j.0) 0 (strings_of p)
      (all_map (λ s. s.j.0 ≡ 0) (λ s. s.j.0 ≤ 0) (λ s e. omega arith) (strings_of p) on-time) in
      omega arith

  -- the rule with free moving breaks at (l, b): the sharp rule breaks there too, whichever string blocks
  pub break-by-any : (l b q : ℕ) → 1 ≤ l → (b ≡ 0 → q ≡ 0) → (1 ≤ b → CanBlock (freely p) l b q) → l < demand (freely p) l b
      → SharpBreak (freely p) l b q
  break-by-any l b q pos nobody can breaks =
      record {
        pos = pos;
        nobody = nobody;
        can = can;
        over =
            elim (dec_le 1 b) [
              | yes some ↦ omega (arith, demand_but-all (freely p) (freely-on-time p on-time) l b q (can some))
              | no none ↦
                  let nothing : q ≡ 0 = nobody (omega arith) in
                  rw nothing (omega (arith, demand_but-nobody (freely p) l b))
            ];
      }

  -- so the list there misses by day l + 1, in the plan as it stands
  pub break-misses-any : (n l b q : ℕ) → n ≤ 1000000 → l + 1 ≤ n → 1 ≤ l → (b ≡ 0 → q ≡ 0) → (1 ≤ b → CanBlock (freely p) l b q)
      → l < demand (freely p) l b → MissesBy (with_run p n) (missing p l b q) (l + 1)
  break-misses-any n l b q most room pos nobody can breaks =
      let late = none-late in
      let m = sharp-break-misses p ok n l b q most (omega arith) (break-by-any l b q pos nobody can breaks) in
      record { listed = m.listed; t = m.t; place = m.place; soon = omega (arith, m.soon); ends = m.ends }

  -- and where the limit allows b, some string can block
  pub break-misses : (n l b : ℕ) → n ≤ 1000000 → l + 1 ≤ n → 1 ≤ l → b ≤ block_limit (freely p) l → l < demand (freely p) l b
      → (q : ℕ) × MissesBy (with_run p n) (missing p l b q) (l + 1)
  break-misses n l b most room pos allowed breaks =
      elim (dec_le 1 b) [
        | yes some ↦
            let blocks = some-string-blocks (freely p) l b some allowed in
            (blocks.0, break-misses-any n l b blocks.0 most room pos (λ e. absurd (omega arith)) (λ h. blocks.1) breaks)
        | no none ↦ (0, break-misses-any n l b 0 most room pos (λ e. refl) (λ h. absurd (omega arith)) breaks)
      ]

  -- so it does where the verdict with free moving is a fail, at the pair that the fail names
  pub fail-misses : (l b d : Length) (k n : ℕ) → n ≤ 1000000 → l.0 + 1 ≤ n → verdict_of (freely p) ≡ Fail l b d k
      → (q : ℕ) × MissesBy (with_run p n) (missing p l.0 b.0 q) (l.0 + 1)
  fail-misses l b d k n most room fails =
      let first = (fail-names (freely p) l b d k fails).0 in
      break-misses n l.0 b.0 most room first.pos first.allowed first.breaks

  -- if no lawful release list misses, the rule holds with free moving
  pub never-rules : NeverMisses p → Passes (freely p)
  never-rules never = (sharp-is-rule (freely p) (freely-on-time p on-time)).0 (never-sharp p ok never)

  -- where moving is free the rule is exact
  pub free-exact : FreeMoving p → Passes p ↔ NeverMisses p
  free-exact free =
      let exact = sharp-exact p free ok in
      let same = sharp-is-rule p on-time in
      (λ rule. exact.0 (same.1 rule), λ never. same.0 (exact.1 never))
