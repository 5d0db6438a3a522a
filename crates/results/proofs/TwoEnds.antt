-- Lemmas 1 and 3 of the source, over our rule. With everybody permitted a blocking of b days leaves everybody b days less in which jobs
-- count, so that windows alone decide; with nobody permitted every job counts in the whole interval, so that the longest blocking decides.
-- Either is a set that the search looks at: so it is never worse.
use Rattle.base.proofs.Prelude.{ℕ, zero, suc, ◌+◌, ◌-◌, ◌*◌, ◌/◌, ◌%◌, ◌^◌, ◌≤◌, ◌<◌, min, zero-le, ◌≡◌, refl, ap, ◌∙◌, ◌⊎◌, inl, inr, ◌↔◌, List, [], ◌∷◌, arith, dec_le, length, length-take, mul-le-mul, pow-suc, not-suc-le-zero, zero-mul, le-ltb}
use Rattle.std.specs.Prelude.{Some}
use lib.Count.{ones}
use lib.Pow.{pow_pos}
use Rattle.rules.specs.declared.BatteryString.{BatteryString}
use Rattle.rules.specs.declared.Plan.{Plan}
use Rattle.rules.specs.Plan.{strings_of, leeway, leeway_min, d_max}
use Rattle.rules.specs.Demand.{moving_cost, jobs, blocker_hold, block_limit, need, demand, Passes}
use Rattle.rules.specs.Search.{permit, with_set, search_of}
use Rattle.base.specs.Count.{All, sum_of, largest, smallest, smallest_with}
use Rattle.base.proofs.{Lists.{all_map, sum_of-eq, largest-ge, largest-le, smallest-above}, Order.{all_of, sum_of-zero}}
use Rattle.laws.proofs.{Jobs.{jobs-first, jobs-zero}, Lawful.{LawfulString, LawfulPlan}, Demand.{hold_of-taker, hold_of-other, need-taker, need-keeper, block_limit-late, block_limit-interval, block_limit-between}}
use Rattle.demand.proofs.{Counts.{early-no-jobs, demand-no-jobs}, Sets.{permitted, permit-sum_of, with_set-strings, with_set-lawful}, Search.{set_passes-exactly, search-passes, search-of-best}}
use Rattle.results.specs.TwoEnds.{everybody, taker_need, EverybodyRule, keeper_need, kept_days, NobodyRule}
use Rattle.results.proofs.Found.{passing-found}

-- ---- Everybody may take the bank

taker-asks : (p : Plan) (l b : ℕ) (s : BatteryString) → s.x ≡ 1 → need p l b s ≡ taker_need p (l - b) s
unfolding taker_need
taker-asks p l b s e = need-taker p l b s e ∙ ap (λ hold. jobs s (l - b) * hold) (hold_of-taker p s e)

taker-idle : (p : Plan) (s : BatteryString) → LawfulString s → taker_need p 0 s ≡ 0
unfolding taker_need
taker-idle p s ok = ap (λ k. k * (s.c.0 + moving_cost p s)) (jobs-zero s ok.j_max) ∙ zero-mul (s.c.0 + moving_cost p s)

module _ (p : Plan) (each : All LawfulString (strings_of p)) (all : All (λ s. s.x ≡ 1) (strings_of p)) where
  -- a blocking only shortens the window in which jobs count
  demand-taking : (l b : ℕ) → demand p l b ≡ b + sum_of (taker_need p (l - b)) (strings_of p)
  unfolding demand
  demand-taking l b =
      ap (λ sum. b + sum) (sum_of-eq (need p l b) (taker_need p (l - b)) (strings_of p)
      (all_map (λ s. s.x ≡ 1) (λ s. need p l b s ≡ taker_need p (l - b) s) (taker-asks p l b) (strings_of p) all))

  -- in no days nothing is asked
  within : EverybodyRule p → (w : ℕ) → sum_of (taker_need p w) (strings_of p) ≤ w
  within rule zero =
      omega (
        arith,
        sum_of-zero (taker_need p 0) (strings_of p)
            (all_map LawfulString (λ s. taker_need p 0 s ≡ 0) (taker-idle p) (strings_of p) each),
      )
  within rule (suc w) = rule (suc w) (omega arith)

  pub taking-exactly : Passes p ↔ EverybodyRule p
  taking-exactly = (
    λ rule w pos.
        let all-days : w - 0 ≡ w = omega arith in
        let asked = demand-taking w 0 ∙ ap (λ d. 0 + sum_of (taker_need p d) (strings_of p)) all-days in
        omega (arith, rule w 0 pos zero-le),
    λ rule l b pos under. omega (arith, block_limit-interval p l, demand-taking l b, within rule (l - b)),
  )

-- ---- Nobody may take the bank

keeper-asks : (p : Plan) (l b : ℕ) (s : BatteryString) → s.x ≡ 0 → need p l b s ≡ keeper_need l s
unfolding keeper_need
keeper-asks p l b s e = need-keeper p l b s (λ f. omega arith)

-- nobody who blocks has moved
blocks-kept : (p : Plan) (l : ℕ) (ss : List BatteryString) → All (λ s. s.x ≡ 0) ss
    → largest (blocker_hold p l) ss ≡ largest (kept_days l) ss
unfolding largest blocker_hold kept_days
blocks-kept p l [] h = refl
blocks-kept p l (s ∷ ss) h = rw (hold_of-other p s h.0, blocks-kept p l ss h.1)

-- who is due by then keeps nothing
none_kept : (l : ℕ) (s : BatteryString) → s.d.0 ≤ l → kept_days l s ≤ 0
unfolding kept_days
none_kept l s h = rw (le-ltb l s.d.0 h) zero-le

-- a string that asks for nothing has no job in these days
keeper-idle : (l : ℕ) (s : BatteryString) → LawfulString s → keeper_need l s ≡ 0 → l < leeway s
unfolding keeper_need
keeper-idle l s ok nothing =
    elim (dec_le s.d.0 (l + s.j.0)) [
      | yes long ↦
          let some : 1 * 1 ≤ jobs s l * s.c.0 = mul-le-mul (jobs-first s l long) ok.c_pos in
          absurd (omega arith)
      | no short ↦ omega arith
    ]

all-idle : (l : ℕ) (ss : List BatteryString) → All LawfulString ss → sum_of (keeper_need l) ss ≡ 0 → All (λ s. l < leeway s) ss
unfolding sum_of
all-idle l [] ok nothing = tt
all-idle l (s ∷ ss) ok nothing =
    let first : keeper_need l s ≡ 0 = omega arith in
    let rest : sum_of (keeper_need l) ss ≡ 0 = omega arith in
    (keeper-idle l s ok.0 first, all-idle l ss ok.1 rest)

-- from the smallest D − J on some job counts; a plan without strings has no blocker
some-asked : (l : ℕ) (ss : List BatteryString) → All LawfulString ss → smallest leeway ss ≤ l → l < largest (kept_days l) ss
    → 1 ≤ sum_of (keeper_need l) ss
some-asked l [] ok low long = absurd (unfold largest in not-suc-le-zero long)
some-asked l (s ∷ ss) ok low long =
    elim (dec_le 1 (sum_of (keeper_need l) (s ∷ ss))) [
      | yes some ↦ some
      | no none ↦
          let nothing : sum_of (keeper_need l) (s ∷ ss) ≡ 0 = omega arith in
          let above : l < smallest leeway (s ∷ ss) = smallest-above leeway l (s ∷ ss) (omega arith) (all-idle l (s ∷ ss) ok nothing) in
          absurd (omega arith)
    ]

-- the smallest D − J is a day or more, where there is a string
no-days : (ss : List BatteryString) → All LawfulString ss → smallest leeway ss ≤ 0
    → largest (kept_days 0) ss + sum_of (keeper_need 0) ss ≤ 0
no-days [] ok low = unfold largest sum_of in zero-le
no-days (s ∷ ss) ok low =
    let above : 0 < smallest leeway (s ∷ ss) =
    smallest-above leeway 0 (s ∷ ss) (omega arith)
    (all_map LawfulString (λ u. 0 < leeway u) (λ u lawful. omega (arith, lawful.j_max)) (s ∷ ss) ok) in
    absurd (omega arith)

module _ (p : Plan) (each : All LawfulString (strings_of p)) (none : All (λ s. s.x ≡ 0) (strings_of p)) where
  -- every job counts in the whole interval
  demand-keeping : (l b : ℕ) → demand p l b ≡ b + sum_of (keeper_need l) (strings_of p)
  unfolding demand
  demand-keeping l b =
      ap (λ sum. b + sum) (sum_of-eq (need p l b) (keeper_need l) (strings_of p)
      (all_map (λ s. s.x ≡ 0) (λ s. need p l b s ≡ keeper_need l s) (keeper-asks p l b) (strings_of p) none))

  late-kept : (l : ℕ) → d_max p ≤ l → largest (kept_days l) (strings_of p) ≤ 0
  unfolding d_max
  late-kept l late =
      largest-le (kept_days l) 0 (strings_of p)
      (all_map (λ s. s.d.0 ≤ d_max p) (λ s. kept_days l s ≤ 0) (λ s h. none_kept l s (omega arith)) (strings_of p)
      (largest-ge (λ s. s.d.0) (strings_of p)))

  limit-kept : (l : ℕ) → leeway_min p ≤ l → l < d_max p → block_limit p l ≡ min l (largest (kept_days l) (strings_of p))
  limit-kept l low high = block_limit-between p l low high ∙ ap (min l) (blocks-kept p l (strings_of p) none)

  limit-le-kept : (l : ℕ) → leeway_min p ≤ l → block_limit p l ≤ largest (kept_days l) (strings_of p)
  limit-le-kept l low =
      elim (dec_le (d_max p) l) [
        | yes late ↦ omega (arith, block_limit-late p l late)
        | no before ↦ omega (arith, limit-kept l low (omega arith))
      ]

  -- below the smallest D − J the blocking is all that is asked for
  ruled-passes : NobodyRule p → Passes p
  ruled-passes rule l b pos under =
      elim (dec_le (leeway_min p) l) [
        | yes low ↦ omega (arith, demand-keeping l b, limit-le-kept l low, rule l low)
        | no early ↦ omega (arith, demand-no-jobs p each l b (early-no-jobs p l (omega arith)), block_limit-interval p l)
      ]

  -- the longest blocking is allowed, or the interval is shorter, and then some job has no day left
  passes-ruled : Passes p → (l : ℕ) → 1 ≤ l → leeway_min p ≤ l → l < d_max p
      → largest (kept_days l) (strings_of p) + sum_of (keeper_need l) (strings_of p) ≤ l
  unfolding leeway_min
  passes-ruled rule l pos low high =
      elim (dec_le (largest (kept_days l) (strings_of p)) l) [
        | yes short ↦
            let b : ℕ = largest (kept_days l) (strings_of p) in
            omega (arith, demand-keeping l b, rule l b pos (omega (arith, limit-kept l low high)))
        | no long ↦
            let some = some-asked l (strings_of p) each low (omega arith) in
            absurd (omega (arith, demand-keeping l l, rule l l pos (omega (arith, limit-kept l low high))))
      ]

  pub keeping-exactly : Passes p ↔ NobodyRule p
  keeping-exactly = (λ rule l low. from rule l low, ruled-passes)
    where
      from : Passes p → (l : ℕ) → leeway_min p ≤ l → largest (kept_days l) (strings_of p) + sum_of (keeper_need l) (strings_of p) ≤ l
      from rule zero low = unfold leeway_min in no-days (strings_of p) each low
      from rule (suc l) low =
          elim (dec_le (d_max p) (suc l)) [
            | yes late ↦ omega (arith, late-kept (suc l) late, demand-keeping (suc l) 0, rule (suc l) 0 (omega arith) zero-le)
            | no before ↦ passes-ruled rule (suc l) (omega arith) low (omega arith)
          ]

-- ---- Neither rule looks at X

module _ (f : BatteryString → ℕ) (blind : (s : BatteryString) (x : ℕ) → f (permitted s x) ≡ f s) where
  permit-largest : (m : ℕ) (ss : List BatteryString) → largest f (permit m ss) ≡ largest f ss
  unfolding permit largest
  permit-largest m [] = refl
  permit-largest m (s ∷ ss) = rw (blind s (m % 2), permit-largest (m / 2) ss)

  permit-smallest_with : (k m : ℕ) (ss : List BatteryString) → smallest_with f k (permit m ss) ≡ smallest_with f k ss
  unfolding permit smallest_with
  permit-smallest_with k m [] = refl
  permit-smallest_with k m (s ∷ ss) = rw (blind s (m % 2), permit-smallest_with k (m / 2) ss)

  permit-smallest : (m : ℕ) (ss : List BatteryString) → smallest f (permit m ss) ≡ smallest f ss
  unfolding permit smallest
  permit-smallest m [] = refl
  permit-smallest m (s ∷ ss) = rw (blind s (m % 2), permit-smallest_with (f s) (m / 2) ss)

taker_need-blind : (p : Plan) (m w : ℕ) (s : BatteryString) (x : ℕ) → taker_need (with_set p m) w (permitted s x)
    ≡ taker_need (with_set p m) w s
unfolding taker_need moving_cost jobs
taker_need-blind p m w s x = refl

taker_need-any : (p : Plan) (m w : ℕ) (s : BatteryString) → taker_need (with_set p m) w s ≡ taker_need p w s
unfolding taker_need moving_cost
taker_need-any p m w s = refl

keeper_need-blind : (l : ℕ) (s : BatteryString) (x : ℕ) → keeper_need l (permitted s x) ≡ keeper_need l s
unfolding keeper_need jobs
keeper_need-blind l s x = refl

kept_days-blind : (l : ℕ) (s : BatteryString) (x : ℕ) → kept_days l (permitted s x) ≡ kept_days l s
unfolding kept_days
kept_days-blind l s x = refl

module _ (p : Plan) (m : ℕ) where
  taken-same : (w : ℕ) → sum_of (taker_need (with_set p m) w) (strings_of (with_set p m)) ≡ sum_of (taker_need p w) (strings_of p)
  taken-same w =
      ap (sum_of (taker_need (with_set p m) w)) (with_set-strings p m)
      ∙ permit-sum_of (taker_need (with_set p m) w) (taker_need-blind p m w) m (strings_of p)
      ∙ sum_of-eq (taker_need (with_set p m) w) (taker_need p w) (strings_of p)
      (all_of (λ s. taker_need (with_set p m) w s ≡ taker_need p w s) (taker_need-any p m w) (strings_of p))

  everybody-same : EverybodyRule (with_set p m) ↔ EverybodyRule p
  everybody-same = (λ rule w pos. rw (← taken-same w) (rule w pos), λ rule w pos. rw (taken-same w) (rule w pos))

  leeway-same : leeway_min (with_set p m) ≡ leeway_min p
  unfolding leeway_min
  leeway-same = ap (smallest leeway) (with_set-strings p m) ∙ permit-smallest leeway (λ s x. refl) m (strings_of p)

  kept_same : (l : ℕ) → largest (kept_days l) (strings_of (with_set p m)) ≡ largest (kept_days l) (strings_of p)
  kept_same l = ap (largest (kept_days l)) (with_set-strings p m) ∙ permit-largest (kept_days l) (kept_days-blind l) m (strings_of p)

  pub worked_same : (l : ℕ) → sum_of (keeper_need l) (strings_of (with_set p m)) ≡ sum_of (keeper_need l) (strings_of p)
  worked_same l = ap (sum_of (keeper_need l)) (with_set-strings p m) ∙ permit-sum_of (keeper_need l) (keeper_need-blind l) m (strings_of p)

  pub nobody-same : NobodyRule (with_set p m) ↔ NobodyRule p
  nobody-same = (
    λ rule l low. rw (← kept_same l, ← worked_same l) (rule l (rw leeway-same low)),
    λ rule l low. rw (kept_same l, worked_same l) (rule l (rw (← leeway-same) low)),
  )

-- ---- The two sets

permit-everybody : (n : ℕ) (ss : List BatteryString) → length ss ≤ n → All (λ s. s.x ≡ 1) (permit (2 ^ n - 1) ss)
unfolding permit
permit-everybody n [] few = tt
permit-everybody zero (s ∷ ss) few = absurd (not-suc-le-zero few)
permit-everybody (suc n) (s ∷ ss) few =
    let twice = pow-suc 2 n in
    let pos = pow_pos n in
    let odd : (2 ^ suc n - 1) % 2 ≡ 1 = omega arith in
    let half : (2 ^ suc n - 1) / 2 ≡ 2 ^ n - 1 = omega arith in
    (odd, rw half (permit-everybody n ss (omega arith)))

permit-nobody : (ss : List BatteryString) → All (λ s. s.x ≡ 0) (permit 0 ss)
unfolding permit
permit-nobody [] = tt
permit-nobody (s ∷ ss) = (refl, permit-nobody ss)

module _ (p : Plan) (ok : LawfulPlan p) where
  -- with everybody permitted the rule holds exactly if the jobs' E within w days are at most w, for every w
  pub everybody-exactly : Passes (with_set p (everybody p)) ↔ EverybodyRule p
  everybody-exactly =
      let m = everybody p in
      let few : length (strings_of p) ≤ p.n = omega (arith, length-take p.n p.strings) in
      let all : All (λ s. s.x ≡ 1) (strings_of (with_set p m)) = rw (with_set-strings p m) (permit-everybody p.n (strings_of p) few) in
      let exactly = taking-exactly (with_set p m) (with_set-lawful p m ok).each all in (
        λ rule. (everybody-same p m).0 (exactly.0 rule),
        λ rule. exactly.1 ((everybody-same p m).1 rule),
      )

  -- with nobody permitted it is np-EDF's rule
  pub nobody-exactly : Passes (with_set p 0) ↔ NobodyRule p
  nobody-exactly =
      let none : All (λ s. s.x ≡ 0) (strings_of (with_set p 0)) = rw (with_set-strings p 0) (permit-nobody (strings_of p)) in
      let exactly = keeping-exactly (with_set p 0) (with_set-lawful p 0 ok).each none in (
        λ rule. (nobody-same p 0).0 (exactly.0 rule),
        λ rule. exactly.1 ((nobody-same p 0).1 rule),
      )

  -- ---- The search is never worse than either

  -- set 0 is the answer exactly where nobody needs a permission
  pub nobody-found : NobodyRule p ↔ (search_of p ≡ Some 0)
  unfolding ones
  nobody-found = (
    λ rule. search-of-best p 0 (record {
      passes = (set_passes-exactly p ok 0).1 (nobody-exactly.1 rule);
      below = pow_pos p.n;
      fewest = λ k below passes. zero-le;
      smallest = λ k below passes e. zero-le;
    }),
    λ found. nobody-exactly.0 ((set_passes-exactly p ok 0).0 (search-passes p 0 found).0),
  )

  pub never-worse : EverybodyRule p ⊎ NobodyRule p → (m : ℕ) × (search_of p ≡ Some m)
  never-worse (inl rule) =
      let below : everybody p < 2 ^ p.n = omega (arith, pow_pos p.n) in
      let found = passing-found p ok (everybody p) below (everybody-exactly.1 rule) in
      (found.0, found.1)
  never-worse (inr rule) = (0, nobody-found.0 rule)
