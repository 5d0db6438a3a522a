-- Who should have a permission. Where moving is free it hurts nobody: if any set passes, everybody's does. A string whose work and moving
-- do not fit into its D − J cannot have one: no set with it passes. Where no string's do, the search answers 0 or none.
use Rattle.base.proofs.Prelude.{ℕ, ◌+◌, ◌*◌, ◌/◌, ◌≤◌, ◌<◌, zero-le, ◌≡◌, ap, List, [], ◌∷◌, arith, ℕ_discrete, mul-le-mul, le_refl, one-mul}
use Rattle.std.specs.Prelude.{Some}
use native.Mathlib.Nat.{mul-le-mul_left}
use Rattle.rules.specs.declared.BatteryString.{BatteryString}
use Rattle.rules.specs.declared.Plan.{Plan}
use Rattle.rules.specs.Plan.{strings_of, leeway}
use Rattle.rules.specs.Demand.{moving_cost, hold_of, jobs, need, demand, Passes}
use Rattle.rules.specs.Search.{permit, with_set, search_of}
use Rattle.base.specs.Count.{All, sum_of}
use Rattle.base.proofs.{Lists.{all_map, sum_of-le, sum_of-eq}, Order.all_both}
use Rattle.laws.proofs.{Jobs.jobs-first, Lawful.{LawfulString, LawfulPlan}, Demand.{hold_of-work, hold_of-taker, need-unblocked}}
use Rattle.demand.proofs.{Sets.{with_set-strings, with_set-lawful}, Search.{set_passes-exactly, search-passes}}
use Rattle.results.specs.TwoEnds.{taker_need, EverybodyRule, keeper_need, NobodyRule}
use Rattle.results.proofs.TwoEnds.{worked_same, nobody-same, keeping-exactly, nobody-found}

-- ---- Moving is free

-- with no blocking a string asks at least for its work
asks-work : (p : Plan) (w : ℕ) (s : BatteryString) → LawfulString s → keeper_need w s ≤ need p w 0 s
unfolding keeper_need
asks-work p w s ok = omega (arith, need-unblocked p w s ok.x_max, mul-le-mul_left (jobs s w) (hold_of-work p s))

free-asks : (p : Plan) (w : ℕ) (s : BatteryString) → moving_cost p s ≡ 0 → taker_need p w s ≡ keeper_need w s
unfolding taker_need keeper_need
free-asks p w s free =
    let work : s.c.0 + moving_cost p s ≡ s.c.0 = omega arith in
    ap (λ hold. jobs s w * hold) work

pub free-everybody : (p : Plan) → LawfulPlan p → All (λ s. moving_cost p s ≡ 0) (strings_of p) → (m : ℕ) → Passes (with_set p m)
    → EverybodyRule p
unfolding demand
free-everybody p ok free m rule w pos =
    let q = with_set p m in
    let least = sum_of-le (keeper_need w) (need q w 0) (strings_of q)
    (all_map LawfulString (λ s. keeper_need w s ≤ need q w 0 s) (asks-work q w) (strings_of q) (with_set-lawful p m ok).each) in
    let same = sum_of-eq (taker_need p w) (keeper_need w) (strings_of p)
    (all_map (λ s. moving_cost p s ≡ 0) (λ s. taker_need p w s ≡ keeper_need w s) (free-asks p w) (strings_of p) free) in
    omega (arith, worked_same p m w, rule w 0 pos zero-le)

-- ---- Moving is dear

each_within : (f : ℕ → BatteryString → ℕ) (ss : List BatteryString) → All (λ s. (l : ℕ) → f l s ≤ sum_of (f l) ss) ss
unfolding sum_of
each_within f [] = tt
each_within f (s ∷ ss) = (
  λ l. omega arith,
  all_map (λ u. (l : ℕ) → f l u ≤ sum_of (f l) ss) (λ u. (l : ℕ) → f l u ≤ f l s + sum_of (f l) ss) (λ u h l. omega (arith, h l)) ss
      (each_within f ss),
)

-- a job that takes the bank on its release day, and comes as late as it may, has D − J days for its moving and its work
pub taker-fits : (p : Plan) → All LawfulString (strings_of p) → Passes p
    → All (λ s. s.x ≡ 1 → s.c.0 + moving_cost p s ≤ leeway s) (strings_of p)
taker-fits p each rule =
    all_both LawfulString (λ s. (l : ℕ) → need p l 0 s ≤ sum_of (need p l 0) (strings_of p))
    (λ s. s.x ≡ 1 → s.c.0 + moving_cost p s ≤ leeway s) fits (strings_of p) each (each_within (λ l. need p l 0) (strings_of p))
  where
    fits : (s : BatteryString) → LawfulString s → ((l : ℕ) → need p l 0 s ≤ sum_of (need p l 0) (strings_of p)) → s.x ≡ 1
        → s.c.0 + moving_cost p s ≤ leeway s
    fits s ok part e = unfold demand in
        let j_max = ok.j_max in
        let first : 1 ≤ jobs s (leeway s) = jobs-first s (leeway s) (omega arith) in
        let once = mul-le-mul first (le_refl (hold_of p s)) in
        omega (
          arith,
          one-mul (hold_of p s),
          hold_of-taker p s e,
          need-unblocked p (leeway s) s ok.x_max,
          part (leeway s),
          rule (leeway s) 0 (omega arith) zero-le,
        )

abbrev Dear : Plan → BatteryString → Type 0
Dear p s = leeway s < s.c.0 + moving_cost p s

-- it does not depend on permissions
permit-dear : (p : Plan) (m k : ℕ) (ss : List BatteryString) → All (Dear p) ss → All (Dear (with_set p m)) (permit k ss)
unfolding permit moving_cost
permit-dear p m k [] h = tt
permit-dear p m k (s ∷ ss) h = (h.0, permit-dear p m (k / 2) ss h.1)

module _ (p : Plan) (ok : LawfulPlan p) (dear : All (λ s. leeway s < s.c.0 + moving_cost p s) (strings_of p)) where
  -- whatever set passes lets nobody take the bank
  pub dear-nobody : (m : ℕ) → Passes (with_set p m) → NobodyRule p
  dear-nobody m rule =
      let q = with_set p m in
      let each = (with_set-lawful p m ok).each in
      let costly : All (Dear q) (strings_of q) = rw (with_set-strings p m) (permit-dear p m m (strings_of p) dear) in
      let fits : All (λ s. LawfulString s × (s.x ≡ 1 → s.c.0 + moving_cost q s ≤ leeway s)) (strings_of q) =
      all_both LawfulString (λ s. s.x ≡ 1 → s.c.0 + moving_cost q s ≤ leeway s)
      (λ s. LawfulString s × (s.x ≡ 1 → s.c.0 + moving_cost q s ≤ leeway s)) (λ s a b. (a, b)) (strings_of q) each
      (taker-fits q each rule) in
      let none : All (λ s. s.x ≡ 0) (strings_of q) =
      all_both (Dear q) (λ s. LawfulString s × (s.x ≡ 1 → s.c.0 + moving_cost q s ≤ leeway s)) (λ s. s.x ≡ 0) (keeps q)
      (strings_of q) costly fits in
      (nobody-same p m).0 ((keeping-exactly q each none).0 rule)
    where
      keeps : (q : Plan) (s : BatteryString) → Dear q s → LawfulString s × (s.x ≡ 1 → s.c.0 + moving_cost q s ≤ leeway s) → s.x ≡ 0
      keeps q s over h =
          elim (ℕ_discrete s.x 1) [
            | yes e ↦ absurd (omega (arith, h.1 e))
            | no e ↦ omega (arith, h.0.x_max)
          ]

  -- so the search answers 0, or none
  pub dear-search : (m : ℕ) → search_of p ≡ Some m → search_of p ≡ Some 0
  dear-search m found = (nobody-found p ok).0 (dear-nobody m ((set_passes-exactly p ok m).0 (search-passes p m found).0))
