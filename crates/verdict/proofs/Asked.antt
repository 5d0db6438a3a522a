-- Laws of what the strings with one permission ask: the demand is the sum of two such parts, and each fits the code's word.
use Rattle.base.proofs.Prelude.{ℕ, ◌+◌, ◌-◌, ◌*◌, ◌≤◌, ◌≡◌, ap, ◌∙◌, List, [], ◌∷◌, arith, dec_le, ℕ_discrete, mul-le-mul, le_refl, zero-mul, eq-eqb, ne_eqb, length, length-take}
use native.Mathlib.Nat.{mul-suc, div-le_self}
use Rattle.rules.specs.{declared.BatteryString.BatteryString, declared.Plan.Plan, Plan.strings_of, Demand.{hold_of, jobs, need, demand}}
use Rattle.base.specs.Count.{sum_of}
use Rattle.base.proofs.{Lists.{All, all_map, sum_of-le, sum_of-eq, sum_of-add}, Order.sum_of-zero}
use Rattle.laws.proofs.{Jobs.{jobs-short, jobs-from, jobs-zero, jobs-mono}, Lawful.{LawfulString, LawfulPlan, PlanString, plan-strings}, Demand.{hold_of-le, hold_of-other, need-taker, need-keeper}}
use Rattle.verdict.specs.inner.Asked.{asked_of, asked_by}

-- ---- Bounds

pub jobs-le : (s : BatteryString) (w : ℕ) → LawfulString s → jobs s w ≤ w
jobs-le s w ok =
    elim (dec_le s.d.0 (w + s.j.0)) [
      | yes long ↦
          let late = ok.j_max in
          omega (arith, jobs-from s w long, div-le_self (w + s.j.0 - s.d.0) s.t.0)
      | no short ↦ omega (arith, jobs-short s w (omega arith))
    ]

-- ---- One string

pub asked_of-yes : (p : Plan) (x w : ℕ) (s : BatteryString) → s.x ≡ x → asked_of p x w s ≡ jobs s w * hold_of p s
unfolding asked_of
asked_of-yes p x w s e = rw (eq-eqb s.x x e)

pub asked_of-no : (p : Plan) (x w : ℕ) (s : BatteryString) → (s.x ≡ x → ⊥) → asked_of p x w s ≡ 0
unfolding asked_of
asked_of-no p x w s e = rw (ne_eqb s.x x e)

pub work-le : (p : Plan) (w : ℕ) (s : BatteryString) → PlanString p s → w ≤ 101000 → jobs s w * hold_of p s ≤ 202000000
work-le p w s ok k =
    let few : jobs s w ≤ 101000 = omega (arith, jobs-le s w ok.lawful) in
    omega (arith, mul-le-mul few (hold_of-le p s ok))

pub asked_of-le : (p : Plan) (x w : ℕ) (s : BatteryString) → PlanString p s → w ≤ 101000 → asked_of p x w s ≤ 202000000
asked_of-le p x w s ok k =
    elim (ℕ_discrete s.x x) [
      | yes e ↦ omega (arith, asked_of-yes p x w s e, work-le p w s ok k)
      | no e ↦ omega (arith, asked_of-no p x w s e)
    ]

-- a string asks by one of the two permissions
need-parts : (p : Plan) (l b : ℕ) (s : BatteryString) → s.x ≤ 1 → need p l b s ≡ asked_of p 0 l s + asked_of p 1 (l - b) s
need-parts p l b s h =
    elim (ℕ_discrete s.x 1) [
      | yes e ↦
          let other : s.x ≡ 0 → ⊥ = λ z. omega arith in
          omega (arith, need-taker p l b s e, asked_of-yes p 1 (l - b) s e, asked_of-no p 0 l s other)
      | no e ↦
          let kept : s.x ≡ 0 = omega arith in
          let work : jobs s l * hold_of p s ≡ jobs s l * s.c.0 = ap (λ c. jobs s l * c) (hold_of-other p s kept) in
          omega (arith, need-keeper p l b s e, asked_of-yes p 0 l s kept, asked_of-no p 1 (l - b) s e)
    ]

-- ---- All strings

pub demand-parts : (p : Plan) (l b : ℕ) → LawfulPlan p → demand p l b ≡ b + asked_by p 0 l + asked_by p 1 (l - b)
unfolding demand asked_by
demand-parts p l b ok =
    omega (
      arith,
      sum_of-eq (need p l b) (λ s. asked_of p 0 l s + asked_of p 1 (l - b) s) (strings_of p)
          (all_map LawfulString (λ s. need p l b s ≡ asked_of p 0 l s + asked_of p 1 (l - b) s) (λ s lawful.
          need-parts p l b s lawful.x_max) (strings_of p) ok.each),
      sum_of-add (asked_of p 0 l) (asked_of p 1 (l - b)) (strings_of p),
    )

-- a sum of at most ten parts
sum_of-most : (f : BatteryString → ℕ) (m : ℕ) (ss : List BatteryString) → All (λ s. f s ≤ m) ss → sum_of f ss ≤ m * length ss
unfolding sum_of
sum_of-most f m [] h = omega arith
sum_of-most f m (s ∷ ss) h =
    let rest = sum_of-most f m ss h.1 in
    let here = h.0 in
    omega (arith, mul-suc m (length ss))

pub asked_by-le : (p : Plan) (x w : ℕ) → LawfulPlan p → w ≤ 101000 → asked_by p x w ≤ 2020000000
unfolding asked_by
asked_by-le p x w ok k =
    let most = sum_of-most (asked_of p x w) 202000000 (strings_of p)
    (all_map (PlanString p) (λ s. asked_of p x w s ≤ 202000000) (λ s one. asked_of-le p x w s one k) (strings_of p) (plan-strings p ok)) in
    let few = ok.n_max in
    omega (arith, most, length-take p.n p.strings)

-- more days never ask for less
pub asked_by-mono : (p : Plan) (x v w : ℕ) → LawfulPlan p → v ≤ w → asked_by p x v ≤ asked_by p x w
unfolding asked_by
asked_by-mono p x v w ok h =
    sum_of-le (asked_of p x v) (asked_of p x w) (strings_of p)
    (all_map LawfulString (λ s. asked_of p x v s ≤ asked_of p x w s) (λ s lawful. more s lawful) (strings_of p) ok.each)
  where
    more : (s : BatteryString) → LawfulString s → asked_of p x v s ≤ asked_of p x w s
    more s lawful =
        elim (ℕ_discrete s.x x) [
          | yes e ↦
              let jobs-more : jobs s v * hold_of p s ≤ jobs s w * hold_of p s =
              mul-le-mul (jobs-mono s v w lawful.t_pos h) (le_refl (hold_of p s)) in
              omega (arith, asked_of-yes p x v s e, asked_of-yes p x w s e)
          | no e ↦ omega (arith, asked_of-no p x v s e, asked_of-no p x w s e)
        ]

-- no job fits no day
pub asked_by-none : (p : Plan) (x : ℕ) → LawfulPlan p → asked_by p x 0 ≡ 0
unfolding asked_by
asked_by-none p x ok =
    sum_of-zero (asked_of p x 0) (strings_of p)
    (all_map LawfulString (λ s. asked_of p x 0 s ≡ 0) (λ s lawful. none s lawful) (strings_of p) ok.each)
  where
    none : (s : BatteryString) → LawfulString s → asked_of p x 0 s ≡ 0
    none s lawful =
        elim (ℕ_discrete s.x x) [
          | yes e ↦ asked_of-yes p x 0 s e ∙ ap (λ k. k * hold_of p s) (jobs-zero s lawful.j_max) ∙ zero-mul (hold_of p s)
          | no e ↦ asked_of-no p x 0 s e
        ]
