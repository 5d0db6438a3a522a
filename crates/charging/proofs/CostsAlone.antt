-- Two plans that differ in moving costs alone, and in none that a payer of the run pays, run alike: with the costs forgotten their slots
-- are the same on each day.
use Rattle.base.proofs.Prelude.{ℕ, zero, suc, ◌-◌, ◌≡◌, refl, sym, ap, ◌∙◌, subst, ◌≢◌, cond, List, [], ◌∷◌, map, arith, ℕ_discrete, dec_le, ne_eqb, eqb, set, get_or-map}
use Rattle.rules.specs.{declared.BatteryString.BatteryString, declared.Plan.Plan, declared.Release.Release, declared.Slot.Slot, Plan.{strings_of, string_at, no_string}, Release.first_unlawful, Demand.moving_cost, Run.{empty_slot, slot_at, with_job, stopped, charged, stop, charge, new_slot, join_from, joined, holder, payer, taken, given, spent, use_of, morning, state_at, use_on, late_at, late_on, history}}
use Rattle.base.proofs.Lists.{by_bool}
use Rattle.laws.proofs.{Lawful.LawfulPlan, Slots.slot_at-suc, Steps.{taken_free, taken-kept, taken-over, payer-le}, ReleaseList.str}
use Rattle.sound.specs.Served.{payer_in, payer_on}
use Rattle.sound.proofs.{Arriving.joined-orderly, Clean.{Punctual, orderly-at}}
use Rattle.exact.specs.Missing.{moved_freely, freely}
use Rattle.exact.proofs.Freely.{freely-strings}
use Rattle.charging.specs.RunsAlike.{RunsAlike}
use Rattle.charging.proofs.Forgetting.{unpriced, set-unpriced, turned-unpriced, job-string, late-unpriced, holder-unpriced, payer-unpriced, given-unpriced, spent-unpriced, use-unpriced}

-- ---- The first day, and step 2

pub freely-at : (p : Plan) (i : ℕ) → string_at (freely p) i ≡ moved_freely (string_at p i)
freely-at p i = rw (freely-strings p) (get_or-map moved_freely (strings_of p) (i - 1) no_string)

new-unpriced : (p : Plan) (r : Release) (k : ℕ) → unpriced (new_slot p r k) ≡ new_slot (freely p) r k
unfolding new_slot
new-unpriced p r k = rw (freely-at p r.place)

join_from-unpriced : (p : Plan) (t k : ℕ) (rs : List Release) (ss : List Slot)
    → map unpriced (join_from p t k rs ss) ≡ join_from (freely p) t k rs (map unpriced ss)
unfolding join_from
join_from-unpriced p t k [] ss = refl
join_from-unpriced p t k (r ∷ rs) ss =
    join_from-unpriced p t (suc k) rs (cond (eqb r.day.0 t) (set ss (r.place - 1) (new_slot p r k)) ss)
    ∙ ap (join_from (freely p) t (suc k) rs)
    (by_bool (eqb r.day.0 t)
    (λ today. rw today (set-unpriced ss (r.place - 1) (new_slot p r k) ∙ ap (set (map unpriced ss) (r.place - 1)) (new-unpriced p r k)))
    (λ other. rw other))

joined-unpriced : (p : Plan) (rs : List Release) (t : ℕ) (ss : List Slot)
    → map unpriced (joined p rs t ss) ≡ joined (freely p) rs t (map unpriced ss)
unfolding joined
joined-unpriced p rs t ss = join_from-unpriced p t 1 rs ss

empty-unpriced : (ss : List BatteryString) → map unpriced (map empty_slot ss) ≡ map empty_slot (map moved_freely ss)
empty-unpriced [] = refl
empty-unpriced (s ∷ ss) = ap (λ rest. empty_slot (moved_freely s) ∷ rest) (empty-unpriced ss)

first-unpriced : (p : Plan) (rs : List Release) → map unpriced (state_at p rs zero) ≡ map empty_slot (strings_of (freely p))
unfolding state_at
first-unpriced p rs = empty-unpriced (strings_of p) ∙ ap (map empty_slot) (sym (freely-strings p))

-- ---- Step 3

-- the job at place k pays a
abbrev charged_by : ℕ → List Slot → ℕ → List Slot
charged_by a ss k = with_job ss k (charged a (slot_at ss k).job)

charge-unpriced : (p : Plan) (ss : List Slot) (h k : ℕ)
    → map unpriced (charge p (stop ss h) k) ≡ charged_by (moving_cost p (slot_at ss k).string) (stop (map unpriced ss) h) k
charge-unpriced p ss h k =
    let cost : (slot_at (stop ss h) k).string ≡ (slot_at ss k).string = job-string ss h k (stopped (slot_at ss h).job) in
    turned-unpriced (stop ss h) (charged (moving_cost p (slot_at (stop ss h) k).string)) k
    ∙ rw (turned-unpriced ss stopped h, cost)

module _ (p q : Plan) (t : ℕ) (ss zs : List Slot) (same : map unpriced zs ≡ map unpriced ss) where
  holder-same : holder zs ≡ holder ss
  holder-same = sym (holder-unpriced zs) ∙ ap holder same ∙ holder-unpriced ss

  payer-same : payer t zs ≡ payer t ss
  payer-same = sym (payer-unpriced zs t) ∙ ap (payer t) same ∙ payer-unpriced ss t

  -- the same is paid
  taken-same : (holder ss ≢ 0 → payer t ss ≢ 0
      → moving_cost q (slot_at zs (payer t ss)).string ≡ moving_cost p (slot_at ss (payer t ss)).string)
      → map unpriced (taken q t zs) ≡ map unpriced (taken p t ss)
  taken-same fees =
      elim (ℕ_discrete (holder ss) 0) [
        | yes free ↦ rw (taken_free p t ss free, taken_free q t zs (holder-same ∙ free)) same
        | no held ↦
            elim (ℕ_discrete (payer t ss) 0) [
              | yes none ↦
                  rw (taken-kept p t ss held none, taken-kept q t zs (λ z. held (sym holder-same ∙ z)) (payer-same ∙ none)) same
              | no some ↦
                  let over = taken-over q t zs (λ z. held (sym holder-same ∙ z)) (λ z. some (sym payer-same ∙ z)) in
                  rw (taken-over p t ss held some, over, holder-same, payer-same)
                  (charge-unpriced q zs (holder ss) (payer t ss)
                  ∙ rw (same, fees held some) (sym (charge-unpriced p ss (holder ss) (payer t ss))))
            ]
      ]

-- ---- The days

module _ (p q : Plan) (alike : freely q ≡ freely p) (rs : List Release) (p-lawful : LawfulPlan p) (p-listed : first_unlawful p rs ≡ 0)
    (q-lawful : LawfulPlan q) (q-listed : first_unlawful q rs ≡ 0)
    (paid : (t k : ℕ) → Punctual p rs (suc t) → payer_on p rs t ≡ suc k → moving_cost q (str q k) ≡ moving_cost p (str p k)) where
  abbrev Same : ℕ → Type 0
  Same t = map unpriced (state_at q rs t) ≡ map unpriced (state_at p rs t)

  late-same : (t : ℕ) → Same t → late_on q rs t ≡ late_on p rs t
  unfolding late_on
  late-same t same = sym (late-unpriced (state_at q rs t) t) ∙ ap (late_at t) same ∙ late-unpriced (state_at p rs t) t

  first-same : Same zero
  first-same = first-unpriced q rs ∙ ap (λ r. map empty_slot (strings_of r)) alike ∙ sym (first-unpriced p rs)

  module _ (t : ℕ) (p-punctual : Punctual p rs (suc t)) (q-punctual : Punctual q rs (suc t)) (same : Same t) where
    -- the slots once the day's releases have joined
    abbrev js : List Slot
    js = joined p rs t (state_at p rs t)

    abbrev ys : List Slot
    ys = joined q rs t (state_at q rs t)

    joined_same : map unpriced ys ≡ map unpriced js
    joined_same =
        joined-unpriced q rs t (state_at q rs t) ∙ rw (alike, same) (sym (joined-unpriced p rs t (state_at p rs t)))

    fees-same : holder js ≢ 0 → payer t js ≢ 0
        → moving_cost q (slot_at ys (payer t js)).string ≡ moving_cost p (slot_at js (payer t js)).string
    unfolding late_on payer_on payer_in
    fees-same held some =
        let k = payer t js - 1 in
        let place : payer t js ≡ suc k = omega arith in
        let o = orderly-at p rs p-lawful p-listed t (λ i a. p-punctual i (omega arith)) in
        let w = orderly-at q rs q-lawful q-listed t (λ i a. q-punctual i (omega arith)) in
        let po = joined-orderly p rs p-lawful p-listed t (state_at p rs t) o (p-punctual t (omega arith)) in
        let qo = joined-orderly q rs q-lawful q-listed t (state_at q rs t) w (q-punctual t (omega arith)) in
        let mine = po.string-kept k (omega (arith, payer-le t js, po.size)) in
        let yours = qo.string-kept k (omega (arith, payer-le t ys, payer-same p q t js ys joined_same, qo.size)) in
        let fee = paid t k p-punctual (rw (ne_eqb (holder js) 0 held) place) in
        rw (place, slot_at-suc ys k, slot_at-suc js k, mine, yours) fee

    morning-same : map unpriced (morning q rs t (state_at q rs t)) ≡ map unpriced (morning p rs t (state_at p rs t))
    unfolding morning
    morning-same =
        given-unpriced (taken q t ys) ∙ ap given (taken-same p q t js ys joined_same fees-same) ∙ sym (given-unpriced (taken p t js))

    next-same : Same (suc t)
    unfolding state_at
    next-same =
        let ms = morning p rs t (state_at p rs t) in
        let ns = morning q rs t (state_at q rs t) in
        spent-unpriced ns ∙ ap spent morning-same ∙ sym (spent-unpriced ms)

    use-same : use_on q rs t ≡ use_on p rs t
    unfolding use_on
    use-same =
        let ms = morning p rs t (state_at p rs t) in
        let ns = morning q rs t (state_at q rs t) in
        sym (use-unpriced ns) ∙ ap use_of morning-same ∙ use-unpriced ms

  -- and nobody is late in the one where nobody is in the other
  same_at : (t : ℕ) → Punctual p rs t → Same t × Punctual q rs t
  same_at zero so_far = (first-same, λ i h. absurd (omega arith))
  same_at (suc t) so_far =
      let before = same_at t (λ i a. so_far i (omega arith)) in
      let q-punctual : Punctual q rs (suc t) =
      λ i a. elim (dec_le (suc i) t) [
        | yes earlier ↦ before.1 i earlier
        | no last ↦
            let today : t ≡ i = omega arith in
            subst (λ d. late_on q rs d ≡ 0) today (late-same t before.0 ∙ so_far t (omega arith))
      ] in
      (next-same t so_far q-punctual before.0, q-punctual)

  history-same : (t : ℕ) → Punctual p rs t → history q rs t ≡ history p rs t
  unfolding history
  history-same zero so_far = refl
  history-same (suc t) so_far =
      let earlier = history-same t (λ i a. so_far i (omega arith)) in
      let today = use-same t so_far (same_at (suc t) so_far).1 (same_at t (λ i a. so_far i (omega arith))).0 in
      rw (earlier, today)

  pub costs-alone-alike : RunsAlike q p rs
  costs-alone-alike = record { late = λ t so_far. late-same t (same_at t so_far).0; done = history-same }
