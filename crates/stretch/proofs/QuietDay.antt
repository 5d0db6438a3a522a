-- A day without a release: every job was released on an earlier day, so nobody may take the bank, and steps 2 and 3 change nothing.
--     Old t s               s has no job, or was released before day t
use Rattle.base.proofs.Prelude.{ℕ, zero, suc, ◌<◌, ◌≡◌, refl, ap, ◌∙◌, ◌⊎◌, inl, inr, false, List, arith, ℕ_discrete, ne_eqb, length, get_or}
use Rattle.days.specs.declared.Day.{Day}
use Rattle.rules.specs.{declared.Plan.Plan, declared.Release.Release, declared.Job.Job, declared.Job.TheVariants.Empty, declared.Slot.Slot, Plan.strings_of, Demand.moving_cost, Run.{empty_slot, no_slot, slot_at, put_job, waits, new_slot, joined, holder, may_take, due_before, payer, stopped, charged, taken, seated, given, spent_job, morning, state_at}}
use Rattle.base.proofs.{Lists.{All, all_map, all_get_d, by_bool}, Order.{all_of, all-mapped}}
use Rattle.laws.proofs.{Slots.new_slot-release, Choice.chosen-nobody, Steps.{taken_free, taken-kept}}
use Rattle.stretch.specs.Stretch.{day_at}
use Rattle.stretch.proofs.{JoinList.{join_from-none, join_from-all}, EachSlot.{taken-all, given-all, spent_all}}

abbrev Old : ℕ → Slot → Type 0
Old t s = (s.release.0 < t) ⊎ (s.job ≡ Empty)

old-more : (t : ℕ) (s : Slot) → Old t s → Old (suc t) s
old-more t s (inl h) = inl (omega arith)
old-more t s (inr e) = inr e

-- a step that leaves an empty slot empty keeps it
old-changed : (t : ℕ) (f : Job → Job) → f Empty ≡ Empty → (s : Slot) → Old t s → Old t (put_job s (f s.job))
old-changed t f z s (inl h) = inl h
old-changed t f z s (inr e) = inr (ap f e ∙ z)

new-old : (p : Plan) (t : ℕ) (r : Release) (k : ℕ) → r.day.0 ≡ t → Old (suc t) (new_slot p r k)
new-old p t r k e = inl (omega (arith, ap (λ (d : Day). d.0) (new_slot-release p r k)))

joined-old : (p : Plan) (rs : List Release) (t : ℕ) (ss : List Slot) → All (Old t) ss → All (Old (suc t)) (joined p rs t ss)
unfolding joined
joined-old p rs t ss h =
    join_from-all p t (Old (suc t)) 1 rs (λ r k low high e. new-old p t r k e) ss (all_map (Old t) (Old (suc t)) (old-more t) ss h)

pub state_at-old : (p : Plan) (rs : List Release) (t : ℕ) → All (Old t) (state_at p rs t)
unfolding state_at morning
state_at-old p rs zero = all-mapped (Old 0) empty_slot (strings_of p) (all_of (λ s. Old 0 (empty_slot s)) (λ s. inr refl) (strings_of p))
state_at-old p rs (suc t) =
    let js = joined p rs t (state_at p rs t) in
    let takes =
    taken-all (Old (suc t)) (Old (suc t)) (λ s h. h) p t (old-changed (suc t) stopped refl)
    (λ s. old-changed (suc t) (charged (moving_cost p s.string)) refl s) js (joined-old p rs t (state_at p rs t) (state_at-old p rs t)) in
    let gives = given-all (Old (suc t)) (old-changed (suc t) seated refl) (taken p t js) takes in
    spent_all (Old (suc t)) (old-changed (suc t) spent_job refl) (given (taken p t js)) gives

old-no-taker : (t e : ℕ) (s : Slot) → Old t s → may_take t e s ≡ false
old-no-taker t e s (inl before) =
    let other = ne_eqb s.release.0 t (λ e. omega arith) in
    by_bool (waits s.job) (λ w. rw (w, other)) (λ n. rw n)
old-no-taker t e s (inr empty) = rw empty

-- step 3 of a day without a release
pub taken-quiet : (p : Plan) (t : ℕ) (ss : List Slot) → All (Old t) ss → taken p t ss ≡ ss
unfolding payer
taken-quiet p t ss old =
    let nobody : payer t ss ≡ 0 =
    chosen-nobody (may_take t (slot_at ss (holder ss)).deadline.0) due_before ss
    (λ i. old-no-taker t (slot_at ss (holder ss)).deadline.0 (get_or ss i no_slot) (all_get_d (Old t) ss i no_slot old (inr refl)))
    (length ss) in
    elim (ℕ_discrete (holder ss) 0) [ yes free ↦ taken_free p t ss free | no held ↦ taken-kept p t ss held nobody ]

-- steps 2 to 4 of a day without a release: a free bank is given
pub morning-quiet : (p : Plan) (rs : List Release) (t : ℕ) → ((i : ℕ) → i < length rs → day_at rs i ≡ t → ⊥)
    → morning p rs t (state_at p rs t) ≡ given (state_at p rs t)
unfolding morning joined
morning-quiet p rs t none =
    let ss = state_at p rs t in
    ap (λ xs. given (taken p t xs)) (join_from-none p t 1 rs ss none) ∙ ap given (taken-quiet p t ss (state_at-old p rs t))
