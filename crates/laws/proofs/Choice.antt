-- Laws of `chosen`: what the next place makes of the choice so far, and what the choice means: nobody, and then nobody passes; or a
-- place that passes and that nobody who passes is ahead of. Only the places looked at matter.
--     Nobody ok ss k              nobody of the first k passes
--     One ok ahead ss k j         the slot with index j is the one
--     Choice ok ahead ss k c      c is 0 and nobody passes, or c is the place of the one
--     Order ahead                 nobody is ahead of himself, and who is ahead of one that is ahead is ahead
use Rattle.base.proofs.Prelude.{ℕ, zero, suc, ◌-◌, ◌≤◌, ◌<◌, ◌≡◌, refl, sym, ap, ◌∙◌, subst, ◌⊎◌, inl, inr, Bool, true, false, List, arith, ℕ_discrete, eq-eqb, ne_eqb, eqb, length, take, length-take, get_or-take}
use Rattle.rules.specs.{declared.Slot.Slot, Run.{chosen, slot_at, no_slot}}
use Rattle.base.proofs.Lists.{by_bool, true-not-false}
use Rattle.laws.proofs.Slots.{at, slot_at-suc}

abbrev pub Nobody : (Slot → Bool) → List Slot → ℕ → Type 0
Nobody ok ss k = (i : ℕ) → i < k → ok (at ss i) ≡ false

pub record One (ok : Slot → Bool) (ahead : Slot → Slot → Bool) (ss : List Slot) (k j : ℕ) : Type 0 where
  pub within : j < k
  pub passes : ok (at ss j) ≡ true
  pub first : (i : ℕ) → i < k → ok (at ss i) ≡ true → ahead (at ss i) (at ss j) ≡ false

abbrev pub Choice : (Slot → Bool) → (Slot → Slot → Bool) → List Slot → ℕ → ℕ → Type 0
Choice ok ahead ss k c = ((c ≡ 0) × Nobody ok ss k) ⊎ ((j : ℕ) × (c ≡ suc j) × One ok ahead ss k j)

pub record Order (ahead : Slot → Slot → Bool) : Type 0 where
  pub self : (s : Slot) → ahead s s ≡ false
  pub chain : (s r q : Slot) → ahead s r ≡ true → ahead r q ≡ true → ahead s q ≡ true

-- below suc k: below k, or k itself
below_suc : (P : ℕ → Type 0) (k : ℕ) → ((i : ℕ) → i < k → P i) → P k → (i : ℕ) → i < suc k → P i
below_suc P k before last i h =
    elim (ℕ_discrete i k) [ yes same ↦ subst P (sym same) last | no other ↦ before i (omega arith) ]

-- ---- The next place

module _ (ok : Slot → Bool) (ahead : Slot → Slot → Bool) (ss : List Slot) where
  chosen_none : chosen ok ahead ss 0 ≡ 0
  unfolding chosen
  chosen_none = refl

  -- one that does not pass changes nothing
  pub chosen-not : (k : ℕ) → ok (at ss k) ≡ false → chosen ok ahead ss (suc k) ≡ chosen ok ahead ss k
  unfolding chosen
  chosen-not k e = rw e

  pub chosen-first : (k : ℕ) → ok (at ss k) ≡ true → chosen ok ahead ss k ≡ 0 → chosen ok ahead ss (suc k) ≡ suc k
  unfolding chosen
  chosen-first k t z = rw (t, eq-eqb _ 0 z)

  pub chosen-ahead : (k : ℕ) → ok (at ss k) ≡ true → ahead (at ss k) (slot_at ss (chosen ok ahead ss k)) ≡ true
      → chosen ok ahead ss (suc k) ≡ suc k
  unfolding chosen
  chosen-ahead k t a = by_bool (eqb (chosen ok ahead ss k) 0) (λ z. rw (t, z)) (λ n. rw (t, n, a))

  pub chosen-behind : (k : ℕ) → (chosen ok ahead ss k ≡ 0 → ⊥) → ahead (at ss k) (slot_at ss (chosen ok ahead ss k)) ≡ false
      → chosen ok ahead ss (suc k) ≡ chosen ok ahead ss k
  unfolding chosen
  chosen-behind k some a = by_bool (ok (at ss k)) (λ t. rw (t, ne_eqb _ 0 some, a)) (λ e. rw e)

  -- nobody passes
  pub chosen-nobody : ((i : ℕ) → ok (at ss i) ≡ false) → (k : ℕ) → chosen ok ahead ss k ≡ 0
  chosen-nobody not zero = chosen_none
  chosen-nobody not (suc k) = chosen-not k (not k) ∙ chosen-nobody not k

  pub chosen-le : (k : ℕ) → chosen ok ahead ss k ≤ k
  chosen-le zero = omega (arith, chosen_none)
  chosen-le (suc k) =
      let before = chosen-le k in
      by_bool (ok (at ss k))
      (λ t. by_bool (ahead (at ss k) (slot_at ss (chosen ok ahead ss k)))
      (λ a. omega (arith, chosen-ahead k t a))
      (λ b. elim (ℕ_discrete (chosen ok ahead ss k) 0) [
        | yes z ↦ omega (arith, chosen-first k t z)
        | no some ↦ omega (arith, chosen-behind k some b)
      ]))
      (λ e. omega (arith, chosen-not k e))

-- ---- The meaning

module _ (ok : Slot → Bool) (ahead : Slot → Slot → Bool) (order : Order ahead) (ss : List Slot) where
  -- the next does not pass
  choice-skip : (k c : ℕ) → ok (at ss k) ≡ false → Choice ok ahead ss k c → Choice ok ahead ss (suc k) c
  choice-skip k c f (inl n) = inl (n.0, below_suc (λ i. ok (at ss i) ≡ false) k n.1 f)
  choice-skip k c f (inr n) =
      let o = n.2 in
      let first =
      below_suc (λ i. ok (at ss i) ≡ true → ahead (at ss i) (at ss n.0) ≡ false) k o.first
      (λ t. absurd (true-not-false (sym t ∙ f))) in
      inr (n.0, n.1, record { within = omega arith; passes = o.passes; first = first })

  -- the next passes, and is the first to do so or ahead of the one before
  choice-new : (k : ℕ) → ok (at ss k) ≡ true → ((i : ℕ) → i < k → ok (at ss i) ≡ true → ahead (at ss i) (at ss k) ≡ false)
      → Choice ok ahead ss (suc k) (suc k)
  choice-new k t before =
      let first = below_suc (λ i. ok (at ss i) ≡ true → ahead (at ss i) (at ss k) ≡ false) k before (λ u. order.self (at ss k)) in
      inr (k, refl, record { within = omega arith; passes = t; first = first })

  -- it passes and is not ahead
  choice-stays : (k j : ℕ) → One ok ahead ss k j → ahead (at ss k) (at ss j) ≡ false → Choice ok ahead ss (suc k) (suc j)
  choice-stays k j o a =
      let first = below_suc (λ i. ok (at ss i) ≡ true → ahead (at ss i) (at ss j) ≡ false) k o.first (λ u. a) in
      inr (j, refl, record { within = omega arith; passes = o.passes; first = first })

  choice-next : (k : ℕ) → ok (at ss k) ≡ true → Choice ok ahead ss k (chosen ok ahead ss k)
      → Choice ok ahead ss (suc k) (chosen ok ahead ss (suc k))
  choice-next k t (inl c) =
      rw (chosen-first ok ahead ss k t c.0) (choice-new k t (λ i h u. absurd (true-not-false (sym u ∙ c.1 i h))))
  choice-next k t (inr c) =
      let o = c.2 in
      let j = c.0 in
      let there : slot_at ss (chosen ok ahead ss k) ≡ at ss j = ap (slot_at ss) c.1 ∙ slot_at-suc ss j in
      by_bool (ahead (at ss k) (at ss j))
      (λ a.
      rw (chosen-ahead ok ahead ss k t (ap (ahead (at ss k)) there ∙ a))
      (choice-new k t
      (λ i h u.
      by_bool (ahead (at ss i) (at ss k))
      (λ b. absurd (true-not-false (sym (order.chain (at ss i) (at ss k) (at ss j) b a) ∙ o.first i h u)))
      (λ b. b))))
      (λ a.
      rw (chosen-behind ok ahead ss k (λ z. omega arith) (ap (ahead (at ss k)) there ∙ a) ∙ c.1) (choice-stays k j o a))

  pub chosen-choice : (k : ℕ) → Choice ok ahead ss k (chosen ok ahead ss k)
  chosen-choice zero = inl (chosen_none ok ahead ss, λ i h. absurd (omega arith))
  chosen-choice (suc k) =
      let before = chosen-choice k in
      by_bool (ok (at ss k))
      (λ t. choice-next k t before)
      (λ f. rw (chosen-not ok ahead ss k f) (choice-skip k (chosen ok ahead ss k) f before))

-- ---- The first n slots of an array

-- a choice among the first k sees no more of the slots than those
chosen-take : (ok : Slot → Bool) (ahead : Slot → Slot → Bool) (ss : List Slot) (n k : ℕ) → k ≤ n
    → chosen ok ahead (take n ss) k ≡ chosen ok ahead ss k
unfolding chosen
chosen-take ok ahead ss n zero h = refl
chosen-take ok ahead ss n (suc k) h =
    let before = chosen-take ok ahead ss n k (omega arith) in
    let here = get_or-take n ss k no_slot (omega arith) in
    elim (ℕ_discrete (chosen ok ahead ss k) 0) [
      | yes z ↦ rw (before, here, eq-eqb _ 0 z)
      | no some ↦
          let low = chosen-le ok ahead ss k in
          rw (before, here, get_or-take n ss (chosen ok ahead ss k - 1) no_slot (omega arith))
    ]

-- a choice among all of the first n
pub chosen-all : (ok : Slot → Bool) (ahead : Slot → Slot → Bool) (ss : List Slot) (n : ℕ)
    → chosen ok ahead (take n ss) (length (take n ss)) ≡ chosen ok ahead ss (length (take n ss))
chosen-all ok ahead ss n = chosen-take ok ahead ss n (length (take n ss)) (omega (arith, length-take n ss))
