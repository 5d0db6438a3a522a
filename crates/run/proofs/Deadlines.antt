-- The deadline that comes first of those after a day, of jobs with something left: nobody's lies before it.
use Rattle.base.proofs.Prelude.{ℕ, suc, ◌≤◌, ◌<◌, ◌≡◌, sym, ap, ◌∙◌, inl, inr, Bool, true, ◌&&◌, List, arith, dec_le, ltb-true, ltb-false, lt-ltb, ltb, length, get_or-eq_default}
use Rattle.days.specs.declared.Day.{Day}
use Rattle.rules.specs.{declared.Slot.Slot, Run.{left, no_slot, slot_at, due_before, chosen}}
use Rattle.base.proofs.Lists.{true-not-false, and_left, and_both}
use Rattle.laws.proofs.{Slots.{at, slot_at-suc}, Choice.{Choice, chosen-choice}, Choices.due_before-order}
use Rattle.run.specs.inner.Day.{NoneDue}

-- a slot with something left is one of the list
left-within : (ss : List Slot) (j : ℕ) → 1 ≤ left (at ss j).job → j < length ss
left-within ss j some =
    elim (dec_le (suc j) (length ss)) [
      | yes h ↦ h
      | no h ↦
          let none : left (at ss j).job ≡ 0 = ap (λ s. left s.job) (get_or-eq_default ss no_slot (omega arith)) in
          absurd (omega arith)
    ]

-- what is asked of a slot, and the place that answers
abbrev due_after : Day → Slot → Bool
due_after after s = ltb after.0 s.deadline.0 && ltb 0 (left s.job)

abbrev due_place : Day → List Slot → ℕ
due_place after ss = chosen (due_after after) due_before ss (length ss)

module _ (ss : List Slot) (after : Day) where
  asks : (j : ℕ) → 1 ≤ left (at ss j).job → after.0 < (at ss j).deadline.0 → due_after after (at ss j) ≡ true
  asks j some later = and_both _ _ (lt-ltb _ _ later) (lt-ltb _ _ some)

  choice : Choice (due_after after) due_before ss (length ss) (due_place after ss)
  choice = chosen-choice (due_after after) due_before due_before-order ss (length ss)

  pub none-later : due_place after ss ≡ 0 → (e : ℕ) → NoneDue ss after.0 e
  none-later none e j some later = go choice
    where
      go : Choice (due_after after) due_before ss (length ss) (due_place after ss) → e ≤ (at ss j).deadline.0
      go (inl c) = absurd (true-not-false (sym (asks j some later) ∙ c.1 j (left-within ss j some)))
      go (inr c) = absurd (omega (arith, c.1))

  pub record FirstDue (q : ℕ) : Type 0 where
    pub later : after.0 < (slot_at ss q).deadline.0
    pub none-due : NoneDue ss after.0 (slot_at ss q).deadline.0

  pub first-due : (q : ℕ) → q ≡ due_place after ss → 1 ≤ q → FirstDue q
  first-due q is some = go choice
    where
      go : Choice (due_after after) due_before ss (length ss) (due_place after ss) → FirstDue q
      go (inl c) = absurd (omega (arith, c.0))
      go (inr c) =
          let i = c.0 in
          let one = c.2 in
          let s = at ss i in
          let there : slot_at ss q ≡ s = ap (slot_at ss) (is ∙ c.1) ∙ slot_at-suc ss i in
          record {
            later = rw there (ltb-true _ _ (and_left (ltb after.0 s.deadline.0) (ltb 0 (left s.job)) one.passes));
            none-due = rw there (λ j some later. ltb-false _ _ (one.first j (left-within ss j some) (asks j some later)));
          }
