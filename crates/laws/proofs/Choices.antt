-- Who is late, who holds the bank, who pays and who is next, by place.
use Rattle.base.proofs.Prelude.{ℕ, ◌≤◌, ◌<◌, ◌≡◌, refl, sym, ◌∙◌, ◌⊎◌, inl, inr, ◌≢◌, true, false, ◌&&◌, List, arith, lt-ltb, le-ltb, ltb-true, ltb-false, eqb-true, eq-eqb, ltb, eqb, length}
use Rattle.rules.specs.{declared.Slot.Slot, Run.{slot_at, none_ahead, on_bank, waits, left, late_slot, late_at, holder, may_take, due_before, payer, goes_first, next_up}}
use Rattle.base.proofs.Lists.{by_bool, true-not-false, and_left, and_right, and_both}
use Rattle.laws.proofs.{Slots.at, Choice.{Choice, Order, chosen-choice}}

-- ---- The three orders

none_ahead-order : Order none_ahead
none_ahead-order = record { self = λ s. refl; chain = λ s r q h k. h }

pub due_before-order : Order due_before
due_before-order =
    record {
      self = λ s. le-ltb s.deadline.0 s.deadline.0 (omega arith);
      chain =
          λ s r q h k.
          let a = ltb-true s.deadline.0 r.deadline.0 h in
          let b = ltb-true r.deadline.0 q.deadline.0 k in
          lt-ltb s.deadline.0 q.deadline.0 (omega arith);
    }

-- due no later, and on the same day released earlier
goes_first-means : (s r : Slot) → goes_first s r ≡ true
    → (s.deadline.0 < r.deadline.0) ⊎ ((s.deadline.0 ≡ r.deadline.0) × (s.release.0 < r.release.0))
goes_first-means s r h =
    by_bool (ltb s.deadline.0 r.deadline.0)
    (λ t. inl (ltb-true _ _ t))
    (λ f.
    let same = eqb s.deadline.0 r.deadline.0 in
    let sooner = ltb s.release.0 r.release.0 in
    let rest : (same && sooner) ≡ true = rw f at h in
    inr (eqb-true _ _ (and_left same sooner rest), ltb-true _ _ (and_right same sooner rest)))

goes_first-sooner : (s r : Slot) → s.deadline.0 < r.deadline.0 → goes_first s r ≡ true
goes_first-sooner s r h = rw (lt-ltb s.deadline.0 r.deadline.0 h)

goes_first-tie : (s r : Slot) → s.deadline.0 ≡ r.deadline.0 → s.release.0 < r.release.0 → goes_first s r ≡ true
goes_first-tie s r h k =
    rw (le-ltb s.deadline.0 r.deadline.0 (omega arith), eq-eqb s.deadline.0 r.deadline.0 h) (lt-ltb _ _ k)

goes_first-chain : (s r q : Slot)
    → (s.deadline.0 < r.deadline.0) ⊎ ((s.deadline.0 ≡ r.deadline.0) × (s.release.0 < r.release.0))
    → (r.deadline.0 < q.deadline.0) ⊎ ((r.deadline.0 ≡ q.deadline.0) × (r.release.0 < q.release.0))
    → goes_first s q ≡ true
goes_first-chain s r q (inl a) (inl b) = goes_first-sooner s q (omega arith)
goes_first-chain s r q (inl a) (inr b) = goes_first-sooner s q (omega arith)
goes_first-chain s r q (inr a) (inl b) = goes_first-sooner s q (omega arith)
goes_first-chain s r q (inr a) (inr b) = goes_first-tie s q (omega arith) (omega arith)

goes_first-order : Order goes_first
goes_first-order =
    record {
      self = λ s. rw (le-ltb s.deadline.0 s.deadline.0 (omega arith), eq-eqb s.deadline.0 s.deadline.0 refl)
          (le-ltb s.release.0 s.release.0 (omega arith));
      chain = λ s r q h k. goes_first-chain s r q (goes_first-means s r h) (goes_first-means r q k);
    }

-- who does not go first is due no sooner
pub goes_first-not : (s r : Slot) → goes_first s r ≡ false → r.deadline.0 ≤ s.deadline.0
goes_first-not s r h =
    by_bool (ltb s.deadline.0 r.deadline.0)
    (λ t. absurd (true-not-false (sym (goes_first-sooner s r (ltb-true _ _ t)) ∙ h)))
    (λ f. ltb-false _ _ f)

-- ---- The four choices

late-choice : (t : ℕ) (ss : List Slot) → Choice (late_slot t) none_ahead ss (length ss) (late_at t ss)
unfolding late_at
late-choice t ss = chosen-choice (late_slot t) none_ahead none_ahead-order ss (length ss)

pub holder-choice : (ss : List Slot) → Choice (λ s. on_bank s.job) none_ahead ss (length ss) (holder ss)
unfolding holder
holder-choice ss = chosen-choice (λ s. on_bank s.job) none_ahead none_ahead-order ss (length ss)

pub payer-choice : (t : ℕ) (ss : List Slot) → Choice (may_take t (slot_at ss (holder ss)).deadline.0) due_before ss (length ss) (payer t ss)
unfolding payer
payer-choice t ss = chosen-choice (may_take t (slot_at ss (holder ss)).deadline.0) due_before due_before-order ss (length ss)

pub next_up-choice : (ss : List Slot) → Choice (λ s. waits s.job) goes_first ss (length ss) (next_up ss)
unfolding next_up
next_up-choice ss = chosen-choice (λ s. waits s.job) goes_first goes_first-order ss (length ss)

-- where nobody is late, what is left is not due today
pub late-none : (t : ℕ) (ss : List Slot) → late_at t ss ≡ 0 → (j : ℕ) → j < length ss → 1 ≤ left (at ss j).job → (at ss j).deadline.0 ≢ t
late-none t ss none j h l = go (late-choice t ss)
  where
    go : Choice (late_slot t) none_ahead ss (length ss) (late_at t ss) → (at ss j).deadline.0 ≢ t
    go (inl c) = λ e. true-not-false (sym (and_both _ _ (eq-eqb _ _ e) (lt-ltb 0 (left (at ss j).job) l)) ∙ c.1 j h)
    go (inr c) = absurd (omega (arith, c.1))

-- and where nothing that is due today is left, nobody is late
pub late-nobody : (t : ℕ) (ss : List Slot) → ((j : ℕ) → j < length ss → (at ss j).deadline.0 ≡ t → left (at ss j).job ≡ 0)
    → late_at t ss ≡ 0
late-nobody t ss none = go (late-choice t ss)
  where
    go : Choice (late_slot t) none_ahead ss (length ss) (late_at t ss) → late_at t ss ≡ 0
    go (inl c) = c.0
    go (inr c) =
        let o = c.2 in
        let s = at ss c.0 in
        let today = eqb s.deadline.0 t in
        let unfinished = ltb 0 (left s.job) in
        let due : s.deadline.0 ≡ t = eqb-true _ _ (and_left today unfinished o.passes) in
        let some : 0 < left s.job = ltb-true _ _ (and_right today unfinished o.passes) in
        absurd (omega (arith, none c.0 o.within due))
