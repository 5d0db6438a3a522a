-- Days that the job on the bank uses, one after the other: while what it is at is not finished it keeps the bank, each day is used alike,
-- and a day more is one day more off it.
use Rattle.base.proofs.Prelude.{ℕ, zero, suc, ◌+◌, ◌-◌, ◌≤◌, ◌<◌, ◌≡◌, refl, sym, ap, ◌∙◌, inl, inr, true, Bool, List, arith, ℕ_discrete, eq-eqb, ne_eqb, lt-ltb, le_refl, ltb, length, set}
use lib.Seq.{set-set}
use Rattle.days.specs.{declared.Length.Length, Days.days}
use Rattle.rules.specs.{declared.Job.Job, declared.Job.TheVariants.{Empty, Waiting, OnBank}, declared.Slot.Slot, Run.{left, on_bank, waits, goes_first, slot_at, with_job, put_job, none_ahead, chosen, holder, next_up, seated, given, used_for, use_of, on_or_gone, spent_job, spent}}
use Rattle.base.proofs.Lists.{by_bool, true-not-false}
use Rattle.laws.proofs.{JobParts.{parts-left, on_or_gone-parts}, Slots.{at, slot_at-suc, change-length, change-same, change-other}, Choice.{One, Choice}, Choices.{holder-choice, next_up-choice}, Steps.{given-held, given-nobody, given-next, use_of-held, spent-free, spent-held}}
use Rattle.stretch.specs.Stretch.{part_days, spent_by, days_off}

-- ---- A job alone

pub spent_by-one : (job : Job) → spent_by 1 job ≡ spent_job job
spent_by-one Empty = refl
spent_by-one (Waiting w m) = refl
spent_by-one (OnBank w m) = refl

-- what k days leave of a job that is still at the same
pub record Still (k : ℕ) (job : Job) : Type 0 where
  pub on : on_bank (spent_by k job) ≡ true
  pub alike : (i serves : ℕ) → used_for i serves (spent_by k job) ≡ used_for i serves job
  pub more : spent_job (spent_by k job) ≡ spent_by (suc k) job

on_or_gone-on : (w m : Length) → 1 ≤ w.0 + m.0 → on_or_gone w m ≡ OnBank w m
on_or_gone-on w m some = rw (ne_eqb (w.0 + m.0) 0 (λ z. omega arith))

pub still : (k : ℕ) (job : Job) → k < part_days job → Still k job
still k Empty h = absurd (omega arith)
still k (Waiting w m) h = absurd (omega arith)
still k (OnBank w m) h =
    by_bool (ltb 0 m.0)
    (λ t.
    let few : k < m.0 = rw t at h in
    let on : spent_by k (OnBank w m) ≡ OnBank w (days (m.0 - k)) = rw t (on_or_gone-on w (days (m.0 - k)) (omega arith)) in
    let moving : ltb 0 (m.0 - k) ≡ true = lt-ltb 0 (m.0 - k) (omega arith) in
    let less : m.0 - k - 1 ≡ m.0 - suc k = omega arith in
    record {
      on = ap on_bank on;
      alike = λ i serves. ap (used_for i serves) on ∙ rw (moving, t);
      more = ap spent_job on ∙ rw (moving, t) (ap (λ n. on_or_gone w (days n)) less);
    })
    (λ f.
    let few : k < w.0 = rw f at h in
    let on : spent_by k (OnBank w m) ≡ OnBank (days (w.0 - k)) m = rw f (on_or_gone-on (days (w.0 - k)) m (omega arith)) in
    let less : w.0 - k - 1 ≡ w.0 - suc k = omega arith in
    record {
      on = ap on_bank on;
      alike = λ i serves. ap (used_for i serves) on ∙ rw f;
      more = ap spent_job on ∙ rw f (ap (λ n. on_or_gone (days n) m) less);
    })

on_or_gone-left : (w m : Length) → left (on_or_gone w m) ≡ w.0 + m.0
on_or_gone-left w m =
    let parts = on_or_gone-parts w m in
    omega (arith, parts-left (on_or_gone w m), parts.0, parts.1)

spent_by-left : (k : ℕ) (job : Job) → left (spent_by k job) ≤ left job
spent_by-left k Empty = omega arith
spent_by-left k (Waiting w m) = omega arith
spent_by-left k (OnBank w m) =
    by_bool (ltb 0 m.0)
    (λ t. rw t (omega (arith, on_or_gone-left w (days (m.0 - k)))))
    (λ f. rw f (omega (arith, on_or_gone-left (days (w.0 - k)) m)))

-- ---- The slots

-- where each slot passes as it did before, the first that passes is where it was
chosen-alike : (ok : Slot → Bool) (ss ks : List Slot) → ((i : ℕ) → ok (at ks i) ≡ ok (at ss i)) → (k : ℕ)
    → chosen ok none_ahead ks k ≡ chosen ok none_ahead ss k
unfolding chosen
chosen-alike ok ss ks same zero = refl
chosen-alike ok ss ks same (suc k) = rw (same k, chosen-alike ok ss ks same k)

-- with a job on the bank it has a holder
some-held : (ss : List Slot) (j : ℕ) → j < length ss → on_bank (at ss j).job ≡ true → holder ss ≡ 0 → ⊥
some-held ss j h on free = go (holder-choice ss)
  where
    go : Choice (λ s. on_bank s.job) none_ahead ss (length ss) (holder ss) → ⊥
    go (inl c) = true-not-false (sym on ∙ c.1 j h)
    go (inr c) = omega (arith, c.1)

waits-seated : (job : Job) → waits job ≡ true → on_bank (seated job) ≡ true
waits-seated Empty w = w
waits-seated (Waiting a b) w = refl
waits-seated (OnBank a b) w = refl

-- a bank that has been given is given
pub given-twice : (ss : List Slot) → given (given ss) ≡ given ss
given-twice ss =
    elim (ℕ_discrete (holder ss) 0) [
      | no held ↦ rw (given-held ss held) (given-held ss held)
      | yes free ↦
          elim (ℕ_discrete (next_up ss) 0) [
            | yes nobody ↦ rw (given-nobody ss free nobody) (given-nobody ss free nobody)
            | no some ↦ rw (given-next ss free some) (given-held _ (seats some (next_up-choice ss)))
          ]
    ]
  where
    seats : (next_up ss ≡ 0 → ⊥) → Choice (λ s. waits s.job) goes_first ss (length ss) (next_up ss)
        → holder (with_job ss (next_up ss) (seated (slot_at ss (next_up ss)).job)) ≡ 0 → ⊥
    seats some (inl c) z = some c.0
    seats some (inr c) z =
        let q = c.0 in
        let seat : Slot → Job = λ s. seated s.job in
        let one = c.2 in
        some-held (with_job ss (suc q) (seat (slot_at ss (suc q)))) q (omega (arith, change-length seat ss q, one.within))
        (ap (λ s. on_bank s.job) (change-same seat ss q one.within) ∙ waits-seated (at ss q).job one.passes) (rw c.1 at z)

-- ---- Days off the job on the bank

pub days_off-free : (k : ℕ) (ss : List Slot) → holder ss ≡ 0 → days_off k ss ≡ ss
unfolding days_off
days_off-free k ss free = rw (eq-eqb (holder ss) 0 free)

pub days_off-held : (k : ℕ) (ss : List Slot) → (holder ss ≡ 0 → ⊥)
    → days_off k ss ≡ with_job ss (holder ss) (spent_by k (slot_at ss (holder ss)).job)
unfolding days_off
days_off-held k ss held = rw (ne_eqb (holder ss) 0 held)

-- one day off is step 5
pub days_off-one : (ss : List Slot) → spent ss ≡ days_off 1 ss
days_off-one ss =
    elim (ℕ_discrete (holder ss) 0) [
      | yes free ↦ spent-free ss free ∙ sym (days_off-free 1 ss free)
      | no held ↦
          spent-held ss held ∙ ap (with_job ss (holder ss)) (sym (spent_by-one (slot_at ss (holder ss)).job))
          ∙ sym (days_off-held 1 ss held)
    ]

-- the deadlines stay, and nobody has more left
pub days_off-at : (k : ℕ) (ss : List Slot) (i : ℕ)
    → ((at (days_off k ss) i).deadline ≡ (at ss i).deadline) × (left (at (days_off k ss) i).job ≤ left (at ss i).job)
days_off-at k ss i = go (holder-choice ss)
  where
    spend : Slot → Job
    spend s = spent_by k s.job

    go : Choice (λ s. on_bank s.job) none_ahead ss (length ss) (holder ss)
        → ((at (days_off k ss) i).deadline ≡ (at ss i).deadline) × (left (at (days_off k ss) i).job ≤ left (at ss i).job)
    go (inl c) = rw (days_off-free k ss c.0) (refl, le_refl _)
    go (inr c) =
        let h = c.0 in
        let is : days_off k ss ≡ with_job ss (suc h) (spend (slot_at ss (suc h))) =
        days_off-held k ss (λ z. omega (arith, c.1)) ∙ ap (λ j. with_job ss j (spend (slot_at ss j))) c.1 in
        elim (ℕ_discrete i h) [
          | yes same ↦
              let there = ap (λ xs. at xs h) is ∙ change-same spend ss h c.2.within in
              rw (same, there) (refl, spent_by-left k (at ss h).job)
          | no other ↦
              let there = ap (λ xs. at xs i) is ∙ change-other spend ss h i other in
              rw there (refl, le_refl _)
        ]

-- the holder stands at index h, and is still at the same after k days
module _ (k : ℕ) (ss : List Slot) (h : ℕ) (holds : holder ss ≡ suc h)
    (one : One (λ s. on_bank s.job) none_ahead ss (length ss) h) (yet : k < part_days (at ss h).job) where
  abbrev spend : Slot → Job
  spend s = spent_by k s.job

  abbrev after : List Slot
  after = with_job ss (suc h) (spend (slot_at ss (suc h)))

  off-is : (j : ℕ) → days_off j ss ≡ with_job ss (suc h) (spent_by j (slot_at ss (suc h)).job)
  off-is j = days_off-held j ss (λ z. omega arith) ∙ ap (λ i. with_job ss i (spent_by j (slot_at ss i).job)) holds

  same_at : (i : ℕ) → on_bank (at after i).job ≡ on_bank (at ss i).job
  same_at i =
      elim (ℕ_discrete i h) [
        | yes same ↦
            rw same (ap (λ s. on_bank s.job) (change-same spend ss h one.within) ∙ (still k (at ss h).job yet).on ∙ sym one.passes)
        | no other ↦ ap (λ s. on_bank s.job) (change-other spend ss h i other)
      ]

  keeps-bank : holder after ≡ suc h
  unfolding holder
  keeps-bank =
      ap (chosen (λ s. on_bank s.job) none_ahead after) (change-length spend ss h)
      ∙ chosen-alike (λ s. on_bank s.job) ss after same_at (length ss) ∙ holds

  there : slot_at after (holder after) ≡ put_job (at ss h) (spend (at ss h))
  there = ap (slot_at after) keeps-bank ∙ slot_at-suc after h ∙ change-same spend ss h one.within

  here : slot_at ss (holder ss) ≡ at ss h
  here = ap (slot_at ss) holds ∙ slot_at-suc ss h

  held-given : given after ≡ after
  held-given = given-held after (λ z. omega (arith, keeps-bank))

  held-use : use_of after ≡ use_of ss
  held-use =
      let s = at ss h in
      let now : use_of after ≡ used_for (suc h) s.serves (spend s) =
      rw (there, keeps-bank) at (use_of-held after (λ z. omega (arith, keeps-bank))) in
      let then : use_of ss ≡ used_for (suc h) s.serves s.job = rw (here, holds) at (use_of-held ss (λ z. omega arith)) in
      now ∙ (still k s.job yet).alike (suc h) s.serves ∙ sym then

  held-spent : spent after ≡ days_off (suc k) ss
  held-spent =
      let index : suc h - 1 ≡ h = omega arith in
      let s = at ss h in
      let now : spent (set ss h (put_job s (spend s))) ≡ set (set ss h (put_job s (spend s))) h (put_job s (spent_job (spend s))) =
      rw (there, keeps-bank, index) at (spent-held after (λ z. omega (arith, keeps-bank))) in
      let then : days_off (suc k) ss ≡ set ss h (put_job s (spent_by (suc k) s.job)) = rw index at (off-is (suc k)) in
      rw index
      (now ∙ set-set ss h (put_job s (spend s)) (put_job s (spent_job (spend s)))
      ∙ ap (λ j. set ss h (put_job s j)) (still k s.job yet).more
      ∙ sym then)

-- while what the holder is at is not finished, or with nobody on a bank that has been given
pub record Goes (k : ℕ) (ss : List Slot) : Type 0 where
  pub given : given (days_off k ss) ≡ days_off k ss
  pub alike : use_of (days_off k ss) ≡ use_of ss
  pub spent : spent (days_off k ss) ≡ days_off (suc k) ss

pub goes_on : (k : ℕ) (ss : List Slot) → given ss ≡ ss → ((holder ss ≡ 0 → ⊥) → k < part_days (slot_at ss (holder ss)).job) → Goes k ss
goes_on k ss settled yet = go (holder-choice ss)
  where
    go : Choice (λ s. on_bank s.job) none_ahead ss (length ss) (holder ss) → Goes k ss
    go (inl c) =
        let off = days_off-free k ss c.0 in
        record {
          given = rw off settled;
          alike = ap use_of off;
          spent = ap spent off ∙ spent-free ss c.0 ∙ sym (days_off-free (suc k) ss c.0);
        }
    go (inr c) =
        let h = c.0 in
        let few : k < part_days (at ss h).job = rw (ap (slot_at ss) c.1 ∙ slot_at-suc ss h) at (yet (λ z. omega (arith, c.1))) in
        let off = off-is k ss h c.1 c.2 few k in
        record {
          given = rw off (held-given k ss h c.1 c.2 few);
          alike = ap use_of off ∙ held-use k ss h c.1 c.2 few;
          spent = ap spent off ∙ held-spent k ss h c.1 c.2 few;
        }
