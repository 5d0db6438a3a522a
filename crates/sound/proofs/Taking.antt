-- Step 3 by place: the bank is free, or its holder keeps it since nobody may take it, or the holder is stopped and the payer charged.
use Rattle.base.proofs.Prelude.{ℕ, suc, ◌<◌, ◌≡◌, sym, ap, ◌∙◌, subst, inl, inr, ◌≢◌, ◌↔◌, true, ◌&&◌, List, arith, eqb-true, eq-eqb, ne_eqb, lt-ltb, ltb-true, eqb, ltb, length}
use Rattle.rules.specs.{declared.Plan.Plan, declared.Slot.Slot, declared.Job.Job, declared.Job.TheVariants.{Empty, Waiting, OnBank}, Demand.moving_cost, Run.{slot_at, none_ahead, on_bank, waits, holder, may_take, due_before, payer, stopped, charged, stop, charge, taken, put_job}}
use Rattle.base.proofs.Lists.{true-not-false, and_left, and_right}
use Rattle.sound.specs.Served.{payer_in}
use Rattle.laws.proofs.{Slots.{at, slot_at-suc, change-length, change-same, change-other}, Steps.{taken_free, taken-kept, taken-over}, Choice.{Nobody, One, Choice}}
use Rattle.laws.proofs.Choices.{holder-choice, payer-choice}

waits-not-on : (job : Job) → waits job ≡ true → on_bank job ≡ true → ⊥
waits-not-on Empty w o = true-not-false (sym o)
waits-not-on (Waiting a b) w o = true-not-false (sym o)
waits-not-on (OnBank a b) w o = true-not-false (sym w)

-- who may take the bank
pub record Taker (t : ℕ) (h s : Slot) : Type 0 where
  pub waiting : waits s.job ≡ true
  pub today : s.release.0 ≡ t
  pub allowed : s.string.x ≡ 1
  pub sooner : s.deadline.0 < h.deadline.0

pub may_take-exactly : (t : ℕ) (h s : Slot) → (may_take t h.deadline.0 s ≡ true) ↔ Taker t h s
may_take-exactly t h s = (
  (λ e.
      let W = waits s.job in
      let T = eqb s.release.0 t in
      let X = eqb s.string.x 1 in
      let D = ltb s.deadline.0 h.deadline.0 in
      let wtx = and_left (W && T && X) D e in
      let wt = and_left (W && T) X wtx in
      record {
        waiting = and_left W T wt;
        today = eqb-true _ _ (and_right W T wt);
        allowed = eqb-true _ _ (and_right (W && T) X wtx);
        sooner = ltb-true _ _ (and_right (W && T && X) D e);
      }),
  λ k. rw (k.waiting, eq-eqb s.release.0 t k.today, eq-eqb s.string.x 1 k.allowed) (lt-ltb _ _ k.sooner),
)

-- the holder h is stopped and the payer q is charged
pub record Took (p : Plan) (t : ℕ) (ss ks : List Slot) (h q : ℕ) : Type 0 where
  pub holder_in : h < length ss
  pub payer_place : q < length ss
  pub holds : on_bank (at ss h).job ≡ true
  pub takes : Taker t (at ss h) (at ss q)
  pub stops : at ks h ≡ put_job (at ss h) (stopped (at ss h).job)
  pub pays : at ks q ≡ put_job (at ss q) (charged (moving_cost p (at ss q).string) (at ss q).job)
  pub rest : (i : ℕ) → i ≢ h → i ≢ q → at ks i ≡ at ss i

-- ss are the slots before, ks those after; payer is the place of the payer
pub data Taking (p : Plan) (t : ℕ) (ss ks : List Slot) (payer : ℕ) : Type 0 where
  bank_free : Nobody (λ s. on_bank s.job) ss (length ss) → ks ≡ ss → payer ≡ 0 → Taking p t ss ks payer
  bank_kept : (h : ℕ) → h < length ss → on_bank (at ss h).job ≡ true → Nobody (may_take t (at ss h).deadline.0) ss (length ss) → ks ≡ ss
      → payer ≡ 0
      → Taking p t ss ks payer
  bank_taken : (h q : ℕ) → Took p t ss ks h q → length ks ≡ length ss → payer ≡ suc q → Taking p t ss ks payer

-- ---- The step

-- what paying makes of the job in a slot
abbrev pay : Plan → Slot → Job
pay p s = charged (moving_cost p s.string) s.job

abbrev pub charged_slot : Plan → Slot → Slot
charged_slot p s = put_job s (pay p s)

module _ (p : Plan) (t : ℕ) (ss : List Slot) where
  free-taking : holder ss ≡ 0 → Nobody (λ s. on_bank s.job) ss (length ss) → Taking p t ss (taken p t ss) (payer_in t ss)
  unfolding payer_in
  free-taking e none = bank_free none (taken_free p t ss e) (rw (eq-eqb (holder ss) 0 e))

  module _ (h : ℕ) (e : holder ss ≡ suc h) (one : One (λ s. on_bank s.job) none_ahead ss (length ss) h) where
    held : holder ss ≢ 0
    held z = omega arith

    held-slot : slot_at ss (holder ss) ≡ at ss h
    held-slot = ap (slot_at ss) e ∙ slot_at-suc ss h

    payer_in-is : payer_in t ss ≡ payer t ss
    unfolding payer_in
    payer_in-is = rw (ne_eqb (holder ss) 0 held)

    kept-taking : payer t ss ≡ 0 → Nobody (may_take t (slot_at ss (holder ss)).deadline.0) ss (length ss)
        → Taking p t ss (taken p t ss) (payer_in t ss)
    kept-taking z none =
        bank_kept h one.within one.passes (rw held-slot at none) (taken-kept p t ss held z) (payer_in-is ∙ z)

    took-is : (q : ℕ) → payer t ss ≡ suc q → taken p t ss ≡ charge p (stop ss (suc h)) (suc q)
    took-is q z = taken-over p t ss held (λ w. omega arith) ∙ rw (e, z)

    took-apart : (q : ℕ) → Taker t (at ss h) (at ss q) → q ≢ h
    took-apart q k same =
        waits-not-on (at ss q).job k.waiting (subst (λ i. on_bank (at ss i).job ≡ true) (sym same) one.passes)

    took-record : (q : ℕ) → payer t ss ≡ suc q → q < length ss → Taker t (at ss h) (at ss q) → Took p t ss (taken p t ss) h q
    took-record q z k taker =
        let apart = took-apart q taker in
        let shape = took-is q z in
        record {
          holder_in = one.within;
          payer_place = k;
          holds = one.passes;
          takes = taker;
          stops =
              ap (λ ks. at ks h) shape ∙ change-other (pay p) (stop ss (suc h)) q h (λ same. apart (sym same))
              ∙ change-same (λ s. stopped s.job) ss h one.within;
          pays =
              ap (λ ks. at ks q) shape
              ∙ change-same (pay p) (stop ss (suc h)) q (omega (arith, change-length (λ s. stopped s.job) ss h))
              ∙ ap (charged_slot p) (change-other (λ s. stopped s.job) ss h q apart);
          rest =
              λ i a b. ap (λ ks. at ks i) shape ∙ change-other (pay p) (stop ss (suc h)) q i b ∙ change-other
              (λ s. stopped s.job) ss h i a;
        }

    took-taking : (q : ℕ) → payer t ss ≡ suc q → One (may_take t (slot_at ss (holder ss)).deadline.0) due_before ss (length ss) q
        → Taking p t ss (taken p t ss) (payer_in t ss)
    took-taking q z o =
        let taker : Taker t (at ss h) (at ss q) = (may_take-exactly t (at ss h) (at ss q)).0 (rw held-slot at o.passes) in
        bank_taken h q (took-record q z o.within taker)
        (ap length (took-is q z) ∙ change-length (pay p) (stop ss (suc h)) q ∙ change-length (λ s. stopped s.job) ss h)
        (payer_in-is ∙ z)

  pub taken-taking : Taking p t ss (taken p t ss) (payer_in t ss)
  taken-taking = by-holder (holder-choice ss)
    where
      by-payer : (h : ℕ) → holder ss ≡ suc h → One (λ s. on_bank s.job) none_ahead ss (length ss) h
          → Choice (may_take t (slot_at ss (holder ss)).deadline.0) due_before ss (length ss) (payer t ss)
          → Taking p t ss (taken p t ss) (payer_in t ss)
      by-payer h e one (inl c) = kept-taking h e one c.0 c.1
      by-payer h e one (inr c) = took-taking h e one c.0 c.1 c.2

      by-holder : Choice (λ s. on_bank s.job) none_ahead ss (length ss) (holder ss) → Taking p t ss (taken p t ss) (payer_in t ss)
      by-holder (inl c) = free-taking c.0 c.1
      by-holder (inr c) = by-payer c.0 c.1 c.2 (payer-choice t ss)
