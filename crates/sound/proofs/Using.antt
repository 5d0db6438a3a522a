-- Steps 4 and 5 by place: all slots are empty and the day is idle; or one job uses it, which held the bank or is due first of those
-- that wait.
use Rattle.base.proofs.Prelude.{ℕ, suc, ◌+◌, ◌-◌, ◌≤◌, ◌<◌, ◌≡◌, refl, sym, ap, ◌∙◌, ◌⊎◌, inl, inr, ◌≢◌, true, false, List, arith, ℕ_discrete, eqb-true, eqb-false, ltb-true, ltb-false, eqb, ltb, length}
use Rattle.days.specs.{declared.Length.Length, Days.days}
use Rattle.rules.specs.{declared.Slot.Slot, declared.Job.Job, declared.Job.TheVariants.{Empty, Waiting, OnBank}, declared.Use.Use, declared.Use.TheVariants.Idle, Run.{slot_at, none_ahead, on_bank, waits, left, holder, next_up, goes_first, seated, given, spent_job, on_or_gone, spent, used_for, use_of, with_job, put_job}}
use Rattle.base.proofs.Lists.{by_bool, true-not-false}
use Rattle.laws.proofs.{Slots.{at, slot_at-suc, change-length, change-same, change-other}, Steps.{given-held, given-nobody, given-next, use_of-free, use_of-held, spent-free, spent-held}, Choice.{Nobody, One, Choice}}
use Rattle.laws.proofs.Choices.{holder-choice, next_up-choice, goes_first-not}

-- ---- Jobs

seated-on : (job : Job) → on_bank job ≡ true → seated job ≡ job
seated-on Empty o = refl
seated-on (Waiting w m) o = absurd (true-not-false (sym o))
seated-on (OnBank w m) o = refl

waits-seated : (job : Job) → waits job ≡ true → on_bank (seated job) ≡ true
waits-seated Empty w = w
waits-seated (Waiting a b) w = refl
waits-seated (OnBank a b) w = refl

pub neither-empty : (job : Job) → waits job ≡ false → on_bank job ≡ false → job ≡ Empty
neither-empty Empty w o = refl
neither-empty (Waiting a b) w o = absurd (true-not-false w)
neither-empty (OnBank a b) w o = absurd (true-not-false o)

pub left-empty : (job : Job) → job ≡ Empty → left job ≡ 0
left-empty job e = ap left e

on_or_gone-left : (w m : Length) → left (on_or_gone w m) ≡ w.0 + m.0
on_or_gone-left w m = by_bool (eqb (w.0 + m.0) 0) (λ t. rw t (sym (eqb-true _ _ t))) (λ f. rw f)

-- a day is used
spent-left-on : (w m : Length) → 1 ≤ w.0 + m.0 → suc (left (spent_job (OnBank w m))) ≡ w.0 + m.0
spent-left-on w m h =
    by_bool (ltb 0 m.0)
    (λ t.
    let moving : 0 < m.0 = ltb-true _ _ t in
    rw t (omega (arith, on_or_gone-left w (days (m.0 - 1)))))
    (λ f.
    let still : m.0 ≤ 0 = ltb-false _ _ f in
    rw f (omega (arith, on_or_gone-left (days (w.0 - 1)) m)))

pub spent-left : (job : Job) → 1 ≤ left job → suc (left (spent_job (seated job))) ≡ left job
spent-left Empty h = absurd (omega arith)
spent-left (Waiting w m) h = spent-left-on w m h
spent-left (OnBank w m) h = spent-left-on w m h

-- gone, or on the bank with something left
abbrev pub GoneOrOn : Job → Type 0
GoneOrOn job = (job ≡ Empty) ⊎ ((on_bank job ≡ true) × (1 ≤ left job))

on_or_gone-cases : (w m : Length) → GoneOrOn (on_or_gone w m)
on_or_gone-cases w m =
    by_bool (eqb (w.0 + m.0) 0)
    (λ t. inl (rw t))
    (λ f.
    let some : w.0 + m.0 ≢ 0 = eqb-false _ _ f in
    inr (rw f, rw f (omega arith)))

spent-cases-on : (w m : Length) → GoneOrOn (spent_job (OnBank w m))
spent-cases-on w m =
    by_bool (ltb 0 m.0) (λ t. rw t (on_or_gone-cases w (days (m.0 - 1)))) (λ f. rw f (on_or_gone-cases (days (w.0 - 1)) m))

pub spent-cases : (job : Job) → GoneOrOn (spent_job (seated job))
spent-cases Empty = inl refl
spent-cases (Waiting w m) = spent-cases-on w m
spent-cases (OnBank w m) = spent-cases-on w m

-- ---- The day's user

-- h uses the day: ks are the slots before steps 4 and 5, es those after, u is what the bank does
pub record Used (ks es : List Slot) (u : Use) (h : ℕ) : Type 0 where
  pub within : h < length ks
  pub turn : at es h ≡ put_job (at ks h) (spent_job (seated (at ks h).job))
  pub rest : (i : ℕ) → i ≢ h → at es i ≡ at ks i
  pub use-is : u ≡ used_for (suc h) (at ks h).serves (seated (at ks h).job)
  pub size : length es ≡ length ks

pub data Using (ks es : List Slot) (u : Use) : Type 0 where
  idle_day : ((i : ℕ) → i < length ks → (at ks i).job ≡ Empty) → es ≡ ks → u ≡ Idle → Using ks es u
  kept_day : (h : ℕ) → on_bank (at ks h).job ≡ true → Used ks es u h → Using ks es u
  given_day : (h : ℕ) → Nobody (λ s. on_bank s.job) ks (length ks) → waits (at ks h).job ≡ true
      → ((i : ℕ) → i < length ks → waits (at ks i).job ≡ true → (at ks h).deadline.0 ≤ (at ks i).deadline.0) → Used ks es u h
      → Using ks es u

-- the holder uses the day
module _ (gs : List Slot) (h : ℕ) (e : holder gs ≡ suc h) where
  spent-is : spent gs ≡ with_job gs (suc h) (spent_job (slot_at gs (suc h)).job)
  spent-is = spent-held gs (λ z. omega arith) ∙ rw e

  spent-same : h < length gs → at (spent gs) h ≡ put_job (at gs h) (spent_job (at gs h).job)
  spent-same k = ap (λ es. at es h) spent-is ∙ change-same (λ s. spent_job s.job) gs h k

  spent-other : (i : ℕ) → i ≢ h → at (spent gs) i ≡ at gs i
  spent-other i k = ap (λ es. at es i) spent-is ∙ change-other (λ s. spent_job s.job) gs h i k

  spent-length : length (spent gs) ≡ length gs
  spent-length = ap length spent-is ∙ change-length (λ s. spent_job s.job) gs h

  use_of-is : use_of gs ≡ used_for (suc h) (at gs h).serves (at gs h).job
  use_of-is = use_of-held gs (λ z. omega arith) ∙ rw (e, slot_at-suc gs h)

module _ (ks : List Slot) where
  -- ---- The bank is held

  held-used : (h : ℕ) → holder ks ≡ suc h → One (λ s. on_bank s.job) none_ahead ks (length ks) h → Used ks (spent ks) (use_of ks) h
  held-used h e one =
      let same : seated (at ks h).job ≡ (at ks h).job = seated-on (at ks h).job one.passes in
      record {
        within = one.within;
        turn = rw same (spent-same ks h e one.within);
        rest = spent-other ks h e;
        use-is = rw same (use_of-is ks h e);
        size = spent-length ks h e;
      }

  held-using : (h : ℕ) → holder ks ≡ suc h → One (λ s. on_bank s.job) none_ahead ks (length ks) h
      → Using ks (spent (given ks)) (use_of (given ks))
  held-using h e one = rw (given-held ks (λ z. omega arith)) (kept_day h one.passes (held-used h e one))

  -- ---- The bank is free

  module _ (free : holder ks ≡ 0) (none : Nobody (λ s. on_bank s.job) ks (length ks)) where
    idle-using : next_up ks ≡ 0 → Nobody (λ s. waits s.job) ks (length ks) → Using ks (spent (given ks)) (use_of (given ks))
    idle-using z none_waits =
        rw (given-nobody ks free z)
        (idle_day (λ i h. neither-empty (at ks i).job (none_waits i h) (none i h)) (spent-free ks free) (use_of-free ks free))

    module _ (g : ℕ) (z : next_up ks ≡ suc g) (one : One (λ s. waits s.job) goes_first ks (length ks) g) where
      given_is : given ks ≡ with_job ks (suc g) (seated (slot_at ks (suc g)).job)
      given_is = given-next ks free (λ w. omega arith) ∙ rw z

      given-same : at (given ks) g ≡ put_job (at ks g) (seated (at ks g).job)
      given-same = ap (λ gs. at gs g) given_is ∙ change-same (λ s. seated s.job) ks g one.within

      given-other : (i : ℕ) → i ≢ g → at (given ks) i ≡ at ks i
      given-other i k = ap (λ gs. at gs i) given_is ∙ change-other (λ s. seated s.job) ks g i k

      given-length : length (given ks) ≡ length ks
      given-length = ap length given_is ∙ change-length (λ s. seated s.job) ks g

      given-on : on_bank (at (given ks) g).job ≡ true
      given-on = ap (λ s. on_bank s.job) given-same ∙ waits-seated (at ks g).job one.passes

      given-holder : holder (given ks) ≡ suc g
      given-holder = go (holder-choice (given ks))
        where
          go : Choice (λ s. on_bank s.job) none_ahead (given ks) (length (given ks)) (holder (given ks)) → holder (given ks) ≡ suc g
          go (inl c) = absurd (true-not-false (sym given-on ∙ c.1 g (omega (arith, given-length, one.within))))
          go (inr c) =
              elim (ℕ_discrete c.0 g) [
                | yes same ↦ c.1 ∙ ap suc same
                | no other ↦
                    absurd
                    (true-not-false
                    (sym c.2.passes
                    ∙ ap (λ s. on_bank s.job) (given-other c.0 other)
                    ∙ none c.0 (omega (arith, given-length, c.2.within))))
              ]

      given-used : Used ks (spent (given ks)) (use_of (given ks)) g
      given-used =
          record {
            within = one.within;
            turn =
                spent-same (given ks) g given-holder (omega (arith, given-length, one.within))
                ∙ ap (λ s. put_job s (spent_job s.job)) given-same;
            rest = λ i k. spent-other (given ks) g given-holder i k ∙ given-other i k;
            use-is = use_of-is (given ks) g given-holder ∙ ap (λ s. used_for (suc g) s.serves s.job) given-same;
            size = spent-length (given ks) g given-holder ∙ given-length;
          }

      given-using : Using ks (spent (given ks)) (use_of (given ks))
      given-using =
          given_day g none one.passes (λ i h w. goes_first-not (at ks i) (at ks g) (one.first i h w)) given-used

  pub spent-using : Using ks (spent (given ks)) (use_of (given ks))
  spent-using = by-holder (holder-choice ks)
    where
      by_next : holder ks ≡ 0 → Nobody (λ s. on_bank s.job) ks (length ks)
          → Choice (λ s. waits s.job) goes_first ks (length ks) (next_up ks)
          → Using ks (spent (given ks)) (use_of (given ks))
      by_next free none (inl c) = idle-using free none c.0 c.1
      by_next free none (inr c) = given-using free none c.0 c.1 c.2

      by-holder : Choice (λ s. on_bank s.job) none_ahead ks (length ks) (holder ks) → Using ks (spent (given ks)) (use_of (given ks))
      by-holder (inl c) = by_next c.0 c.1 (next_up-choice ks)
      by-holder (inr c) = held-using c.0 c.1 c.2
