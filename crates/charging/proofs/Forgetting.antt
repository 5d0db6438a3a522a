-- A day of the run looks at a moving cost only where a payer is charged: with the costs forgotten every step does the same.
--     unpriced s            the slot s with its string's moving cost forgotten
use Rattle.base.proofs.Prelude.{ℕ, zero, suc, ◌-◌, ◌≡◌, refl, sym, ap, ◌∙◌, Bool, List, [], ◌∷◌, map, eqb, length, set, length-map, get_or-map}
use lib.Seq.{map-set_same}
use Rattle.rules.specs.{declared.Slot.Slot, declared.Job.Job, Run.{chosen, slot_at, no_slot, put_job, with_job, none_ahead, on_bank, waits, late_slot, late_at, holder, may_take, due_before, payer, goes_first, next_up, seated, given, use_of, spent_job, spent}}
use Rattle.base.proofs.Lists.{by_bool}
use Rattle.laws.proofs.Slots.{at}
use Rattle.exact.specs.Missing.{moved_freely}

abbrev pub unpriced : Slot → Slot
unpriced s =
    record { string = moved_freely s.string; job = s.job; release = s.release; deadline = s.deadline; serves = s.serves }

at-unpriced : (ss : List Slot) (j : ℕ) → at (map unpriced ss) j ≡ unpriced (at ss j)
at-unpriced ss j = get_or-map unpriced ss j no_slot

pub set-unpriced : (ss : List Slot) (i : ℕ) (s : Slot) → map unpriced (set ss i s) ≡ set (map unpriced ss) i (unpriced s)
set-unpriced [] i s = refl
set-unpriced (r ∷ ss) zero s = refl
set-unpriced (r ∷ ss) (suc i) s = ap (λ rest. unpriced r ∷ rest) (set-unpriced ss i s)

-- another job leaves every string as it is
pub job-string : (ss : List Slot) (i k : ℕ) (j : Job) → (slot_at (with_job ss i j) k).string ≡ (slot_at ss k).string
job-string ss i k j =
    let same = map-set_same (λ s. s.string) ss (i - 1) (put_job (slot_at ss i) j) no_slot refl in
    sym (get_or-map (λ s. s.string) (with_job ss i j) (k - 1) no_slot) ∙ rw same (get_or-map (λ s. s.string) ss (k - 1) no_slot)

-- ---- Choices

module _ (ok : Slot → Bool) (ahead : Slot → Slot → Bool) (ok_same : (s : Slot) → ok (unpriced s) ≡ ok s)
    (ahead-same : (s r : Slot) → ahead (unpriced s) (unpriced r) ≡ ahead s r) (ss : List Slot) where
  chosen-unpriced : (k : ℕ) → chosen ok ahead (map unpriced ss) k ≡ chosen ok ahead ss k
  unfolding chosen
  chosen-unpriced zero = refl
  chosen-unpriced (suc k) =
      let before = chosen ok ahead ss k in
      rw (
        chosen-unpriced k,
        at-unpriced ss k,
        at-unpriced ss (before - 1),
        ok_same (at ss k),
        ahead-same (at ss k) (slot_at ss before),
      )

  all-unpriced : chosen ok ahead (map unpriced ss) (length (map unpriced ss)) ≡ chosen ok ahead ss (length ss)
  all-unpriced = chosen-unpriced (length (map unpriced ss)) ∙ ap (chosen ok ahead ss) (length-map ss unpriced)

module _ (ss : List Slot) where
  pub late-unpriced : (t : ℕ) → late_at t (map unpriced ss) ≡ late_at t ss
  unfolding late_at
  late-unpriced t = all-unpriced (late_slot t) none_ahead (λ s. refl) (λ s r. refl) ss

  pub holder-unpriced : holder (map unpriced ss) ≡ holder ss
  unfolding holder
  holder-unpriced = all-unpriced (λ s. on_bank s.job) none_ahead (λ s. refl) (λ s r. refl) ss

  pub payer-unpriced : (t : ℕ) → payer t (map unpriced ss) ≡ payer t ss
  unfolding payer
  payer-unpriced t =
      rw (holder-unpriced, at-unpriced ss (holder ss - 1))
      (all-unpriced (may_take t (slot_at ss (holder ss)).deadline.0) due_before (λ s. refl) (λ s r. refl) ss)

  next-unpriced : next_up (map unpriced ss) ≡ next_up ss
  unfolding next_up
  next-unpriced = all-unpriced (λ s. waits s.job) goes_first (λ s. refl) (λ s r. refl) ss

  -- ---- Steps 4 and 5

  -- the job at a place is made another, which the job there decides
  pub turned-unpriced : (f : Job → Job) (i : ℕ)
      → map unpriced (with_job ss i (f (slot_at ss i).job)) ≡ with_job (map unpriced ss) i (f (slot_at (map unpriced ss) i).job)
  turned-unpriced f i = rw (at-unpriced ss (i - 1)) (set-unpriced ss (i - 1) _)

  pub given-unpriced : map unpriced (given ss) ≡ given (map unpriced ss)
  unfolding given
  given-unpriced =
      rw (holder-unpriced, next-unpriced)
      (by_bool (eqb (holder ss) 0)
      (λ free. rw free (by_bool (eqb (next_up ss) 0) (λ none. rw none) (λ some. rw some (turned-unpriced seated (next_up ss)))))
      (λ held. rw held))

  pub spent-unpriced : map unpriced (spent ss) ≡ spent (map unpriced ss)
  unfolding spent
  spent-unpriced =
      rw holder-unpriced
      (by_bool (eqb (holder ss) 0) (λ free. rw free) (λ held. rw held (turned-unpriced spent_job (holder ss))))

  pub use-unpriced : use_of (map unpriced ss) ≡ use_of ss
  unfolding use_of
  use-unpriced = rw (holder-unpriced, at-unpriced ss (holder ss - 1))
