-- Laws of the steps of a day: each step by its cases, and the places that they name lie among the slots.
use Rattle.base.proofs.Prelude.{ℕ, ◌≤◌, ◌≡◌, List, eq-eqb, ne_eqb, length}
use Rattle.rules.specs.{declared.Plan.Plan, declared.Slot.Slot, declared.Use.TheVariants.Idle, Run.{slot_at, with_job, on_bank, waits, none_ahead, may_take, due_before, goes_first, holder, payer, stop, charge, taken, next_up, seated, given, used_for, use_of, spent_job, spent}}
use Rattle.laws.proofs.Choice.{chosen-le}

-- ---- The cases of each step

pub taken_free : (p : Plan) (t : ℕ) (ss : List Slot) → holder ss ≡ 0 → taken p t ss ≡ ss
unfolding taken
taken_free p t ss z = rw (eq-eqb _ 0 z)

pub taken-kept : (p : Plan) (t : ℕ) (ss : List Slot) → (holder ss ≡ 0 → ⊥) → payer t ss ≡ 0 → taken p t ss ≡ ss
unfolding taken
taken-kept p t ss held z = rw (ne_eqb _ 0 held, eq-eqb _ 0 z)

pub taken-over : (p : Plan) (t : ℕ) (ss : List Slot) → (holder ss ≡ 0 → ⊥) → (payer t ss ≡ 0 → ⊥)
    → taken p t ss ≡ charge p (stop ss (holder ss)) (payer t ss)
unfolding taken
taken-over p t ss held paid = rw (ne_eqb _ 0 held, ne_eqb _ 0 paid)

pub given-held : (ss : List Slot) → (holder ss ≡ 0 → ⊥) → given ss ≡ ss
unfolding given
given-held ss held = rw (ne_eqb _ 0 held)

pub given-nobody : (ss : List Slot) → holder ss ≡ 0 → next_up ss ≡ 0 → given ss ≡ ss
unfolding given
given-nobody ss free z = rw (eq-eqb _ 0 free, eq-eqb _ 0 z)

pub given-next : (ss : List Slot) → holder ss ≡ 0 → (next_up ss ≡ 0 → ⊥)
    → given ss ≡ with_job ss (next_up ss) (seated (slot_at ss (next_up ss)).job)
unfolding given
given-next ss free some = rw (eq-eqb _ 0 free, ne_eqb _ 0 some)

pub use_of-free : (ss : List Slot) → holder ss ≡ 0 → use_of ss ≡ Idle
unfolding use_of
use_of-free ss free = rw (eq-eqb _ 0 free)

pub use_of-held : (ss : List Slot) → (holder ss ≡ 0 → ⊥)
    → use_of ss ≡ used_for (holder ss) (slot_at ss (holder ss)).serves (slot_at ss (holder ss)).job
unfolding use_of
use_of-held ss held = rw (ne_eqb _ 0 held)

pub spent-free : (ss : List Slot) → holder ss ≡ 0 → spent ss ≡ ss
unfolding spent
spent-free ss free = rw (eq-eqb _ 0 free)

pub spent-held : (ss : List Slot) → (holder ss ≡ 0 → ⊥) → spent ss ≡ with_job ss (holder ss) (spent_job (slot_at ss (holder ss)).job)
unfolding spent
spent-held ss held = rw (ne_eqb _ 0 held)

-- ---- Places

pub holder-le : (ss : List Slot) → holder ss ≤ length ss
unfolding holder
holder-le ss = chosen-le (λ s. on_bank s.job) none_ahead ss (length ss)

pub payer-le : (t : ℕ) (ss : List Slot) → payer t ss ≤ length ss
unfolding payer
payer-le t ss = chosen-le (may_take t (slot_at ss (holder ss)).deadline.0) due_before ss (length ss)

pub next_up-le : (ss : List Slot) → next_up ss ≤ length ss
unfolding next_up
next_up-le ss = chosen-le (λ s. waits s.job) goes_first ss (length ss)
