-- Steps 3 to 5 at the places that the code has found.
use Rattle.base.proofs.Prelude.{ℕ, ◌≤◌, ◌≡◌, sym, List, arith, length}
use Rattle.std.specs.Prelude.{Option, None, Some, unwrap_or, IfSome, true, false}
use Rattle.std.specs.Option.{is_some}
use Rattle.days.specs.declared.Day.{Day}
use Rattle.rules.specs.{declared.Plan.Plan, declared.Slot.Slot, declared.Job.Job, Run.{slot_at, with_job, holder, may_take, due_before, chosen, payer, stopped, charge, taken, next_up, seated, given, used_for, use_of}}
use Rattle.laws.proofs.Steps.{taken-over, given-next, use_of-held}
use Rattle.stretch.specs.Stretch.{spent_by, days_off}
use Rattle.stretch.proofs.Spending.{days_off-held}

-- whether somebody was found
pub found_none : (o : Option ℕ) (k : ℕ) → is_some o ≡ false → unwrap_or o 0 ≡ k → k ≡ 0
found_none None k none is = sym is
found_none (Some i) k none is = cc

pub found-some : (o : Option ℕ) (k n : ℕ) → is_some o ≡ true → unwrap_or o 0 ≡ k → IfSome o (λ i. (1 ≤ i) × (i ≤ n)) → k ≡ 0 → ⊥
found-some None k n some is low z = cc
found-some (Some i) k n some is low z = omega (arith, low.0)

module _ (ss : List Slot) where
  -- the deadline asked about is that of the job on the bank
  pub payer-asked : (day due : Day) → due.0 ≡ (slot_at ss (holder ss)).deadline.0
      → chosen (may_take day.0 due.0) due_before ss (length ss) ≡ payer day.0 ss
  unfolding payer
  payer-asked day due same = rw same

  -- step 3: h holds the bank and q pays
  pub taken-by : (p : Plan) (t h q : ℕ) (job : Job) → h ≡ holder ss → 1 ≤ h → q ≡ payer t ss → 1 ≤ q
      → job ≡ stopped (slot_at ss h).job → charge p (with_job ss h job) q ≡ taken p t ss
  taken-by p t h q job holds low pays paid stops =
      rw (stops, holds, pays) (sym (taken-over p t ss (λ z. omega arith) (λ z. omega arith)))

  -- step 4: q is next
  pub given-by : (q : ℕ) (job : Job) → holder ss ≡ 0 → q ≡ next_up ss → 1 ≤ q → job ≡ seated (slot_at ss q).job
      → with_job ss q job ≡ given ss
  given-by q job free goes some seats = rw (seats, goes) (sym (given-next ss free (λ z. omega arith)))

  -- step 5 on k days: h holds the bank
  module _ (h : ℕ) (holds : h ≡ holder ss) (some : 1 ≤ h) where
    held : holder ss ≡ 0 → ⊥
    held z = omega arith

    pub days_off-by : (k : ℕ) (job : Job) → job ≡ spent_by k (slot_at ss h).job → with_job ss h job ≡ days_off k ss
    days_off-by k job spends = rw (spends, holds) (sym (days_off-held k ss held))

    pub use_of-by : used_for h (slot_at ss h).serves (slot_at ss h).job ≡ use_of ss
    use_of-by = rw holds (sym (use_of-held ss held))
