-- What holds of every refusal that a check can give holds of a chain of checks if it holds of each.
--     Refusals P c          the fault and the place with which c refuses, if it does, meet P
use Rattle.base.proofs.Prelude.{ℕ, Bool, true, false}
use Rattle.faults.specs.Checks.{Checked}
use Rattle.std.specs.Prelude.{Ok, Err}
use Rattle.faults.specs.declared.Fault.{Fault}
use Rattle.faults.specs.Checks.{then, refuse_if}

abbrev pub Refusals : (Fault → ℕ → Type 0) → Checked → Type 0
Refusals P (Ok _) = Unit {0}
Refusals P (Err e) = P e.fault e.at

module _ (P : Fault → ℕ → Type 0) where
  pub refusals-then : (a b : Checked) → Refusals P a → Refusals P b → Refusals P (then a b)
  refusals-then (Ok _) b first second = second
  refusals-then (Err e) b first second = first

  pub refusals-if : (bad : Bool) (f : Fault) (at : ℕ) → P f at → Refusals P (refuse_if bad f at)
  refusals-if true f at h = h
  refusals-if false f at h = tt

  pub refusals-map : (Q : Fault → ℕ → Type 0) → ((f : Fault) (at : ℕ) → P f at → Q f at) → (c : Checked) → Refusals P c → Refusals Q c
  refusals-map Q so (Ok _) h = tt
  refusals-map Q so (Err e) h = so e.fault e.at h
