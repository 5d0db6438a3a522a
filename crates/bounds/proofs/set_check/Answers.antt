-- n and N decide first, so that n is at most ten where the set is looked at
use Rattle.base.proofs.Prelude.{ℕ, ◌^◌, ◌≤◌, ◌≡◌, sym, ◌∙◌, arith, le-leb}
use Rattle.faults.specs.declared.Fault.TheVariants.{OutOfBounds}
use Rattle.faults.specs.Checks.{Refused, Lawful}
use Rattle.faults.proofs.Checks.{then-lawful}
use Rattle.rules.specs.{declared.Plan.Plan, Refusal.{head_check, set_check}}
use Rattle.laws.proofs.{Lawful.head_check-lawful, Powers.shift-is-sets}
use Rattle.bounds.proofs.set_check.Goals as goal

module _ (p : Plan) (m : ℕ) (h : Lawful ≡ head_check 0 p.n p.run.0) where
  few : p.n ≤ 10
  few = (head_check-lawful _ _ _ (sym h)).n_max

  set-refuses : 2 ^ p.n ≤ m → set_check p m ≡ Refused OutOfBounds 0
  unfolding set_check
  set-refuses k = then-lawful _ _ (sym h) ∙ rw (le-leb (2 ^ p.n) m k)

pub overflow_cast-p : goal.overflow_cast-p
overflow_cast-p c = omega (arith, few c.args.p c.args.set c.in_ok-head_check.ensures.exact)

pub overflow_shl-p : goal.overflow_shl-p
overflow_shl-p c = omega (arith, few c.args.p c.args.set c.in_ok-head_check.ensures.exact)

pub returns-then-p-set : goal.returns-then-p-set
returns-then-p-set c =
    let ten = few c.args.p c.args.set c.in_ok-head_check.ensures.exact in
    record {
      exact = sym (set-refuses c.args.p c.args.set c.in_ok-head_check.ensures.exact (omega (arith, shift-is-sets c.args.p.n ten)));
    }
