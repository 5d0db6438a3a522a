-- The refusal of a plan in another order: both plans are within their bounds, or both are refused by one number. The place named may
-- differ: the string outside its bounds stands elsewhere.
use Rattle.base.proofs.Prelude.{ℕ, suc, ◌≡◌, refl, sym, ap, ◌∙◌, true, false, List, [], ◌∷◌, ltb}
use Rattle.faults.specs.Checks.{Refused, Lawful, Checked}
use Rattle.std.specs.Prelude.{Ok, Err}
use mathlib.Core.Path.{ap₂}
use Rattle.faults.specs.declared.Fault.TheVariants.{OutOfBounds, MultipleOver}
use Rattle.faults.specs.Checks.{then, refuse_if}
use Rattle.days.specs.declared.Length.{Length}
use Rattle.base.specs.Count.{every}
use Rattle.base.proofs.Lists.{by_bool, true-not-false}
use Rattle.rules.specs.{declared.BatteryString.BatteryString, declared.Plan.Plan, Plan.{strings_of, string_lawful}, Refusal.{head_check, strings_check, multiple_check, plan_check}}
use Rattle.results.specs.Order.{Reordered, SameFault, both_lawful, both_refused}
use Rattle.results.proofs.{Permuted.every-permuted, SameVerdict.same-multiple}

strings-lawful : (k : ℕ) (ss : List BatteryString) → every string_lawful ss ≡ true → strings_check k ss ≡ Lawful
unfolding every strings_check
strings-lawful k [] all = refl
strings-lawful k (s ∷ ss) all =
    by_bool (string_lawful s) (λ t. rw t (strings-lawful (suc k) ss (rw t at all))) (λ e. absurd (not-all e))
  where
    not-all : string_lawful s ≡ false → ⊥
    not-all e = true-not-false (sym (rw e at all))

strings-refused : (k : ℕ) (ss : List BatteryString) → every string_lawful ss ≡ false
    → (at : ℕ) × (strings_check k ss ≡ Refused OutOfBounds at)
unfolding every strings_check
strings-refused k [] some = absurd (true-not-false some)
strings-refused k (s ∷ ss) some =
    by_bool (string_lawful s) (λ t. later t (strings-refused (suc k) ss (rw t at some))) (λ e. (k, rw e))
  where
    later : string_lawful s ≡ true → (at : ℕ) × (strings_check (suc k) ss ≡ Refused OutOfBounds at)
        → (at : ℕ) × (strings_check k (s ∷ ss) ≡ Refused OutOfBounds at)
    later t r = (r.0, rw t r.1)

-- what the strings' check finds, in either order
strings-same : (p q : Plan) → Reordered p q → SameFault (strings_check 1 (strings_of p)) (strings_check 1 (strings_of q))
strings-same p q r =
    let both : every string_lawful (strings_of q) ≡ every string_lawful (strings_of p) = every-permuted string_lawful r.strings in
    by_bool (every string_lawful (strings_of p))
    (λ all. rw (strings-lawful 1 (strings_of p) all, strings-lawful 1 (strings_of q) (both ∙ all)) both_lawful)
    (λ some.
    let one = strings-refused 1 (strings_of p) some in
    let other = strings-refused 1 (strings_of q) (both ∙ some) in
    rw (one.1, other.1) (both_refused OutOfBounds one.0 other.0))

-- checks that find the same fault, one after the other
self : (c : Checked) → SameFault c c
self (Ok _) = both_lawful
self (Err e) = both_refused e.fault e.at e.at

then_same : {a b c d : Checked} → SameFault a b → SameFault c d → SameFault (then a c) (then b d)
then_same both_lawful next = next
then_same (both_refused f i j) next = both_refused f i j

alike-checks : (a b : Checked) → b ≡ a → SameFault a b
alike-checks a b e = rw e (self a)

same_over : (p q : Plan) → Reordered p q → multiple_check 0 q ≡ multiple_check 0 p
unfolding multiple_check
same_over p q r = ap (λ h. refuse_if (ltb 100000 h) MultipleOver 0) (same-multiple p q r)

pub same-refusal : (p q : Plan) → Reordered p q → q.run ≡ p.run → SameFault (plan_check p) (plan_check q)
unfolding plan_check
same-refusal p q r same_run =
    let heads = ap₂ (λ n (run : Length). head_check 0 n run.0) r.same_n same_run in
    then_same (alike-checks (head_check 0 p.n p.run.0) (head_check 0 q.n q.run.0) heads)
    (then_same (strings-same p q r) (alike-checks (multiple_check 0 p) (multiple_check 0 q) (same_over p q r)))
