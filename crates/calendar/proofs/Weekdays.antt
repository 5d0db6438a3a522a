-- Laws of weekdays: they return every 7 days.
use Rattle.base.proofs.Prelude.{ℕ, ◌+◌, ◌%◌, ◌≡◌, refl, sym, ap, ◌∙◌, arith, get_or}
use native.Mathlib.Nat.{add-mod_right}
use Rattle.base.specs.Count.{up_from}
use Rattle.base.proofs.Order.{each-of-up_from}
use Rattle.calendar.specs.{declared.Weekday.TheVariants.Saturday, Weekdays.{week, weekday_of, weekday_number}}

pub weekday_of-place : (k p : ℕ) → k % 7 ≡ p → get_or week p Saturday ≡ weekday_of k
unfolding weekday_of
weekday_of-place k p h = sym (ap (λ n. get_or week n Saturday) h)

pub weekday-returns : (k : ℕ) → weekday_of (k + 7) ≡ weekday_of k
unfolding weekday_of
weekday-returns k = ap (λ n. get_or week n Saturday) (add-mod_right k 7)

-- the weekday says how many days after a Saturday it is, and so no weekday returns sooner
pub weekday-counts : (k : ℕ) → weekday_number (weekday_of k) ≡ k % 7
unfolding up_from
weekday-counts k =
    ap weekday_number (sym (weekday_of-place k (k % 7) refl))
    ∙ each-of-up_from (λ p. weekday_number (get_or week p Saturday) ≡ p) 0 7 (omega arith) (k % 7) (omega arith) (omega arith)
