-- Day numbers as texts: what is read so far, and what is left.
--     digits_after n text    the day that digits write behind those that wrote n, as digits_number
use Rattle.base.proofs.Prelude.{ℕ, ◌+◌, ◌-◌, ◌*◌, ◌≤◌, ◌<◌, ◌≡◌, refl, true, false, ◌&&◌, cond, List, [], ◌∷◌, arith, add-one, leb, le-leb, lt-leb, length, get_or, drop, drop_of_length-le, drop-cons}
use Rattle.std.specs.Prelude.{Some, None, Option}
use Rattle.base.specs.{Count.every, Digits.{number_on, decimal_on}}
use Rattle.base.proofs.Lists.{by_bool}
use Rattle.faults.specs.Checks.{Refused}
use Rattle.faults.specs.declared.Fault.TheVariants.{NoSuchDate}
use Rattle.calendar.specs.{Numbers.last_day, Texts.{fits_at, no_number, day_reading}, inner.Places.digits_number}

unfoldable pub digits_after : ℕ → List ℕ → Option ℕ
digits_after n text = cond (every (fits_at 0x30) text && leb (decimal_on n text) last_day) (Some (decimal_on n text)) None

pub digits_after-start : (text : List ℕ) → digits_after 0 text ≡ digits_number text
unfolding digits_after digits_number
digits_after-start text = refl

decimal-grows : (n : ℕ) (text : List ℕ) → n ≤ decimal_on n text
unfolding number_on
decimal-grows n [] = omega arith
decimal-grows n (b ∷ bs) = omega (arith, decimal-grows (n * 10 + (b - 0x30)) bs)

-- once past the last day, the digits behind change nothing
pub digits_after-over : (n : ℕ) (text : List ℕ) → last_day < n → digits_after n text ≡ None
unfolding digits_after
digits_after-over n text over =
    let large = lt-leb (decimal_on n text) last_day (omega (arith, decimal-grows n text)) in
    by_bool (every (fits_at 0x30) text) (λ t. rw (t, large)) (λ f. rw f)

module _ (n : ℕ) (text : List ℕ) (i : ℕ) (h : i < length text) where
  pub digits_after-next : fits_at 0x30 (get_or text i 0) ≡ true
      → digits_after n (drop i text) ≡ digits_after (10 * n + (get_or text i 0 - 0x30)) (drop (i + 1) text)
  unfolding digits_after every number_on
  digits_after-next here =
      let same : 10 * n + (get_or text i 0 - 0x30) ≡ n * 10 + (get_or text i 0 - 0x30) = omega arith in
      rw (add-one i, drop-cons text i 0 h, here, same)

  pub digits_after-not : fits_at 0x30 (get_or text i 0) ≡ false → digits_after n (drop i text) ≡ None
  unfolding digits_after every
  digits_after-not here = rw (drop-cons text i 0 h, here)

pub digits_after-end : (n : ℕ) (text : List ℕ) (i : ℕ) → length text ≤ i → n ≤ last_day → digits_after n (drop i text) ≡ Some n
unfolding digits_after every number_on
digits_after-end n text i over within = rw (drop_of_length-le text over, le-leb n last_day within)

-- ---- Reading

pub day_reading-none : (text : List ℕ) → no_number text ≡ true → day_reading text ≡ Refused NoSuchDate 0
unfolding day_reading
day_reading-none text none = by_bool (every (fits_at 0x30) text) (λ t. rw (t, none)) (λ f. rw f)
