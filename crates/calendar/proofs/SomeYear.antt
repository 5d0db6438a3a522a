-- A month and day that exist in some year exist in 2000, a leap year.
use Rattle.base.proofs.Prelude.{ℕ, ◌≤◌, ◌≡◌, refl, sym, ap, ◌∙◌, true, false, not, List, [], ◌∷◌, map, arith, ne_eqb, eqb, length}
use Rattle.base.specs.Count.{keep, up_from}
use Rattle.base.proofs.{Lists.{by_bool, true-not-false}, Order.{keep-yes, up_from-cons}}
use Rattle.calendar.specs.{declared.YearlyDate.YearlyDate, Years.{leap_year, month_lengths, month_length}, Dates.date_exists, Yearly.{years, set_on, in_no_year}}
use Rattle.calendar.proofs.{Formula.month-longest, Existing.{existing, exists}, Places.{february_of, february_of-most}}

month_length-2000 : (y m : ℕ) → 1 ≤ m → m ≤ 12 → month_length y m ≤ month_length 2000 m
unfolding month_length month_lengths leap_year
month_length-2000 y m low high = month-longest (february_of y) m (february_of-most y) low high

module _ (t : YearlyDate) where
  some-2000 : (y : ℕ) → date_exists (set_on t y) ≡ true → date_exists (set_on t 2000) ≡ true
  some-2000 y h =
      let x = existing (set_on t y) h in
      exists (set_on t 2000)
      (record {
        from-2000 = omega arith;
        to-2399 = omega arith;
        january = x.january;
        december = x.december;
        first = x.first;
        last = omega (arith, x.last, month_length-2000 y t.month x.january x.december);
      })

  pub none-anywhere : date_exists (set_on t 2000) ≡ false → (ys : List ℕ) → keep date_exists (map (set_on t) ys) ≡ []
  unfolding keep
  none-anywhere none [] = refl
  none-anywhere none (y ∷ ys) =
      by_bool (date_exists (set_on t y))
      (λ h. absurd (true-not-false (sym (some-2000 y h) ∙ none)))
      (λ h. rw h (none-anywhere none ys))

  in-2000 : (ys : List ℕ) → date_exists (set_on t 2000) ≡ true → eqb (length (keep date_exists (map (set_on t) (2000 ∷ ys)))) 0 ≡ false
  in-2000 ys h =
      let rest = keep date_exists (map (set_on t) ys) in
      ap (λ ds. eqb (length ds) 0) (keep-yes date_exists (set_on t 2000) (map (set_on t) ys) h)
      ∙ ne_eqb (length (set_on t 2000 ∷ rest)) 0 (λ z. omega arith)

  pub in_no_year-2000 : not (in_no_year t) ≡ date_exists (set_on t 2000)
  unfolding in_no_year
  in_no_year-2000 =
      by_bool (date_exists (set_on t 2000))
      (λ h. ap (λ ys. not (eqb (length (keep date_exists (map (set_on t) ys))) 0)) (up_from-cons 2000 399)
      ∙ ap not (in-2000 (up_from 2001 399) h) ∙ sym h)
      (λ h. ap (λ ds. not (eqb (length ds) 0)) (none-anywhere h years) ∙ sym h)
