-- Laws of yearly lists: year by year, and which years can be left out.
use Rattle.base.proofs.Prelude.{ℕ, zero, suc, ◌+◌, ◌-◌, ◌≤◌, ◌<◌, ◌≡◌, refl, sym, ap, ◌∙◌, true, false, List, [], ◌∷◌, ◌++◌, arith, length, length-append, append_assoc, append-nil}
use Rattle.std.specs.Prelude.{Some, None, Option}
use Rattle.std.specs.List.{filter_map, range_with_len, cons_option}
use Rattle.base.specs.Count.{keep, up_from}
use Rattle.base.proofs.{Lists.by_bool, Order.up_from-cons}
use Rattle.faults.specs.Checks.{in_bounds}
use Rattle.faults.proofs.Checks.{in_bounds-not}
use Rattle.calendar.specs.{declared.YearlyDate.YearlyDate, Dates.date_exists, Numbers.{days_before_year, day_number}, Yearly.{in_year, dates_in, days_in, yearly_days}, inner.Places.{InYear, fall_of}}
use Rattle.calendar.proofs.{Editions.in_year-year, Existing.{existing, days_before_year-next, days_before_year-le, day_number-from-year, day_number-to-year}}

-- a day, or none, as a list
abbrev pub as_list : Option ℕ → List ℕ
as_list (Some k) = k ∷ []
as_list None = []

one_more : (fall : Option ℕ) (days : List ℕ) → as_list fall ++ days ≡ cons_option fall days
one_more (Some k) days = refl
one_more None days = refl

module _ (ed : ℕ) (t : YearlyDate) (a e : ℕ) where
  -- ---- One year

  pub days_in-there : (y : ℕ) → date_exists (in_year ed t y) ≡ true
      → days_in ed t a e (y ∷ []) ≡ keep (λ k. in_bounds a k e) (day_number (in_year ed t y) ∷ [])
  unfolding days_in dates_in keep
  days_in-there y h = rw h

  pub days_in-absent : (y : ℕ) → date_exists (in_year ed t y) ≡ false → days_in ed t a e (y ∷ []) ≡ []
  unfolding days_in dates_in keep
  days_in-absent y h = rw h

  -- as the code says it
  pub days_in-fall : (k : ℕ) → days_in ed t a e ((2000 + k) ∷ []) ≡ as_list (fall_of ed t a e k)
  unfolding days_in dates_in keep fall_of
  days_in-fall k =
      let d = in_year ed t (2000 + k) in
      by_bool (date_exists d)
      (λ h. by_bool (in_bounds a (day_number d) e) (λ g. rw (h, g)) (λ g. rw (h, g)))
      (λ h. rw h)

  days_in-outside : (y : ℕ) → date_exists (in_year ed t y) ≡ true → in_bounds a (day_number (in_year ed t y)) e ≡ false
      → days_in ed t a e (y ∷ []) ≡ []
  unfolding keep
  days_in-outside y h out = days_in-there y h ∙ rw out

  days_in-one : (y : ℕ) → length (days_in ed t a e (y ∷ [])) ≤ 1
  unfolding days_in dates_in keep
  days_in-one y =
      by_bool (date_exists (in_year ed t y))
      (λ h. by_bool (in_bounds a (day_number (in_year ed t y)) e) (λ g. rw (h, g) (omega arith)) (λ g. rw (h, g) (omega arith)))
      (λ h. rw h (omega arith))

  -- ---- Year by year

  days_in-cons : (y : ℕ) (ys : List ℕ) → days_in ed t a e (y ∷ ys) ≡ days_in ed t a e (y ∷ []) ++ days_in ed t a e ys
  unfolding days_in dates_in keep
  days_in-cons y ys =
      by_bool (date_exists (in_year ed t y))
      (λ h. by_bool (in_bounds a (day_number (in_year ed t y)) e) (λ g. rw (h, g)) (λ g. rw (h, g)))
      (λ h. rw h)

  days_in-nil : days_in ed t a e [] ≡ []
  unfolding days_in dates_in keep
  days_in-nil = refl

  -- at most one day a year
  pub days_in-few : (y n : ℕ) → length (days_in ed t a e (up_from y n)) ≤ n
  unfolding up_from
  days_in-few y zero = omega (arith, ap length days_in-nil)
  days_in-few y (suc n) =
      let rest = days_in-few (suc y) n in
      let first = days_in-one y in
      let parts = length-append (days_in ed t a e (y ∷ [])) (days_in ed t a e (up_from (suc y) n)) in
      omega (arith, ap length (days_in-cons y (up_from (suc y) n)))

  -- ---- Years that end before the first day, and that begin after the last

  before-first : (y : ℕ) → 2000 ≤ y → days_before_year (y + 1) ≤ a → days_in ed t a e (y ∷ []) ≡ []
  before-first y from over =
      by_bool (date_exists (in_year ed t y))
      (λ h.
      let end = day_number-to-year (in_year ed t y) (existing (in_year ed t y) h) in
      let year = ap (λ z. days_before_year (z + 1)) (in_year-year ed t y) in
      days_in-outside y h (in_bounds-not a (day_number (in_year ed t y)) e (λ low high. omega arith)))
      (days_in-absent y)

  after_last : (y : ℕ) → e < days_before_year y → days_in ed t a e (y ∷ []) ≡ []
  after_last y over =
      by_bool (date_exists (in_year ed t y))
      (λ h.
      let start = day_number-from-year (in_year ed t y) (existing (in_year ed t y) h) in
      let year = ap days_before_year (in_year-year ed t y) in
      days_in-outside y h (in_bounds-not a (day_number (in_year ed t y)) e (λ low high. omega arith)))
      (days_in-absent y)

  none_before : (y n m : ℕ) → 2000 ≤ y → days_before_year (y + n) ≤ a
      → days_in ed t a e (up_from y (n + m)) ≡ days_in ed t a e (up_from (y + n) m)
  unfolding up_from
  none_before y zero m from over =
      let same : y + 0 ≡ y = omega arith in
      let count : 0 + m ≡ m = omega arith in
      rw (same, count)
  none_before y (suc n) m from over =
      let count : suc n + m ≡ suc (n + m) = omega arith in
      let place : suc y + n ≡ y + suc n = omega arith in
      let here = before-first y from (omega (arith, days_before_year-le (y + 1) (y + suc n) (omega arith))) in
      let rest = none_before (suc y) n m (omega arith) (omega (arith, ap days_before_year place)) in
      rw count (days_in-cons y (up_from (suc y) (n + m)) ∙ rw here (rest ∙ ap (λ z. days_in ed t a e (up_from z m)) place))

  none_after : (y n : ℕ) → e < days_before_year y → days_in ed t a e (up_from y n) ≡ []
  unfolding up_from
  none_after y zero over = days_in-nil
  none_after y (suc n) over =
      let rest = none_after (suc y) n (omega (arith, days_before_year-le y (suc y) (omega arith))) in
      days_in-cons y (up_from (suc y) n) ∙ rw (after_last y over, rest)

  -- ---- What is left to list from year 2000 + k on

  abbrev pub left_from : ℕ → List ℕ
  left_from k = days_in ed t a e (up_from (2000 + k) (400 - k))

  pub left-start : (k rest : ℕ) → InYear a k rest → yearly_days ed t a e ≡ left_from k
  left-start k rest x =
      let most = x.last in
      let whole : k + (400 - k) ≡ 400 = omega arith in
      ap (λ n. days_in ed t a e (up_from 2000 n)) (sym whole) ∙ none_before 2000 k (400 - k) (omega arith) (omega (arith, x.adds))

  pub left-next : (k : ℕ) → k ≤ 399 → left_from k ≡ days_in ed t a e ((2000 + k) ∷ []) ++ left_from (k + 1)
  left-next k h =
      let count : 400 - k ≡ suc (400 - (k + 1)) = omega arith in
      let next : suc (2000 + k) ≡ 2000 + (k + 1) = omega arith in
      ap (λ n. days_in ed t a e (up_from (2000 + k) n)) count
      ∙ ap (days_in ed t a e) (up_from-cons (2000 + k) (400 - (k + 1)))
      ∙ days_in-cons (2000 + k) (up_from (suc (2000 + k)) (400 - (k + 1)))
      ∙ ap (λ y. days_in ed t a e ((2000 + k) ∷ []) ++ days_in ed t a e (up_from y (400 - (k + 1)))) next

  pub left_end : (end rest k : ℕ) → InYear e end rest → end < k → left_from k ≡ []
  left_end end rest k x over =
      let within = x.within in
      let next = days_before_year-next (2000 + end) (omega arith) in
      none_after (2000 + k) (400 - k) (omega (arith, x.adds, days_before_year-le (2000 + end + 1) (2000 + k) (omega arith)))

  pub left-fall : (k : ℕ) → k ≤ 399 → left_from k ≡ as_list (fall_of ed t a e k) ++ left_from (k + 1)
  left-fall k h = left-next k h ∙ ap (λ days. days ++ left_from (k + 1)) (days_in-fall k)

  -- the days of the n years from year 2000 + k on come first
  left-falls : (k n : ℕ) → k + n ≤ 400 → left_from k ≡ filter_map (fall_of ed t a e) (range_with_len k n) ++ left_from (k + n)
  left-falls k zero h =
      let same : k + 0 ≡ k = omega arith in
      ap left_from (sym same)
  left-falls k (suc n) h =
      let same : k + 1 + n ≡ k + suc n = omega arith in
      let rest = filter_map (fall_of ed t a e) (range_with_len (k + 1) n) in
      left-fall k (omega arith)
      ∙ ap (λ days. as_list (fall_of ed t a e k) ++ days) (left-falls (k + 1) n (omega arith) ∙ ap (λ j. rest ++ left_from j) same)
      ∙ sym (append_assoc (as_list (fall_of ed t a e k)) rest (left_from (k + suc n)))
      ∙ ap (λ days. days ++ left_from (k + suc n)) (one_more (fall_of ed t a e k) rest)

  -- all of them fall from the year of the first day to that of the last
  pub all-falls : (k rest end left : ℕ) → InYear a k rest → InYear e end left
      → yearly_days ed t a e ≡ filter_map (fall_of ed t a e) (range_with_len k (end + 1 - k))
  all-falls k rest end left x y =
      let first = x.last in
      let last = y.last in
      let none = left_end end left (k + (end + 1 - k)) y (omega arith) in
      let falls = filter_map (fall_of ed t a e) (range_with_len k (end + 1 - k)) in
      left-start k rest x
      ∙ left-falls k (end + 1 - k) (omega arith)
      ∙ ap (λ days. falls ++ days) none
      ∙ append-nil falls
