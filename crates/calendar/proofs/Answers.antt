-- Laws of the calendar's answers: which case holds.
use Rattle.base.proofs.Prelude.{ℕ, ◌≤◌, ◌<◌, ◌≡◌, refl, sym, ap, ◌∙◌, ◌↔◌, Bool, true, false, ◌||◌, List, ◌++◌, arith, dec_le, ltb, length, drop, le-leb, lt-leb, lt-ltb, le-ltb}
use Rattle.faults.specs.Checks.{Refused}
use Rattle.std.specs.Prelude.{Ok}
use Rattle.base.proofs.Lists.{by_bool, true-not-false}
use Rattle.days.specs.{declared.Day.Day, Days.day}
use Rattle.faults.specs.{declared.Fault.Fault, declared.Fault.TheVariants.{NoRoom, NoSuchDate, NoSuchEdition}}
use Rattle.calendar.specs.{declared.Date.Date, declared.YearlyDate.YearlyDate, declared.Weekday.TheVariants.Saturday, Years.{leap_year, months_with, month_lengths, month_length}, Dates.{epoch, date_exists}, Numbers.{days_before_year, days_before_month, day_number, date_of, last_day}, Weekdays.weekday_of, Yearly.{no_edition, on_leap_day, in_no_year, yearly_days}, Refusals.{date_answer, day_answer, weekday_answer, yearly_answer, yearly_listed}, Said.{refused, days, date_says, day_says, weekday_says, listed_says}}
use Rattle.base.specs.Count.{sum_of, up_from}
use Rattle.calendar.proofs.{BothWays.{date_of-exists, day_number-date_of, day_number-in-range, date_of-day_number}, Editions.editions-agree}

pub date_answer-is : (k : ℕ) → k ≤ last_day → date_answer k ≡ Ok (date_of k)
unfolding date_answer
date_answer-is k h = rw (le-leb k last_day h)

pub date_answer-refused : (k : ℕ) → last_day < k → date_answer k ≡ Refused NoSuchDate 0
unfolding date_answer
date_answer-refused k h = rw (lt-leb k last_day h)

never : ◌≡◌ {A = ℕ} 0 1 → ⊥
never z = omega arith

-- a date that is answered is the day's own, and exists
date_answer-date : (k : ℕ) (d : Date) → date_answer k ≡ Ok d → (k ≤ last_day) × (d ≡ date_of k)
date_answer-date k d h =
    elim (dec_le k last_day) [
      | yes within ↦ inside within (date_answer-is k within)
      | no over ↦ outside (date_answer-refused k (omega arith))
    ]
  where
    inside : k ≤ last_day → date_answer k ≡ Ok (date_of k) → (k ≤ last_day) × (d ≡ date_of k)
    inside within is =
        let same : d ≡ date_of k = cc in
        (within, same)

    outside : date_answer k ≡ Refused NoSuchDate 0 → (k ≤ last_day) × (d ≡ date_of k)
    outside is = absurd (never (cc))

pub date_answer-exists : (k : ℕ) (d : Date) → date_answer k ≡ Ok d → date_exists d ≡ true
date_answer-exists k d h =
    let is = date_answer-date k d h in
    ap date_exists is.1 ∙ date_of-exists k is.0

pub day_answer-is : (d : Date) → date_exists d ≡ true → day_answer d ≡ Ok (day (day_number d))
unfolding day_answer
day_answer-is d h = rw h

pub day_answer-refused : (d : Date) → date_exists d ≡ false → day_answer d ≡ Refused NoSuchDate 0
unfolding day_answer
day_answer-refused d h = rw h

-- a day that is answered is the date's own
pub day_answer-day : (d : Date) (k : Day) → day_answer d ≡ Ok k → (date_exists d ≡ true) × (k ≡ day (day_number d))
day_answer-day d k h = by_bool (date_exists d) (λ t. there t (day_answer-is d t)) (λ f. none (day_answer-refused d f))
  where
    there : date_exists d ≡ true → day_answer d ≡ Ok (day (day_number d)) → (date_exists d ≡ true) × (k ≡ day (day_number d))
    there t is =
        let same : k ≡ day (day_number d) = cc in
        (t, same)

    none : day_answer d ≡ Refused NoSuchDate 0 → (date_exists d ≡ true) × (k ≡ day (day_number d))
    none is = absurd (never (cc))

-- there and back, and back and there
pub day-and-back : (k : ℕ) (d : Date) → date_answer k ≡ Ok d → day_answer d ≡ Ok (day k)
day-and-back k d h =
    let is = date_answer-date k d h in
    let number = ap day_number is.1 ∙ day_number-date_of k is.0 in
    day_answer-is d (date_answer-exists k d h) ∙ ap (λ n. Ok (day n)) number

pub date-and-back : (d : Date) (k : Day) → day_answer d ≡ Ok k → date_answer k.0 ≡ Ok d
date-and-back d k h =
    let is = day_answer-day d k h in
    let number = ap (λ (j : Day). j.0) is.1 in
    ap date_answer number
    ∙ date_answer-is (day_number d) (day_number-in-range d is.0)
    ∙ ap Ok (date_of-day_number d is.0)

pub weekday_answer-is : (d : Date) → date_exists d ≡ true → weekday_answer d ≡ Ok (weekday_of (day_number d))
unfolding weekday_answer
weekday_answer-is d h = rw h

pub weekday_answer-refused : (d : Date) → date_exists d ≡ false → weekday_answer d ≡ Refused NoSuchDate 0
unfolding weekday_answer
weekday_answer-refused d h = rw h

-- 10 with 0 exactly for a day outside the range, and for a date that does not exist
pub date-ten-exactly : (k : ℕ) → (date_says (date_answer k) ≡ refused 10 0) ↔ (last_day < k)
date-ten-exactly k = (only, λ over. ap date_says (date_answer-refused k over))
  where
    only : date_says (date_answer k) ≡ refused 10 0 → last_day < k
    only h =
        elim (dec_le k last_day) [
          | yes within ↦
              let said = sym (ap date_says (date_answer-is k within)) ∙ h in
              absurd (never (cc))
          | no over ↦ omega arith
        ]

module _ (d : Date) where
  pub day-ten-exactly : (day_says (day_answer d) ≡ refused 10 0) ↔ (date_exists d ≡ false)
  day-ten-exactly = (only, λ none. ap day_says (day_answer-refused d none))
    where
      only : day_says (day_answer d) ≡ refused 10 0 → date_exists d ≡ false
      only h =
          by_bool (date_exists d) (λ there.
          let said = sym (ap day_says (day_answer-is d there)) ∙ h in
          absurd (never (cc))) (λ none. none)

  pub weekday-ten-exactly : (weekday_says (weekday_answer d) ≡ refused 10 0) ↔ (date_exists d ≡ false)
  weekday-ten-exactly = (only, λ none. ap weekday_says (weekday_answer-refused d none))
    where
      only : weekday_says (weekday_answer d) ≡ refused 10 0 → date_exists d ≡ false
      only h =
          by_bool (date_exists d) (λ there.
          let said = sym (ap weekday_says (weekday_answer-is d there)) ∙ h in
          absurd (never (cc))) (λ none. none)

-- the epoch is day 0, day 0 is the epoch, and it is a Saturday
pub epoch-answers : (day_answer epoch ≡ Ok (day 0)) × (date_answer 0 ≡ Ok epoch)
    × (weekday_answer epoch ≡ Ok Saturday)
unfolding
    day_answer date_answer weekday_answer date_exists day_number days_before_year days_before_month date_of weekday_of
    leap_year months_with month_lengths month_length sum_of up_from
epoch-answers = (refl, refl, refl)

-- ---- The yearly list

-- two refusals that are the same have one number, and a list is no refusal
one_number : (n m : ℕ) → refused n 0 ≡ refused m 0 → (n ≡ m → ⊥) → ⊥
one_number n m h other =
    let same : n ≡ m = cc in
    other same

no_number : (k m : ℕ) → days k ≡ refused m 0 → ⊥
no_number k m h = never (cc)

module _ (ed : ℕ) (t : YearlyDate) (a e : ℕ) (list : List ℕ) where
  abbrev pub no_such : Bool
  no_such = in_no_year t || ltb last_day a || ltb last_day e

  pub yearly-no-edition : no_edition ed ≡ true
      → (yearly_answer ed t a e (length list) ≡ Refused NoSuchEdition 0) × (yearly_listed ed t a e list ≡ list)
  unfolding yearly_answer yearly_listed
  yearly-no-edition other = (rw other, rw other)

  pub yearly-no-such : no_edition ed ≡ false → no_such ≡ true
      → (yearly_answer ed t a e (length list) ≡ Refused NoSuchDate 0) × (yearly_listed ed t a e list ≡ list)
  unfolding yearly_answer yearly_listed
  yearly-no-such known bad = (rw (known, bad), rw (known, bad))

  pub yearly-no-room : no_edition ed ≡ false → no_such ≡ false → length list < length (yearly_days ed t a e)
      → (yearly_answer ed t a e (length list) ≡ Refused NoRoom 0) × (yearly_listed ed t a e list ≡ list)
  unfolding yearly_answer yearly_listed
  yearly-no-room known good short =
      let over = lt-ltb (length list) (length (yearly_days ed t a e)) short in
      (rw (known, good, over), rw (known, good, over))

  pub yearly-listed : no_edition ed ≡ false → no_such ≡ false → length (yearly_days ed t a e) ≤ length list
      → (yearly_answer ed t a e (length list) ≡ Ok (length (yearly_days ed t a e)))
      × (yearly_listed ed t a e list ≡ yearly_days ed t a e ++ drop (length (yearly_days ed t a e)) list)
  unfolding yearly_answer yearly_listed
  yearly-listed known good room =
      let fits = le-ltb (length list) (length (yearly_days ed t a e)) room in
      (rw (known, good, fits), rw (known, good, fits))

  -- the four ways to answer
  pub data Way : Type 0 where
    eleven : no_edition ed ≡ true → Way
    ten : no_edition ed ≡ false → no_such ≡ true → Way
    nine : no_edition ed ≡ false → no_such ≡ false → length list < length (yearly_days ed t a e) → Way
    all : no_edition ed ≡ false → no_such ≡ false → length (yearly_days ed t a e) ≤ length list → Way

  outcome : Way
  outcome =
      by_bool (no_edition ed) (λ other. eleven other)
      (λ known. by_bool no_such (λ bad. ten known bad)
      (λ good. elim (dec_le (length (yearly_days ed t a e)) (length list)) [
        | yes room ↦ all known good room
        | no few ↦ nine known good (omega arith)
      ]))

  -- what is listed stands at the front, and the list's later places stay
  pub listed-front : (n : ℕ) → yearly_answer ed t a e (length list) ≡ Ok n
      → (n ≡ length (yearly_days ed t a e)) × (yearly_listed ed t a e list ≡ yearly_days ed t a e ++ drop n list)
  listed-front n h = by outcome
    where
      front : no_edition ed ≡ false → no_such ≡ false → length (yearly_days ed t a e) ≤ length list → n ≡ length (yearly_days ed t a e)
          → (n ≡ length (yearly_days ed t a e)) × (yearly_listed ed t a e list ≡ yearly_days ed t a e ++ drop n list)
      front known good room count =
          (count, (yearly-listed known good room).1 ∙ ap (λ m. yearly_days ed t a e ++ drop m list) (sym count))

      by : Way → (n ≡ length (yearly_days ed t a e)) × (yearly_listed ed t a e list ≡ yearly_days ed t a e ++ drop n list)
      by (eleven other) =
          let is = (yearly-no-edition other).0 in
          absurd (never (cc))
      by (ten known bad) =
          let is = (yearly-no-such known bad).0 in
          absurd (never (cc))
      by (nine known good few) =
          let is = (yearly-no-room known good few).0 in
          absurd (never (cc))
      by (all known good room) =
          let is = (yearly-listed known good room).0 in
          let count : n ≡ length (yearly_days ed t a e) = cc in
          front known good room count

  -- a test whose days are listed has a month and day that exist in some year
  pub listed-exists : (n : ℕ) → yearly_answer ed t a e (length list) ≡ Ok n → in_no_year t ≡ false
  listed-exists n h = by_bool (in_no_year t) (λ none. absurd (by none outcome)) (λ some. some)
    where
      by : in_no_year t ≡ true → Way → ⊥
      by none (eleven other) =
          let is = (yearly-no-edition other).0 in
          never (cc)
      by none (ten known bad) =
          let is = (yearly-no-such known bad).0 in
          never (cc)
      by none (nine known good few) =
          let is = (yearly-no-room known good few).0 in
          never (cc)
      by none (all known good room) = true-not-false (sym (rw none) ∙ good)

  -- on a refusal nothing is written
  pub refused-kept : (f : Fault) (at : ℕ) → yearly_answer ed t a e (length list) ≡ Refused f at → yearly_listed ed t a e list ≡ list
  refused-kept f at h = by outcome
    where
      by : Way → yearly_listed ed t a e list ≡ list
      by (eleven other) = (yearly-no-edition other).1
      by (ten known bad) = (yearly-no-such known bad).1
      by (nine known good few) = (yearly-no-room known good few).1
      by (all known good room) =
          let is = (yearly-listed known good room).0 in
          absurd (never (cc))

  -- ---- Which number is said

  eleven-said : no_edition ed ≡ true → listed_says (yearly_answer ed t a e (length list)) ≡ refused 11 0
  eleven-said other = ap listed_says (yearly-no-edition other).0

  ten-said : no_edition ed ≡ false → no_such ≡ true → listed_says (yearly_answer ed t a e (length list)) ≡ refused 10 0
  ten-said known bad = ap listed_says (yearly-no-such known bad).0

  nine-said : no_edition ed ≡ false → no_such ≡ false → length list < length (yearly_days ed t a e)
      → listed_says (yearly_answer ed t a e (length list)) ≡ refused 9 0
  nine-said known good few = ap listed_says (yearly-no-room known good few).0

  all_said : no_edition ed ≡ false → no_such ≡ false → length (yearly_days ed t a e) ≤ length list
      → listed_says (yearly_answer ed t a e (length list)) ≡ days (length (yearly_days ed t a e))
  all_said known good room = ap listed_says (yearly-listed known good room).0

  -- 11 exactly where the edition is neither 1 nor 2, whatever the dates
  pub eleven-exactly : (listed_says (yearly_answer ed t a e (length list)) ≡ refused 11 0) ↔ (no_edition ed ≡ true)
  eleven-exactly = (λ h. by h outcome, eleven-said)
    where
      by : listed_says (yearly_answer ed t a e (length list)) ≡ refused 11 0 → Way → no_edition ed ≡ true
      by h (eleven other) = other
      by h (ten known bad) = absurd (one_number 10 11 (sym (ten-said known bad) ∙ h) (omega arith))
      by h (nine known good few) = absurd (one_number 9 11 (sym (nine-said known good few) ∙ h) (omega arith))
      by h (all known good room) = absurd (no_number _ 11 (sym (all_said known good room) ∙ h))

  -- then 10 exactly where something is no date or outside the range, whatever the room
  pub ten-exactly : (listed_says (yearly_answer ed t a e (length list)) ≡ refused 10 0) ↔ ((no_edition ed ≡ false) × (no_such ≡ true))
  ten-exactly = (λ h. by h outcome, λ p. ten-said p.0 p.1)
    where
      by : listed_says (yearly_answer ed t a e (length list)) ≡ refused 10 0 → Way → (no_edition ed ≡ false) × (no_such ≡ true)
      by h (eleven other) = absurd (one_number 11 10 (sym (eleven-said other) ∙ h) (omega arith))
      by h (ten known bad) = (known, bad)
      by h (nine known good few) = absurd (one_number 9 10 (sym (nine-said known good few) ∙ h) (omega arith))
      by h (all known good room) = absurd (no_number _ 10 (sym (all_said known good room) ∙ h))

  -- then 9 exactly where the days do not fit
  pub nine-exactly : (listed_says (yearly_answer ed t a e (length list)) ≡ refused 9 0)
      ↔ ((no_edition ed ≡ false) × (no_such ≡ false) × (length list < length (yearly_days ed t a e)))
  nine-exactly = (λ h. by h outcome, λ p. nine-said p.0 p.1 p.2)
    where
      by : listed_says (yearly_answer ed t a e (length list)) ≡ refused 9 0 → Way
          → (no_edition ed ≡ false) × (no_such ≡ false) × (length list < length (yearly_days ed t a e))
      by h (eleven other) = absurd (one_number 11 9 (sym (eleven-said other) ∙ h) (omega arith))
      by h (ten known bad) = absurd (one_number 10 9 (sym (ten-said known bad) ∙ h) (omega arith))
      by h (nine known good few) = (known, good, few)
      by h (all known good room) = absurd (no_number _ 9 (sym (all_said known good room) ∙ h))

-- of every date but 29 February the editions answer and list the same
pub answers_agree : (t : YearlyDate) → on_leap_day t ≡ false → (a e : ℕ) (list : List ℕ)
    → (yearly_answer 1 t a e (length list) ≡ yearly_answer 2 t a e (length list))
    × (yearly_listed 1 t a e list ≡ yearly_listed 2 t a e list)
unfolding yearly_answer yearly_listed
answers_agree t other a e list =
    let same = editions-agree t other a e in
    (rw same, rw same)
