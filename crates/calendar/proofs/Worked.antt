-- The page's dates and the dates on which planners go wrong: one table, one statement. Each row is a question and what the page says.
-- `worked` has antt compute every answer from the definitions; lists of 29 February are computed over all 400 years.
use Rattle.base.proofs.Prelude.{ℕ, ◌≡◌, refl, List, [], ◌∷◌, map}
use Prim.Native.{Char.code, String.String}
use Rattle.base.specs.{Count.{sum_of, up_from, keep, every}, Digits.{places_of, number_on}}
use Rattle.calendar.specs.{declared.Date.Date, declared.YearlyDate.YearlyDate, Years.{leap_year, year_length, months_with, month_lengths, month_length}, Dates.{date, date_exists, date_after}, Numbers.{days_before_year, days_before_month, day_number, date_of}, Weekdays.weekday_of, Yearly.{on_leap_day, in_no_year, moved_in, in_year, dates_in, days_in}, Refusals.{date_answer, day_answer, weekday_answer, yearly_answer, yearly_listed}, Texts.{digits, fits_at, fits, date_text, date_in, yearly_in, date_reading, yearly_reading, no_number, day_reading, edition_reading}, Said.{Said, refused, on, day, weekday, days, yearly, edition, date_says, day_says, weekday_says, yearly_says, edition_says, listed_says}}
use Prim.Native.String as text

pub data Question : Type 0 where
  day-of : Date → Question
  date-of : ℕ → Question
  weekday-of : Date → Question
  list : ℕ → YearlyDate → ℕ → ℕ → ℕ → Question  -- an edition, a test, the first and the last day, the places lent
  listed : ℕ → YearlyDate → ℕ → ℕ → List ℕ → Question  -- the same, and what the lent list holds
  read : List ℕ → Question
  read-yearly : List ℕ → Question
  read-edition : List ℕ → Question
  read-day : List ℕ → Question
  write : Date → Question

pub data Answer : Type 0 where
  says : Said → Answer
  holds : List ℕ → Answer

pub record Row : Type 0 where
  pub asked : Question
  pub said : Answer

unfoldable pub answered : Question → Answer
answered (day-of d) = says (day_says (day_answer d))
answered (date-of k) = says (date_says (date_answer k))
answered (weekday-of d) = says (weekday_says (weekday_answer d))
answered (list ed t a e room) = says (listed_says (yearly_answer ed t a e room))
answered (listed ed t a e places) = holds (yearly_listed ed t a e places)
answered (read bytes) = says (date_says (date_reading bytes))
answered (read-yearly bytes) = says (yearly_says (yearly_reading bytes))
answered (read-edition bytes) = says (edition_says (edition_reading bytes))
answered (read-day bytes) = says (day_says (day_reading bytes))
answered (write d) = holds (date_text d)

unfoldable pub row : Question → Answer → Row
row q a = record { asked = q; said = a }

-- a month and a day
unfoldable pub each : ℕ → ℕ → YearlyDate
each m d = record { month = m; day = d }

-- the bytes of a text in ASCII
unfoldable pub bytes : String → List ℕ
bytes text.[] = []
bytes (text.◌∷◌ c s) = code c ∷ bytes s

unfoldable pub table : List Row
table =
    row (day-of (date 2000 1 1)) (says (day 0))
    ∷ row (weekday-of (date 2000 1 1)) (says (weekday 0))  -- a Saturday
    ∷ row (day-of (date 2001 1 1)) (says (day 366))
    ∷ row (weekday-of (date 2001 1 1)) (says (weekday 2))  -- a Monday
    ∷ row (day-of (date 2399 12 31)) (says (day 146096))
    ∷ row (weekday-of (date 2399 12 31)) (says (weekday 6))  -- a Friday: the next day is a Saturday again
    -- leap years, and the century years that are none
    ∷ row (day-of (date 2000 2 29)) (says (day 59))
    ∷ row (day-of (date 2000 12 31)) (says (day 365))
    ∷ row (day-of (date 2100 2 28)) (says (day 36583))
    ∷ row (day-of (date 2100 3 1)) (says (day 36584))
    ∷ row (day-of (date 2100 2 29)) (says (refused 10 0))
    ∷ row (day-of (date 2001 2 29)) (says (refused 10 0))
    -- outside the range, and no dates at all
    ∷ row (day-of (date 1999 12 31)) (says (refused 10 0))
    ∷ row (day-of (date 2400 1 1)) (says (refused 10 0))
    ∷ row (day-of (date 2000 13 1)) (says (refused 10 0))
    ∷ row (day-of (date 2000 0 1)) (says (refused 10 0))
    ∷ row (day-of (date 2000 4 31)) (says (refused 10 0))
    ∷ row (day-of (date 2000 1 0)) (says (refused 10 0))
    -- sheet by sheet
    ∷ row (date-of 0) (says (on 2000 1 1))
    ∷ row (date-of 59) (says (on 2000 2 29))
    ∷ row (date-of 366) (says (on 2001 1 1))
    ∷ row (date-of 1520) (says (on 2004 2 29))
    ∷ row (date-of 146097) (says (refused 10 0))
    -- edition 1: 29 February from 2000 to 2012, both ends counted, and from 2096 to 2108: none for eight years
    ∷ row (listed 1 (each 2 29) 0 4748 (7 ∷ 7 ∷ 7 ∷ 7 ∷ 7 ∷ [])) (holds (59 ∷ 1520 ∷ 2981 ∷ 4442 ∷ 7 ∷ []))
    ∷ row (listed 1 (each 2 29) 59 4442 (7 ∷ 7 ∷ 7 ∷ 7 ∷ 7 ∷ [])) (holds (59 ∷ 1520 ∷ 2981 ∷ 4442 ∷ 7 ∷ []))
    ∷ row (listed 1 (each 2 29) 60 4441 (7 ∷ 7 ∷ 7 ∷ 7 ∷ 7 ∷ [])) (holds (1520 ∷ 2981 ∷ 7 ∷ 7 ∷ 7 ∷ []))
    ∷ row (listed 1 (each 2 29) 35064 39812 (7 ∷ 7 ∷ 7 ∷ [])) (holds (35123 ∷ 38044 ∷ 39505 ∷ []))
    -- none if the first day is after the last; 9 where there is no room, and then nothing is written; 10 before 9
    ∷ row (list 1 (each 2 29) 4442 59 0) (says (days 0))
    ∷ row (list 1 (each 2 29) 59 4442 3) (says (refused 9 0))
    ∷ row (listed 1 (each 2 29) 59 4442 (7 ∷ 7 ∷ 7 ∷ [])) (holds (7 ∷ 7 ∷ 7 ∷ []))
    ∷ row (list 1 (each 2 29) 59 146097 0) (says (refused 10 0))
    ∷ row (list 1 (each 2 29) 146097 59 0) (says (refused 10 0))
    ∷ row (list 1 (each 2 30) 0 146096 0) (says (refused 10 0))
    -- edition 2: 28 February in 2097 to 2103, 29 February in 2096 and 2104; every other date as by edition 1
    ∷ row (listed 2 (each 2 29) 35064 38350 (7 ∷ 7 ∷ 7 ∷ 7 ∷ 7 ∷ 7 ∷ 7 ∷ 7 ∷ 7 ∷ []))
    (holds (35123 ∷ 35488 ∷ 35853 ∷ 36218 ∷ 36583 ∷ 36948 ∷ 37313 ∷ 37678 ∷ 38044 ∷ []))
    ∷ row (listed 2 (each 2 28) 36525 38350 (7 ∷ 7 ∷ 7 ∷ 7 ∷ 7 ∷ 7 ∷ [])) (holds (36583 ∷ 36948 ∷ 37313 ∷ 37678 ∷ 38043 ∷ 7 ∷ []))
    ∷ row (listed 2 (each 6 30) 0 1000 (7 ∷ 7 ∷ 7 ∷ [])) (holds (181 ∷ 546 ∷ 911 ∷ []))
    ∷ row (listed 1 (each 6 30) 0 1000 (7 ∷ 7 ∷ 7 ∷ [])) (holds (181 ∷ 546 ∷ 911 ∷ []))
    ∷ row (list 2 (each 2 29) 0 146096 399) (says (refused 9 0))
    -- 11 for another edition, before 10 and before 9, and then nothing is written
    ∷ row (list 0 (each 2 29) 59 4442 4) (says (refused 11 0))
    ∷ row (list 3 (each 2 30) 146097 146097 0) (says (refused 11 0))
    ∷ row (listed 3 (each 2 29) 59 4442 (7 ∷ 7 ∷ 7 ∷ 7 ∷ [])) (holds (7 ∷ 7 ∷ 7 ∷ 7 ∷ []))
    ∷ row (list 2 (each 2 30) 0 146096 0) (says (refused 10 0))
    -- texts
    ∷ row (read (bytes "2000-02-29")) (says (on 2000 2 29))
    ∷ row (read (bytes "2001-02-29")) (says (refused 10 0))
    ∷ row (read (bytes "2000-2-29")) (says (refused 10 0))
    ∷ row (read (bytes "2000/02/29")) (says (refused 10 0))
    ∷ row (read (bytes "2000-02-29 ")) (says (refused 10 0))
    ∷ row (read (bytes "")) (says (refused 10 0))
    ∷ row (read-yearly (bytes "02-29")) (says (yearly 2 29))
    ∷ row (read-yearly (bytes "02-30")) (says (refused 10 0))
    ∷ row (read-yearly (bytes "13-01")) (says (refused 10 0))
    ∷ row (read-edition (bytes "1")) (says (edition 1))
    ∷ row (read-edition (bytes "2")) (says (edition 2))
    ∷ row (read-edition (bytes "0")) (says (refused 11 0))
    ∷ row (read-edition (bytes "3")) (says (refused 11 0))
    ∷ row (read-edition (bytes "a")) (says (refused 11 0))
    ∷ row (read-edition (bytes "01")) (says (refused 11 0))
    ∷ row (read-edition (bytes "")) (says (refused 11 0))
    ∷ row (read-day (bytes "366")) (says (day 366))
    ∷ row (read-day (bytes "0")) (says (day 0))
    ∷ row (read-day (bytes "0366")) (says (refused 10 0))
    ∷ row (read-day (bytes "")) (says (refused 10 0))
    ∷ row (read-day (bytes "146097")) (says (refused 10 0))
    ∷ row (write (date 2000 2 29)) (holds (bytes "2000-02-29"))
    ∷ []

pub worked : map (λ r. answered r.asked) table ≡ map (λ r. r.said) table
unfolding
    answered row each bytes table
    sum_of up_from keep every
    leap_year year_length months_with month_lengths month_length date_exists date_after
    days_before_year days_before_month day_number date_of weekday_of
    on_leap_day in_no_year moved_in in_year dates_in days_in
    date_answer day_answer weekday_answer yearly_answer yearly_listed
    digits places_of number_on fits_at fits date_text date_in yearly_in date_reading yearly_reading no_number day_reading edition_reading
worked = refl
