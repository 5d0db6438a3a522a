-- Dates as texts (ISO 8601; document 02, W-203, W-206 and W-214), as bytes. A date has ten characters, as 2000-02-29; a yearly one five, as
-- 02-29; an edition one, 1 or 2.
--     digits k n            the last k decimal digits of n
--     number text           the number that decimal digits write
--     date_text d            the text of a date
--     yearly_text t          the text of a yearly date
--     fits form text        as many characters as the form, digits where it has a 0 and the form's own character elsewhere
--     date_in text           the date that a text of the form 0000-00-00 writes
--     yearly_in text         the yearly date that a text of the form 00-00 writes
--     date_reading text      the date that a text writes, or 10 for any other text
--     yearly_reading text    the yearly date that a text writes, or 10
--     edition_reading text   the edition that a text writes by one digit, or 11 for any other text
--     day_reading text       the day that a text writes in decimal, without leading zeros, or 10
--     date_writing d         the text of a date that exists, or 10
--     yearly_writing t       the text of a month and day that exist in some year, or 10
use Rattle.std.specs.Prelude.{ℕ, Bool, true, false, not, cond, ◌&&◌, ◌||◌, List, [], ◌∷◌, ◌++◌, map, eqb, ltb, leb, length, get_or, take, drop}
use Rattle.days.specs.declared.Day.{Day}
use Rattle.faults.specs.Checks.{Refused}
use Rattle.faults.specs.declared.Refusal.{Refusal}
use Rattle.std.specs.Prelude.{Ok, Result}
use Rattle.days.specs.Days.{day}
use Rattle.base.specs.Count.{every}
use Rattle.base.specs.Digits.{places_of, figure, decimal_in}
use Rattle.faults.specs.declared.Fault.TheVariants.{NoSuchDate, NoSuchEdition}
use Rattle.faults.specs.Checks.{in_bounds}
use Rattle.calendar.specs.declared.Date.{Date}
use Rattle.calendar.specs.declared.YearlyDate.{YearlyDate}
use Rattle.calendar.specs.Dates.{date, date_exists}
use Rattle.calendar.specs.Numbers.{last_day}
use Rattle.calendar.specs.Yearly.{no_edition, in_no_year}

abbrev pub hyphen : ℕ
hyphen = 0x2d

-- ---- Writing

unfoldable pub digits : ℕ → ℕ → List ℕ
digits k n = map figure (places_of 10 k n)

unfoldable pub date_text : Date → List ℕ
date_text d = digits 4 d.year ++ hyphen ∷ digits 2 d.month ++ hyphen ∷ digits 2 d.day

unfoldable pub yearly_text : YearlyDate → List ℕ
yearly_text t = digits 2 t.month ++ hyphen ∷ digits 2 t.day

unfoldable pub date_writing : Date → Result (List ℕ) Refusal
date_writing d = cond (date_exists d) (Ok (date_text d)) (Refused NoSuchDate 0)

unfoldable pub yearly_writing : YearlyDate → Result (List ℕ) Refusal
yearly_writing t = cond (in_no_year t) (Refused NoSuchDate 0) (Ok (yearly_text t))

-- ---- Reading

abbrev pub number : List ℕ → ℕ
number text = decimal_in text

-- the byte b where the form has c
unfoldable pub fits_at : ℕ → ℕ → Bool
fits_at c b = cond (eqb c 0x30) (in_bounds 0x30 b 0x39) (eqb c b)

unfoldable pub fits : List ℕ → List ℕ → Bool
fits [] [] = true
fits [] (b ∷ bs) = false
fits (c ∷ cs) [] = false
fits (c ∷ cs) (b ∷ bs) = fits_at c b && fits cs bs

abbrev pub edition_form : List ℕ
edition_form = 0x30 ∷ []

abbrev pub yearly_form : List ℕ
yearly_form = 0x30 ∷ 0x30 ∷ hyphen ∷ 0x30 ∷ 0x30 ∷ []

abbrev pub date_form : List ℕ
date_form = 0x30 ∷ 0x30 ∷ 0x30 ∷ 0x30 ∷ hyphen ∷ yearly_form

unfoldable pub date_in : List ℕ → Date
date_in text = date (number (take 4 text)) (number (take 2 (drop 5 text))) (number (take 2 (drop 8 text)))

unfoldable pub yearly_in : List ℕ → YearlyDate
yearly_in text = record { month = number (take 2 text); day = number (take 2 (drop 3 text)) }

unfoldable pub date_reading : List ℕ → Result Date Refusal
date_reading text =
    cond (fits date_form text && date_exists (date_in text)) (Ok (date_in text)) (Refused NoSuchDate 0)

unfoldable pub yearly_reading : List ℕ → Result YearlyDate Refusal
yearly_reading text =
    cond (fits yearly_form text && not (in_no_year (yearly_in text))) (Ok (yearly_in text)) (Refused NoSuchDate 0)

unfoldable pub edition_reading : List ℕ → Result ℕ Refusal
edition_reading text =
    cond (fits edition_form text && not (no_edition (number text))) (Ok (number text)) (Refused NoSuchEdition 0)

-- empty, or with a leading zero
unfoldable pub no_number : List ℕ → Bool
no_number text = eqb (length text) 0 || ltb 1 (length text) && eqb (get_or text 0 0) 0x30

unfoldable pub day_reading : List ℕ → Result Day Refusal
day_reading text =
    cond (every (fits_at 0x30) text && not (no_number text) && leb (number text) last_day) (Ok (day (number text)))
    (Refused NoSuchDate 0)
