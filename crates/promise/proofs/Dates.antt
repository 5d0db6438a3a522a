-- The calendar's promises, of what the code answered (document 02, W-203 and W-206).
use Rattle.base.proofs.Prelude.{ℕ, ◌<◌, ◌≡◌, sym, ap, ◌∙◌, ◌↔◌, true, false, List, map, length, take, drop, take_at, drop_at}
use Rattle.calendar.specs.declared.Weekday.{Weekday}
use Rattle.faults.specs.Checks.{Refused}
use Rattle.faults.specs.declared.Refusal.{Refusal}
use Rattle.std.specs.Prelude.{Ok, Result}
use Rattle.days.specs.{declared.Day.Day, Days.day}
use Rattle.base.specs.Count.{All}
use Rattle.faults.specs.declared.Fault.{Fault}
use Rattle.calendar.specs.declared.Date.{Date}
use Rattle.calendar.specs.declared.YearlyDate.{YearlyDate}
use Rattle.calendar.specs.declared.Weekday.TheVariants.{Saturday}
use Rattle.calendar.specs.Dates.{date_exists}
use Rattle.calendar.specs.Numbers.{date_of, last_day}
use Rattle.calendar.specs.Refusals.{day_answer, weekday_answer}
use Rattle.calendar.specs.Yearly.{years, no_edition, leap_day, on_leap_day, yearly_days, gaps, YearGap, LeapGap}
use Rattle.calendar.specs.Said.{refused, date_says, day_says, weekday_says, listed_says}
use Rattle.calendar.proofs.{Answers.{day-and-back, date-and-back, epoch-answers, date-ten-exactly, day-ten-exactly, weekday-ten-exactly, no_such, eleven-exactly, ten-exactly, nine-exactly, listed-front, listed-exists, refused-kept, answers_agree}, Gaps.{edition-2-gaps, edition-1-leap-gaps, edition-2-every-year}, Texts.date_writing-is, RoundTrip.{date-read-exists, date-written-back}}
use Rattle.calendar.proofs.Date.first.Reads as Date-first
use Rattle.calendar.proofs.Date.from_day.Reads as Date-from-day
use Rattle.calendar.proofs.Date.day_number.Reads as Date-day-number
use Rattle.calendar.proofs.Date.weekday.Reads as Date-weekday
use Rattle.calendar.proofs.date_read.Reads as date-read
use Rattle.calendar.proofs.date_text.Reads as date-text
use Rattle.calendar.proofs.yearly.Reads as yearly
use contract.Lifetimes.{Lfts}

-- ---- Both ways

-- the day number of the date of a day is that day
pub day-there-and-back : (κs : Lfts 0) (k : Day) (d : Date) (e f : _) (r : Result Day Refusal)
    → Date-from-day.Learnt κs (k, tt) (Ok d) e → Date-day-number.Learnt κs (d, tt) r f → r ≡ Ok k
day-there-and-back κs k d e f r h g = g ∙ day-and-back k.0 d (sym h)

-- the date of a date's day number is that date
pub date-there-and-back : (κs : Lfts 0) (d : Date) (k : Day) (e f : _) (r : Result Date Refusal)
    → Date-day-number.Learnt κs (d, tt) (Ok k) e → Date-from-day.Learnt κs (k, tt) r f → r ≡ Ok d
date-there-and-back κs d k e f r h g = g ∙ date-and-back d k (sym h)

-- ---- The epoch, as `Date::first` gave it

module _ (κs : Lfts 0) (a : _) (e f : _) (d : Date) (given : Date-first.Learnt κs a d e) where
  -- its day is day 0
  pub epoch-day : (r : Result Day Refusal) → Date-day-number.Learnt κs (d, tt) r f → r ≡ Ok (day 0)
  epoch-day r h = h ∙ ap day_answer given ∙ epoch-answers.0

  -- and the date of day 0 is the epoch
  pub day-epoch : (r : Result Date Refusal) → Date-from-day.Learnt κs (day 0, tt) r f → r ≡ Ok d
  day-epoch r h = h ∙ epoch-answers.1 ∙ ap Ok (sym given)

  -- a Saturday
  pub epoch-weekday : (r : Result Weekday Refusal) → Date-weekday.Learnt κs (d, tt) r f → r ≡ Ok Saturday
  epoch-weekday r h = h ∙ ap weekday_answer given ∙ epoch-answers.2

-- ---- 10 with 0 exactly for a day outside the range, and for a date that does not exist

pub date-ten : (κs : Lfts 0) (k : Day) (e : _) (r : Result Date Refusal) → Date-from-day.Learnt κs (k, tt) r e
    → (date_says r ≡ refused 10 0) ↔ (last_day < k.0)
date-ten κs k e r h = rw h (date-ten-exactly k.0)

pub day-ten : (κs : Lfts 0) (d : Date) (e : _) (r : Result Day Refusal) → Date-day-number.Learnt κs (d, tt) r e
    → (day_says r ≡ refused 10 0) ↔ (date_exists d ≡ false)
day-ten κs d e r h = rw h (day-ten-exactly d)

pub weekday-ten : (κs : Lfts 0) (d : Date) (e : _) (r : Result Weekday Refusal) → Date-weekday.Learnt κs (d, tt) r e
    → (weekday_says r ≡ refused 10 0) ↔ (date_exists d ≡ false)
weekday-ten κs d e r h = rw h (weekday-ten-exactly d)

-- ---- A date's text

-- what was read is written as it stood
pub text-there-and-back : (κs : Lfts 1) (μs : Lfts 0) (text : _) (d : Date) (e f : _) (r : Result (List ℕ) Refusal)
    → date-read.Learnt κs (text, tt) (Ok d) e → date-text.Learnt μs (d, tt) r f → r ≡ Ok text.now
text-there-and-back κs μs text d e f r h g =
    let read = sym h.0 in
    g ∙ date_writing-is d (date-read-exists text.now d read) ∙ ap Ok (date-written-back text.now d read)

-- ---- Yearly tests

module _ (κs : Lfts 1) (t : YearlyDate) (ed : ℕ) (first last : Day) (list : _) (e : _) where
  -- the places that count as listed hold exactly the days on which the test falls, rising; the later places are as they were
  pub yearly-places : (n : ℕ) → yearly.Learnt κs (t, (ed, (first, (last, (list, tt))))) (Ok n) e
      → (take n e.1.1.1.1.0.now ≡ yearly_days ed t first.0 last.0) × (drop n e.1.1.1.1.0.now ≡ drop n list.now)
  yearly-places n h =
      let days = yearly_days ed t first.0 last.0 in
      let front = listed-front ed t first.0 last.0 list.now n (sym h.0) in
      let after = h.1 ∙ front.1 in (
        ap (take n) after ∙ take_at days (drop n list.now) n (sym front.0),
        ap (drop n) after ∙ drop_at days (drop n list.now) n (sym front.0),
      )

  -- a refusal leaves the list as it was
  pub yearly-refusal-keeps : (f : Fault) (at : ℕ) → yearly.Learnt κs (t, (ed, (first, (last, (list, tt))))) (Refused f at) e
      → e.1.1.1.1.0.now ≡ list.now
  yearly-refusal-keeps f at h = h.1 ∙ refused-kept ed t first.0 last.0 list.now f at (sym h.0)

  -- 11 exactly for an edition that is neither 1 nor 2, whatever the dates and the room
  pub yearly-eleven : (r : Result ℕ Refusal) → yearly.Learnt κs (t, (ed, (first, (last, (list, tt))))) r e
      → (listed_says r ≡ refused 11 0) ↔ (no_edition ed ≡ true)
  yearly-eleven r h = rw h.0 (eleven-exactly ed t first.0 last.0 list.now)

  -- then 10 exactly for a month and day that exist in no year or a day outside the range, whatever the room
  pub yearly-ten : (r : Result ℕ Refusal) → yearly.Learnt κs (t, (ed, (first, (last, (list, tt))))) r e
      → (listed_says r ≡ refused 10 0) ↔ ((no_edition ed ≡ false) × (no_such ed t first.0 last.0 list.now ≡ true))
  yearly-ten r h = rw h.0 (ten-exactly ed t first.0 last.0 list.now)

  -- then 9 exactly where the lent list has fewer places than there are days
  pub yearly-nine : (r : Result ℕ Refusal) → yearly.Learnt κs (t, (ed, (first, (last, (list, tt))))) r e
      → (listed_says r ≡ refused 9 0)
      ↔ ((no_edition ed ≡ false) × (no_such ed t first.0 last.0 list.now ≡ false)
      × (length list.now < length (yearly_days ed t first.0 last.0)))
  yearly-nine r h = rw h.0 (nine-exactly ed t first.0 last.0 list.now)

module _ (κs : Lfts 1) (t : YearlyDate) (first last : Day) (list : _) (e : _) (n : ℕ) where
  -- the days that were listed by edition 2 are 365 or 366 apart
  pub yearly-gaps : yearly.Learnt κs (t, (2, (first, (last, (list, tt))))) (Ok n) e
      → All YearGap (gaps (take n e.1.1.1.1.0.now))
  yearly-gaps h = rw (yearly-places κs t 2 first last list e n h).0 (edition-2-gaps t first.0 last.0)

  -- those of 29 February by edition 1 are 1,461 or 2,921 apart
  pub yearly-leap-gaps : yearly.Learnt κs (leap_day, (1, (first, (last, (list, tt))))) (Ok n) e
      → All LeapGap (gaps (take n e.1.1.1.1.0.now))
  yearly-leap-gaps h = rw (yearly-places κs leap_day 1 first last list e n h).0 (edition-1-leap-gaps first.0 last.0)

  -- all days of an edition 2 test: one in each year
  pub yearly-every-year : yearly.Learnt κs (t, (2, (day 0, (day last_day, (list, tt))))) (Ok n) e
      → map (λ k. (date_of k).year) (take n e.1.1.1.1.0.now) ≡ years
  yearly-every-year h =
      let places = (yearly-places κs t 2 (day 0) (day last_day) list e n h).0 in
      rw places (edition-2-every-year t (listed-exists 2 t 0 last_day list.now n (sym h.0)))

-- of every other date the two editions answer the same, and leave the same in the same list
pub yearly-editions-agree : (κs : Lfts 1) (t : YearlyDate) (first last : Day) (list : _) (e f : _) (r s : Result ℕ Refusal)
    → on_leap_day t ≡ false
    → yearly.Learnt κs (t, (1, (first, (last, (list, tt))))) r e → yearly.Learnt κs (t, (2, (first, (last, (list, tt))))) s f
    → (r ≡ s) × (e.1.1.1.1.0.now ≡ f.1.1.1.1.0.now)
yearly-editions-agree κs t first last list e f r s other h k =
    let same = answers_agree t other first.0 last.0 list.now in
    (h.0 ∙ same.0 ∙ sym k.0, h.1 ∙ same.1 ∙ sym k.1)
