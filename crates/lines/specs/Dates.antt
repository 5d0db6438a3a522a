-- The lines of the calendar (document 02, W-203), as bytes. Each ends by one byte 0a.
--     weekday_name w         the first three letters of the weekday's name
--     numbered_line d        a date's day number and weekday, as 366 Mon
--     date_line text         for a date's text: its day number and weekday; or the refusal
--     day_line k             for a day number: its date and weekday, as 2001-01-01 Mon; or the refusal
use Rattle.std.specs.Prelude.{ℕ, List, [], ◌∷◌}
use Rattle.faults.specs.declared.Refusal.{Refusal}
use Rattle.std.specs.Prelude.{Ok, Err, Result}
use Rattle.rules.specs.Lines.{bytes_of, decimal, worded, refused_line}
use Rattle.calendar.specs.declared.Date.{Date}
use Rattle.calendar.specs.declared.Weekday.{Weekday}
use Rattle.calendar.specs.declared.Weekday.TheVariants.{Saturday, Sunday, Monday, Tuesday, Wednesday, Thursday, Friday}
use Rattle.calendar.specs.Numbers.{day_number}
use Rattle.calendar.specs.Weekdays.{weekday_of}
use Rattle.calendar.specs.Refusals.{date_answer}
use Rattle.calendar.specs.Texts.{date_text, date_reading}

unfoldable pub weekday_name : Weekday → List ℕ
weekday_name Saturday = bytes_of "Sat"
weekday_name Sunday = bytes_of "Sun"
weekday_name Monday = bytes_of "Mon"
weekday_name Tuesday = bytes_of "Tue"
weekday_name Wednesday = bytes_of "Wed"
weekday_name Thursday = bytes_of "Thu"
weekday_name Friday = bytes_of "Fri"

unfoldable pub numbered_line : Date → List ℕ
numbered_line d = worded "# #\n" (decimal (day_number d) ∷ weekday_name (weekday_of (day_number d)) ∷ [])

-- of a date that was read
unfoldable pub date_line_for : Result Date Refusal → List ℕ
date_line_for (Ok d) = numbered_line d
date_line_for (Err e) = refused_line e.fault e.at

unfoldable pub date_line : List ℕ → List ℕ
date_line text = date_line_for (date_reading text)

-- of day k and its date
unfoldable pub day_line_for : ℕ → Result Date Refusal → List ℕ
day_line_for k (Ok d) = worded "# #\n" (date_text d ∷ weekday_name (weekday_of k) ∷ [])
day_line_for k (Err e) = refused_line e.fault e.at

unfoldable pub day_line : ℕ → List ℕ
day_line k = day_line_for k (date_answer k)
