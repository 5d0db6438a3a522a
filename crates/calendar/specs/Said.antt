-- What an answer of the calendar says, in the page's numbers and values (document 01: "Where an answer is an enum, a definition gives this
-- paper's number and values for each of the enum's cases").
--     refused number at     the refusal number, and 0
--     on y m d              a date
--     day k                 a day number
--     weekday n             the days from a Saturday to the weekday
--     days n                how many days were listed
--     yearly m d            a month and a day
--     edition ed            an edition
use Rattle.std.specs.Prelude.{ℕ}
use Rattle.calendar.specs.declared.Date.{Date}
use Rattle.days.specs.declared.Day.{Day}
use Rattle.calendar.specs.declared.Weekday.{Weekday}
use Rattle.calendar.specs.declared.YearlyDate.{YearlyDate}
use Rattle.faults.specs.declared.Refusal.{Refusal}
use Rattle.std.specs.Prelude.{Ok, Err, Result}
use Rattle.faults.specs.Checks.{fault_number}
use Rattle.calendar.specs.Weekdays.{weekday_number}

pub data Said : Type 0 where
  refused : ℕ → ℕ → Said
  on : ℕ → ℕ → ℕ → Said
  day : ℕ → Said
  weekday : ℕ → Said
  days : ℕ → Said
  yearly : ℕ → ℕ → Said
  edition : ℕ → Said

abbrev pub date_says : Result Date Refusal → Said
date_says (Ok d) = on d.year d.month d.day
date_says (Err e) = refused (fault_number e.fault) e.at

abbrev pub day_says : Result Day Refusal → Said
day_says (Ok k) = day k.0
day_says (Err e) = refused (fault_number e.fault) e.at

abbrev pub weekday_says : Result Weekday Refusal → Said
weekday_says (Ok w) = weekday (weekday_number w)
weekday_says (Err e) = refused (fault_number e.fault) e.at

abbrev pub yearly_says : Result YearlyDate Refusal → Said
yearly_says (Ok t) = yearly t.month t.day
yearly_says (Err e) = refused (fault_number e.fault) e.at

abbrev pub edition_says : Result ℕ Refusal → Said
edition_says (Ok ed) = edition ed
edition_says (Err e) = refused (fault_number e.fault) e.at

abbrev pub listed_says : Result ℕ Refusal → Said
listed_says (Ok n) = days n
listed_says (Err e) = refused (fault_number e.fault) e.at
