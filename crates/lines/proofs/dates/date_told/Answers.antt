use Rattle.std.proofs.Common.{◌∙◌, sym, ap}
use Rattle.days.specs.declared.Day.{Day}
use Rattle.rules.specs.Lines.{bytes_of}
use Rattle.calendar.proofs.RoundTrip.{date-read-exists}
use Rattle.lines.proofs.{Growing.page_is, Dated.{no_day-refusal, no_weekday-refusal, day_is, weekday_is, numbered-built}}
use Rattle.lines.proofs.dates.date_told.Goals as goal

pub returns-in_err-day-clause-exact : goal.returns-in_err-day-clause-exact
returns-in_err-day-clause-exact c =
    let exists = date-read-exists _ _ (sym c.date_read.ensures.exact ∙ c.in_ok-date.was) in
    absurd (no_day-refusal _ _ exists (sym c.day_number.ensures.exact ∙ c.in_err-day.was))

pub returns-in_err-weekday-clause-exact : goal.returns-in_err-weekday-clause-exact
returns-in_err-weekday-clause-exact c =
    let exists = date-read-exists _ _ (sym c.date_read.ensures.exact ∙ c.in_ok-date.was) in
    absurd (no_weekday-refusal _ _ exists (sym c.weekday.ensures.exact ∙ c.in_err-weekday.was))

pub returns-clause-exact : goal.returns-clause-exact
unfolding bytes_of
returns-clause-exact c =
    let read = sym c.date_read.ensures.exact ∙ c.in_ok-date.was in
    let exists = date-read-exists _ _ read in
    let day = ap (λ (k : Day). k.0) (day_is _ exists _ (sym c.day_number.ensures.exact ∙ c.in_ok-day.was)) in
    let weekday = weekday_is _ exists _ (sym c.weekday.ensures.exact ∙ c.in_ok-weekday.was) in
    page_is _ _
    ((rw (c.append.ensures.exact, c.fill_in.ensures.exact, c.blank.ensures.empty, c.weekday_name.ensures.exact, day, weekday)
    at c.append-2.ensures.exact)
    ∙ numbered-built _ _ read)
