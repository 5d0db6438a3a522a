use Rattle.std.proofs.Common.{◌∙◌, sym}
use Rattle.rules.specs.Lines.{bytes_of}
use Rattle.calendar.proofs.Answers.{date_answer-exists}
use Rattle.lines.proofs.{Growing.page_is, Dated.{no_weekday-refusal, no_text-refusal, weekday_is, text_is, dated-built}}
use Rattle.lines.proofs.dates.day_told.Goals as goal

pub returns-in_err-weekday : goal.returns-in_err-weekday
returns-in_err-weekday c =
    let exists = date_answer-exists _ _ (sym c.from_day.ensures.exact ∙ c.in_ok-date.was) in
    absurd (no_weekday-refusal _ _ exists (sym c.weekday.ensures.exact ∙ c.in_err-weekday.was))

pub returns-in_err-text : goal.returns-in_err-text
returns-in_err-text c =
    let exists = date_answer-exists _ _ (sym c.from_day.ensures.exact ∙ c.in_ok-date.was) in
    absurd (no_text-refusal _ _ exists (sym c.date_text.ensures.exact ∙ c.in_err-text.was))

pub returns : goal.returns
unfolding bytes_of
returns c =
    let found = sym c.from_day.ensures.exact ∙ c.in_ok-date.was in
    let exists = date_answer-exists _ _ found in
    let weekday = weekday_is _ exists _ (sym c.weekday.ensures.exact ∙ c.in_ok-weekday.was) in
    let text = text_is _ exists _ (sym c.date_text.ensures.exact ∙ c.in_ok-text.was) in
    record {
      exact = page_is _ _
          ((rw (
            c.append-3.ensures.exact,
            c.append-2.ensures.exact,
            c.append.ensures.exact,
            c.blank.ensures.empty,
            c.weekday_name.ensures.exact,
            text,
            weekday,
          ) at c.append-4.ensures.exact)
          ∙ dated-built _ _ found);
    }
