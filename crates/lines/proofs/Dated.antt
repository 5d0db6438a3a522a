-- A date that was read, or that a day has, exists: so it has a day number, a weekday and a text.
use Rattle.base.proofs.Prelude.{ℕ, ◌≡◌, ap, true, List, [], ◌∷◌, ◌++◌, append_assoc, arith}
use Rattle.std.specs.Prelude.{Ok, Err}
use Rattle.faults.specs.declared.Refusal.{Refusal}
use Rattle.days.specs.{declared.Day.Day, Days.day}
use Rattle.calendar.specs.{declared.Date.Date, declared.Weekday.Weekday, Dates.date_exists, Numbers.day_number, Weekdays.weekday_of, Refusals.{date_answer, day_answer, weekday_answer}, Texts.{date_text, date_reading, date_writing}}
use Rattle.rules.specs.Lines.{bytes_of, decimal, worded_in, worded}
use Rattle.lines.specs.Dates.{weekday_name, numbered_line, date_line, date_line_for, day_line, day_line_for}
use Rattle.calendar.proofs.{Answers.{date_answer-exists, day-and-back, day_answer-is, weekday_answer-is}, Texts.date_writing-is}

never : ◌≡◌ {A = ℕ} 0 1 → ⊥
never z = omega arith

module _ (d : Date) (e : Refusal) (exists : date_exists d ≡ true) where
  pub no_day-refusal : day_answer d ≡ Err e → ⊥
  no_day-refusal h = let is = day_answer-is d exists in never (cc)

  pub no_weekday-refusal : weekday_answer d ≡ Err e → ⊥
  no_weekday-refusal h = let is = weekday_answer-is d exists in never (cc)

  pub no_text-refusal : date_writing d ≡ Err e → ⊥
  no_text-refusal h = let is = date_writing-is d exists in never (cc)

module _ (d : Date) (exists : date_exists d ≡ true) where
  pub day_is : (k : Day) → day_answer d ≡ Ok k → k ≡ day (day_number d)
  day_is k h = let is = day_answer-is d exists in cc

  pub weekday_is : (w : Weekday) → weekday_answer d ≡ Ok w → w ≡ weekday_of (day_number d)
  weekday_is w h = let is = weekday_answer-is d exists in cc

  pub text_is : (text : List ℕ) → date_writing d ≡ Ok text → text ≡ date_text d
  text_is text h = let is = date_writing-is d exists in cc

pub lines_number_is : (k : ℕ) (d : Date) → date_answer k ≡ Ok d → day_number d ≡ k
lines_number_is k d h =
    let is = day_answer-is d (date_answer-exists k d h) in
    let back = day-and-back k d h in
    let same : day (day_number d) ≡ day k = cc in
    ap (λ (n : Day). n.0) same

-- ---- The lines in their parts

pub numbered-built : (text : List ℕ) (d : Date) → date_reading text ≡ Ok d
    → (worded "# " (decimal (day_number d) ∷ []) ++ weekday_name (weekday_of (day_number d))) ++ bytes_of "\n" ≡ date_line text
unfolding bytes_of worded_in date_line date_line_for numbered_line
numbered-built text d h = rw h (simp append_assoc)

pub dated-built : (k : ℕ) (d : Date) → date_answer k ≡ Ok d
    → ((date_text d ++ bytes_of " ") ++ weekday_name (weekday_of (day_number d))) ++ bytes_of "\n" ≡ day_line k
unfolding bytes_of worded_in day_line day_line_for
dated-built k d h = rw (h, lines_number_is k d h) (simp append_assoc)
