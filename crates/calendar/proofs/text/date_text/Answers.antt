-- The digits, place by place.
use Rattle.base.proofs.Prelude.{arith}
use Rattle.std.proofs.lemmas.Grind.{common_steps}
use Rattle.base.specs.Digits.{places_of}
use Rattle.calendar.specs.Texts.{digits, date_text, date_writing}
use Rattle.calendar.proofs.text.date_text.Goals as goal

pub returns-in_err-date_check : goal.returns-in_err-date_check
unfolding date_writing
returns-in_err-date_check c = record { exact = grind (arith, common_steps) }

pub returns : goal.returns
unfolding date_writing date_text digits places_of
returns c = record { exact = grind (arith, common_steps) }
