-- The digits, place by place.
use Rattle.base.proofs.Prelude.{arith}
use Rattle.std.proofs.lemmas.Grind.{common_steps}
use Rattle.base.specs.Digits.{places_of}
use Rattle.calendar.specs.Texts.{digits, yearly_text, yearly_writing}
use Rattle.calendar.proofs.text.yearly_text.Goals as goal

pub returns-in_err-yearly_date_check : goal.returns-in_err-yearly_date_check
unfolding yearly_writing
returns-in_err-yearly_date_check c = record { exact = grind (arith, common_steps) }

pub returns : goal.returns
unfolding yearly_writing yearly_text digits places_of
returns c = record { exact = grind (arith, common_steps) }
