-- the characters are those of the line
use Rattle.base.specs.Digits.{places_of}
use Rattle.calendar.specs.Texts.{digits, yearly_text}
use Rattle.rules.specs.Lines.{bytes_of, worded_in}
use Rattle.boards.specs.inner.Daily.{yearly_tail}
use Rattle.boards.proofs.daily.yearly_tail.Goals as goal

pub returns : goal.returns
unfolding yearly_tail bytes_of worded_in yearly_text digits places_of
returns c = record { exact = rw (c.figure.ensures.exact, c.figure-2.ensures.exact, c.figure-3.ensures.exact, c.figure-4.ensures.exact) }
