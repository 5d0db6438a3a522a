use Rattle.rules.specs.Lines.{bytes_of, worded_in}
use Rattle.lines.specs.Reasons.{reason_words}
use Rattle.lines.proofs.Page.append_reason.Goals as goal

pub returns-in-NoneFits : goal.returns-in-NoneFits
unfolding bytes_of reason_words
returns-in-NoneFits c = record { exact = rw c.in-NoneFits.is c.fill_in-in-NoneFits.ensures.exact }

pub returns-in-OverThousand : goal.returns-in-OverThousand
unfolding bytes_of worded_in reason_words
returns-in-OverThousand c = record { exact = rw c.in-OverThousand.is c.append-in-OverThousand.ensures.exact }

pub returns-in-AfterRun : goal.returns-in-AfterRun
unfolding bytes_of reason_words
returns-in-AfterRun c = record { exact = rw c.in-AfterRun.is c.fill_in-in-AfterRun.ensures.exact }

pub returns-in-TooClose : goal.returns-in-TooClose
unfolding bytes_of reason_words
returns-in-TooClose c = record { exact = rw c.in-TooClose.is c.fill_in-in-TooClose.ensures.exact }
