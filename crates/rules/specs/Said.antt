-- What an answer says, in document 01's words, numbers and values ("Where an answer is an enum, a definition gives this paper's number and
-- values for each of the enum's cases"). Statements about an answer speak of what it says.
--     lawful                                  nothing is refused
--     refused number at                       the refusal number, and the line, the place, or 0 for the whole
--     overload pairs                          the pair count of an overload is 0
--     fail interval blocking demand pairs     the verdict's four values
--     pass pairs                              the verdict's one value
--     takers set, none                        the search
--     miss day place, clean work moving idle  the run
--     checked_says c, verdict_says v, assign_says a, outcome_says o     what a check, a verdict, a search and a run say
--     asked_verdict_says v, asked_assign_says a, asked_outcome_says o     what is said where one is asked for: the refusal, or what it says
-- And what is answered beside the desk's three lines:
--     refused_with number at                  the refusal number and the place, as above
--     unbroken, breaks interval blocking      the first pair that breaks the rule
--     stints count                            how many stints were listed
--     text length                             what was written into a page
--     passing, never, none_found, too_many, misses run
--                                             releases that miss: none, the plan passes; none, though it fails; none was found; there are
--                                             some, but more than 1,000; the days of a run that misses
--     broken_says b, asked_broken_says b         what the first broken pair says, and what is said where it is asked for
--     stinted_says s                           what is said where the stints of a run are asked for
-- Of texts that are written and of releases that miss the crates writing, tries and missed have it: saved_says, missing_says, missed_says.
use Rattle.std.specs.Prelude.{ℕ}
use Rattle.faults.specs.Checks.{Checked}
use Rattle.faults.specs.declared.Refusal.{Refusal}
use Rattle.std.specs.Prelude.{Ok, Err, Result, Some, None}
use Rattle.rules.specs.Found.{FirstBroken, Assign}
use Rattle.faults.specs.Checks.{fault_number}
use Rattle.rules.specs.declared.Verdict.{Verdict}
use Rattle.rules.specs.declared.Verdict.TheVariants as verdict
use Rattle.rules.specs.declared.Outcome.{Outcome}
use Rattle.rules.specs.declared.Outcome.TheVariants as outcome

pub data Said : Type 0 where
  lawful : Said
  refused : ℕ → ℕ → Said
  overload : ℕ → Said
  fail : ℕ → ℕ → ℕ → ℕ → Said
  pass : ℕ → Said
  takers : ℕ → Said
  none : Said
  miss : ℕ → ℕ → Said
  clean : ℕ → ℕ → ℕ → Said

abbrev pub checked_says : Checked → Said
checked_says (Ok _) = lawful
checked_says (Err e) = refused (fault_number e.fault) e.at

abbrev pub verdict_says : Verdict → Said
verdict_says verdict.Overload = overload 0
verdict_says (verdict.Fail l b d k) = fail l.0 b.0 d.0 k
verdict_says (verdict.Pass k) = pass k

abbrev pub asked_verdict_says : Result Verdict Refusal → Said
asked_verdict_says (Err e) = refused (fault_number e.fault) e.at
asked_verdict_says (Ok v) = verdict_says v

abbrev pub assign_says : Assign → Said
assign_says (Some m) = takers m
assign_says None = none

abbrev pub asked_assign_says : Result Assign Refusal → Said
asked_assign_says (Err e) = refused (fault_number e.fault) e.at
asked_assign_says (Ok a) = assign_says a

abbrev pub outcome_says : Outcome → Said
outcome_says (outcome.Miss t i) = miss t.0 i
outcome_says (outcome.Clean w m i) = clean w.0 m.0 i.0

abbrev pub asked_outcome_says : Result Outcome Refusal → Said
asked_outcome_says (Err e) = refused (fault_number e.fault) e.at
asked_outcome_says (Ok o) = outcome_says o

-- ---- Beside the desk's lines

pub data Noted : Type 0 where
  refused_with : ℕ → ℕ → Noted
  unbroken : Noted
  breaks : ℕ → ℕ → Noted
  stints : ℕ → Noted
  text : ℕ → Noted
  passing : Noted
  never : Noted
  none_found : Noted
  too_many : Noted
  misses : ℕ → Noted

abbrev pub broken_says : FirstBroken → Noted
broken_says None = unbroken
broken_says (Some q) = breaks q.interval.0 q.blocking.0

abbrev pub asked_broken_says : Result FirstBroken Refusal → Noted
asked_broken_says (Err e) = refused_with (fault_number e.fault) e.at
asked_broken_says (Ok b) = broken_says b

abbrev pub stinted_says : Result ℕ Refusal → Noted
stinted_says (Err e) = refused_with (fault_number e.fault) e.at
stinted_says (Ok k) = stints k
