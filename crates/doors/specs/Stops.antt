-- How a program ends.
--     status_of e           the status of an end: 0 for a whole answer, 1 for a refusal, 2 for what could not be read, understood or
-- written
--     rank_of e             the place of an end in their order: of several the largest counts
--     IsUnwritten s         what stops it is that no more can be written
use Rattle.std.specs.Prelude.{ℕ, Result, Ok, Err}
use Rattle.doors.specs.declared.Stop.{Stop}
use Rattle.doors.specs.declared.Stop.TheVariants.{Refused, Failed, Unwritten, Gone}

abbrev pub status_of : Result (Unit {0}) Stop → ℕ
status_of (Ok _) = 0
status_of (Err Refused) = 1
status_of (Err Failed) = 2
status_of (Err Unwritten) = 2
status_of (Err Gone) = 2

abbrev pub IsUnwritten : Stop → Type 0
IsUnwritten Refused = ⊥
IsUnwritten Failed = ⊥
IsUnwritten Unwritten = Unit {0}
IsUnwritten Gone = Unit {0}

abbrev pub rank_of : Result (Unit {0}) Stop → ℕ
rank_of (Ok _) = 0
rank_of (Err Refused) = 1
rank_of (Err Failed) = 2
rank_of (Err Unwritten) = 3
rank_of (Err Gone) = 4
