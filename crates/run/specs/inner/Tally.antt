-- The days of a run so far, by kind.
--     added_to tally u n     the tally with n days more, on which the bank did u
--     tally_of p rs k        the tally of the days 0 to k − 1
--     Under k tally         no kind has more than k days, so that a stretch more fits
use Rattle.std.specs.Prelude.{ℕ, ◌+◌, ◌≤◌, List}
use Rattle.days.specs.Days.{days}
use Rattle.rules.specs.declared.Plan.{Plan}
use Rattle.rules.specs.declared.Release.{Release}
use Rattle.rules.specs.declared.Use.{Use}
use Rattle.rules.specs.declared.Use.TheVariants.{Idle, Work, Move}
use Rattle.base.specs.Count.{count_of}
use Rattle.rules.specs.Run.{history, is_work, is_move, is_idle}
use Rattle.run.specs.declared.tally.Tally.{Tally}

abbrev pub added_to : Tally → Use → ℕ → Tally
added_to tally Idle n = record { work = tally.work; moving = tally.moving; idle = days (tally.idle.0 + n) }
added_to tally (Work i k) n = record { work = days (tally.work.0 + n); moving = tally.moving; idle = tally.idle }
added_to tally (Move i k) n = record { work = tally.work; moving = days (tally.moving.0 + n); idle = tally.idle }

abbrev pub tally_of : Plan → List Release → ℕ → Tally
tally_of p rs k =
    record {
      work = days (count_of is_work (history p rs k));
      moving = days (count_of is_move (history p rs k));
      idle = days (count_of is_idle (history p rs k));
    }

pub record Under (k : ℕ) (tally : Tally) : Type 0 where
  pub work : tally.work.0 ≤ k
  pub moving : tally.moving.0 ≤ k
  pub idle : tally.idle.0 ≤ k
