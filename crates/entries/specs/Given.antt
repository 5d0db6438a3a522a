-- What a C program gives. A plan is a row of numbers: N, then T, C, D, X, the moving cost A and the late days J of each string, by place. A
-- list of releases is a row of numbers too: day, place, need and due day of each.
--     string_count ns        n, where the numbers are N and six for each of at most ten strings; 0 otherwise, which is refused (4 with 0)
--     string_from ns at      the string whose six numbers start at `at`
--     plan_given ns          the plan that the numbers say
--     release_count ns       the releases, four numbers each; a last one that lacks a number counts
--     need_from ns at        the need of the release whose four numbers start at `at`; 0 where one of them is lacking, which is refused (8
--                           with the release's place in the list)
--     release_from ns at     that release; another number that is lacking is 0
--     releases_given ns      the releases that the numbers say; over 1,000 they are refused (7 with 1,001), and no later one is looked at
--     limit_given p i c      the limit of the number that the letter c names, C, D, T, A or J in ASCII; another letter names none, and is
--                           answered as a place without a string
--     date_given y m d       the date of three numbers, whether it exists or not
use Rattle.std.specs.Prelude.{ℕ, ◌+◌, ◌*◌, ◌/◌, ◌%◌, min, cond, ◌&&◌, List, map, leb, ltb, eqb, length, get_or}
use Rattle.faults.specs.declared.Refusal.{Refusal}
use Rattle.std.specs.Prelude.{Result}
use Rattle.lines.specs.Limits.{Limit}
use Rattle.base.specs.Count.{up_from, filled}
use Rattle.days.specs.Days.{day, days}
use Rattle.rules.specs.declared.BatteryString.{BatteryString}
use Rattle.rules.specs.declared.Plan.{Plan}
use Rattle.rules.specs.declared.Release.{Release}
use Rattle.rules.specs.declared.Releases.{Releases}
use Rattle.rules.specs.Plan.{no_string}
use Rattle.rules.specs.Release.{no_release}
use Rattle.calendar.specs.declared.Date.{Date}
use Rattle.slack.specs.declared.Letter.TheVariants as letter
use Rattle.slack.specs.Slack.{limit_answer}

unfoldable pub string_count : List ℕ → ℕ
string_count ns = cond (eqb (length ns % 6) 1 && leb (length ns / 6) 10) (length ns / 6) 0

abbrev pub string_from : List ℕ → ℕ → BatteryString
string_from ns at =
    record {
      t = days (get_or ns at 0);
      c = days (get_or ns (at + 1) 0);
      d = days (get_or ns (at + 2) 0);
      x = get_or ns (at + 3) 0;
      a = days (get_or ns (at + 4) 0);
      j = days (get_or ns (at + 5) 0);
    }

unfoldable pub plan_given : List ℕ → Plan
plan_given ns =
    record {
      n = string_count ns;
      run = days (get_or ns 0 0);
      strings = filled 10 no_string (map (λ i. string_from ns (1 + i * 6)) (up_from 0 (string_count ns)));
    }

unfoldable pub release_count : List ℕ → ℕ
release_count ns = (length ns + 3) / 4

unfoldable pub need_from : List ℕ → ℕ → ℕ
need_from ns at = cond (ltb (at + 3) (length ns)) (get_or ns (at + 2) 0) 0

abbrev pub release_from : List ℕ → ℕ → Release
release_from ns at =
    record {
      day = day (get_or ns at 0);
      place = get_or ns (at + 1) 0;
      need = days (need_from ns at);
      due = day (get_or ns (at + 3) 0);
    }

unfoldable pub releases_given : List ℕ → Releases
releases_given ns =
    record {
      count = release_count ns;
      list = filled 1000 no_release (map (λ i. release_from ns (i * 4)) (up_from 0 (min 1000 (release_count ns))));
    }

abbrev pub date_given : ℕ → ℕ → ℕ → Date
date_given y m d = record { year = y; month = m; day = d }

unfoldable pub limit_given : Plan → ℕ → ℕ → Result Limit Refusal
limit_given p i c =
    cond (eqb c 0x43) (limit_answer p i letter.C)
    (cond (eqb c 0x44) (limit_answer p i letter.D)
    (cond (eqb c 0x54) (limit_answer p i letter.T)
    (cond (eqb c 0x41) (limit_answer p i letter.A)
    (cond (eqb c 0x4a) (limit_answer p i letter.J)
    (limit_answer p 0 letter.C)))))
