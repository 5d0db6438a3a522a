-- What a C program is told: of an answer a kind, which the entry returns, and four numbers, which go to the places that are lent; of a text
-- its length, which the entry returns, and its bytes, which go to the page that is lent.
--     kind  what is said          the four numbers
--     0     refused               the refusal number, and the place, the place in the release list, or 0 for the whole
--     1     pass                  pairs
--     2     fail                  interval, blocking, demand, pairs
--     3     overload              pairs, which are 0
--     4     takers                the set
--     5     none
--     6     clean                 days of work, of moving, idle days
--     7     miss                  day, place
--     8     lawful
--     9     fewer than four places are lent: nothing is written, whatever the answer is
--     10    a date                year, month, day
--     11    a day                 its number
--     12    stints                how many are listed
--     13    no list misses: the plan passes
--     14    no list misses, though the plan fails
--     15    a list misses         the days of its run
--     16    a list misses, and it has over 1,000 releases
--     17    none was found
--     18    a limit               its value
--     19    no limit: no lawful value passes
-- Where fewer than four numbers are said, 0 stands in the places after them.
--     row_of s               kind and numbers of what an answer says (rules/specs/Said.antt)
--     stinted_row s          the same of what is answered where the stints of a run are asked for
--     missing_row m          the same of what is answered where it is asked whether a plan can miss
--     limited_row l          the same of a limit
--     limit_row a            the same of what is answered where a limit is asked for
--     date_row w, day_row w   the same of the calendar's answers
--     kind_told r places     what is returned
--     places_told r places   the places afterwards: the four numbers, and then its own later places
--     list_told told list places     a lent list afterwards: what is told of it, and itself where fewer than four places are lent
-- What is returned of a text, and the page afterwards: lines/specs/Pages.antt.
use Rattle.std.specs.Prelude.{ℕ, cond, List, [], ◌∷◌, ◌++◌, ltb, length, drop}
use Rattle.calendar.specs.declared.Date.{Date}
use Rattle.days.specs.declared.Day.{Day}
use Rattle.faults.specs.declared.Refusal.{Refusal}
use Rattle.std.specs.Prelude.{Ok, Err, Result, Some, None}
use Rattle.lines.specs.Limits.{Limit}
use Rattle.faults.specs.Checks.{fault_number}
use Rattle.rules.specs.Said.{Said, lawful, refused, overload, fail, pass, takers, none, miss, clean}
use Rattle.tries.specs.declared.Missing.{Missing}
use Rattle.tries.specs.declared.Missing.TheVariants as missing
use Rattle.entries.specs.declared.told.Row.{Row}

abbrev pub row : ℕ → ℕ → ℕ → ℕ → ℕ → Row
row kind a b c d = record { kind = kind; first = a; second = b; third = c; fourth = d }

abbrev pub refused_row : ℕ → ℕ → Row
refused_row number at = row 0 number at 0 0

abbrev pub row_of : Said → Row
row_of (refused number at) = refused_row number at
row_of (pass k) = row 1 k 0 0 0
row_of (fail l b d k) = row 2 l b d k
row_of (overload k) = row 3 k 0 0 0
row_of (takers set) = row 4 set 0 0 0
row_of none = row 5 0 0 0 0
row_of (clean w m i) = row 6 w m i 0
row_of (miss t i) = row 7 t i 0 0
row_of lawful = row 8 0 0 0 0

abbrev pub stinted_row : Result ℕ Refusal → Row
stinted_row (Err e) = refused_row (fault_number e.fault) e.at
stinted_row (Ok k) = row 12 k 0 0 0

abbrev pub missing_row : Result Missing Refusal → Row
missing_row (Err e) = refused_row (fault_number e.fault) e.at
missing_row (Ok missing.Passes) = row 13 0 0 0 0
missing_row (Ok missing.Never) = row 14 0 0 0 0
missing_row (Ok (missing.Found n rs)) = row 15 n.0 0 0 0
missing_row (Ok missing.TooMany) = row 16 0 0 0 0
missing_row (Ok missing.NoneFound) = row 17 0 0 0 0

abbrev pub limited_row : Limit → Row
limited_row None = row 19 0 0 0 0
limited_row (Some v) = row 18 v 0 0 0

abbrev pub limit_row : Result Limit Refusal → Row
limit_row (Err e) = refused_row (fault_number e.fault) e.at
limit_row (Ok l) = limited_row l

abbrev pub date_row : Result Date Refusal → Row
date_row (Ok d) = row 10 d.year d.month d.day 0
date_row (Err e) = refused_row (fault_number e.fault) e.at

abbrev pub day_row : Result Day Refusal → Row
day_row (Ok k) = row 11 k.0 0 0 0
day_row (Err e) = refused_row (fault_number e.fault) e.at

-- ---- Into lent memory

abbrev pub numbers_of : Row → List ℕ
numbers_of r = r.first ∷ r.second ∷ r.third ∷ r.fourth ∷ []

unfoldable pub kind_told : Row → List ℕ → ℕ
kind_told r places = cond (ltb (length places) 4) 9 r.kind

unfoldable pub places_told : Row → List ℕ → List ℕ
places_told r places = cond (ltb (length places) 4) places (numbers_of r ++ drop 4 places)

unfoldable pub list_told : (List ℕ → List ℕ) → List ℕ → List ℕ → List ℕ
list_told told list places = cond (ltb (length places) 4) list (told list)
