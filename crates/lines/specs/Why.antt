-- The lines that say where a verdict comes from, as bytes. Each ends by one byte 0a.
--     padded w text         the text, with spaces behind it to fill w columns
--     columned text n       the text and, behind it, the number n: it ends in column 41, so that numbers stand under each other, and at
--                           least one space stands ahead of it
--     pair_line l b          interval l blocking b
--     blocker_line i e d     blocker string i: E e, due d, holds at most e − 1: the string at place i, with its E and D
--     blocking_line b        blocking                                4
--     jobs_words k           0 jobs, 1 job, 2 jobs
--     days_words w           in 0 days, in 1 day, in 2 days, behind a space
--     share_line i k w e     string 1   1 job in 6 days, 3 each      3: the string at place i has k jobs in w days, each of e days
--     demand_line d l        demand 7 of 6: 1 too many; demand 5 of 6: 1 spare
--     multiple_line h        H h
--     over_line load h       load 3 of 2: 1 too many
--     stair_line l d         interval 35 demand 41 over 6; interval 55 demand 52 spare 3
--     stretch_line l m end   broken at 35 to 40, of 90; broken at 35, of 90 where it is one interval
--     nowhere_line end       broken nowhere, of 90
use Rattle.std.specs.Prelude.{ℕ, ◌-◌, ◌*◌, cond, List, [], ◌∷◌, ◌++◌, ltb, eqb, length, replicate}
use Rattle.rules.specs.Lines.{bytes_of, decimal, worded}

-- ---- Columns

unfoldable pub padded : ℕ → List ℕ → List ℕ
padded w text = text ++ replicate (w - length text) 0x20

unfoldable pub columned : List ℕ → ℕ → List ℕ
columned text n = padded (41 - length (decimal n)) (text ++ bytes_of " ") ++ decimal n ++ bytes_of "\n"

-- ---- A pair, string by string

unfoldable pub pair_line : ℕ → ℕ → List ℕ
pair_line l b = worded "interval # blocking #\n" (decimal l ∷ decimal b ∷ [])

unfoldable pub blocker_line : ℕ → ℕ → ℕ → List ℕ
blocker_line i e d =
    worded "blocker string #: E #, due #, holds at most #\n" (decimal i ∷ decimal e ∷ decimal d ∷ decimal (e - 1) ∷ [])

unfoldable pub blocking_line : ℕ → List ℕ
blocking_line b = columned (bytes_of "blocking") b

unfoldable pub jobs_words : ℕ → List ℕ
jobs_words k = cond (eqb k 1) (worded "# job" (decimal k ∷ [])) (worded "# jobs" (decimal k ∷ []))

unfoldable pub days_words : ℕ → List ℕ
days_words w = cond (eqb w 1) (worded " in # day" (decimal w ∷ [])) (worded " in # days" (decimal w ∷ []))

unfoldable pub share_line : ℕ → ℕ → ℕ → ℕ → List ℕ
share_line i k w e =
    columned
    (padded 11 (worded "string #" (decimal i ∷ [])) ++ jobs_words k ++ days_words w ++ worded ", # each" (decimal e ∷ []))
    (k * e)

unfoldable pub demand_line : ℕ → ℕ → List ℕ
demand_line d l =
    cond (ltb l d)
    (worded "demand # of #: # too many\n" (decimal d ∷ decimal l ∷ decimal (d - l) ∷ []))
    (worded "demand # of #: # spare\n" (decimal d ∷ decimal l ∷ decimal (l - d) ∷ []))

-- ---- A load, string by string

unfoldable pub multiple_line : ℕ → List ℕ
multiple_line h = worded "H #\n" (decimal h ∷ [])

unfoldable pub over_line : ℕ → ℕ → List ℕ
over_line load h = worded "load # of #: # too many\n" (decimal load ∷ decimal h ∷ decimal (load - h) ∷ [])

-- ---- The demand, interval by interval

unfoldable pub stair_line : ℕ → ℕ → List ℕ
stair_line l d =
    cond (ltb l d)
    (worded "interval # demand # over #\n" (decimal l ∷ decimal d ∷ decimal (d - l) ∷ []))
    (worded "interval # demand # spare #\n" (decimal l ∷ decimal d ∷ decimal (l - d) ∷ []))

unfoldable pub stretch_line : ℕ → ℕ → ℕ → List ℕ
stretch_line l m end =
    cond (eqb l m)
    (worded "broken at #, of #\n" (decimal l ∷ decimal end ∷ []))
    (worded "broken at # to #, of #\n" (decimal l ∷ decimal m ∷ decimal end ∷ []))

unfoldable pub nowhere_line : ℕ → List ℕ
nowhere_line end = worded "broken nowhere, of #\n" (decimal end ∷ [])
