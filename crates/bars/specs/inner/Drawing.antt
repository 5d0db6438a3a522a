-- The bars as the code draws them, from the stints of a run in a list of numbers, five for each.
--     uses_told list n       what the bank did day by day, by the first n stints of the list
--     ColumnEnds c               the column c has a day at least and ends within a run
--     cols_of d              the columns drawn so far
--     UpToSeventy d                there is room for seventy, no more are drawn, and they are brief
--     Drawing d cs          they are the first seventy of cs
--     SheetOf p rs s list   the sheet s and the list say the run of p over rs: what the bank did, how many days it goes, the day on which
--                           it ends, and its columns
--     left_now p i going t r us k     the k-th release, r, is drawn on day t for the string at place i, and has work to come
--     missed_column m        the column of a miss on the day m, if there is one; MissEnds m: it ends within a run
--     SheetGiven p rs r list    what comes of a sheet: that of a lawful run, or why the run is refused
--     cells_of p rs us n i d the bars of the string at place i in the columns of d
use Rattle.std.specs.Prelude.{ℕ, ◌+◌, ◌≤◌, ◌<◌, ◌≡◌, Bool, ◌&&◌, List, [], ◌∷◌, Option, Some, None, Result, Ok, Err, map, ltb, length, take, get_or}
use Rattle.base.specs.Count.{count_of}
use Rattle.faults.specs.Checks.{Lawful}
use Rattle.faults.specs.declared.Refusal.{Refusal}
use Rattle.rules.specs.declared.Releases.{Releases}
use Rattle.rules.specs.Release.{releases_of}
use Rattle.rules.specs.Refusal.{run_check}
use Rattle.rules.specs.declared.Plan.{Plan}
use Rattle.rules.specs.declared.Release.{Release}
use Rattle.rules.specs.declared.Use.{Use}
use Rattle.rules.specs.Run.{history}
use Rattle.rules.specs.Stints.{days_run}
use Rattle.sound.specs.Served.{works_for}
use Rattle.stretch.specs.Stints.{spelled}
use Rattle.visits.specs.inner.Own.{stints_in}
use Rattle.bars.specs.declared.Column.{Column}
use Rattle.bars.specs.declared.columns.Drawn.{Drawn}
use Rattle.bars.specs.declared.sheet.Sheet.{Sheet}
use Rattle.bars.specs.Bars.{column, no_column, drawn_on, bar_in, drawn, end_day}

abbrev pub uses_told : List ℕ → ℕ → List Use
uses_told list n = spelled (stints_in list n)

pub record ColumnEnds (c : Column) : Type 0 where
  pub some : 1 ≤ c.days
  pub ends : c.first + c.days ≤ 1000001

abbrev pub cols_of : Drawn → List Column
cols_of d = take d.count d.columns

pub record UpToSeventy (d : Drawn) : Type 0 where
  pub few : d.count ≤ 70
  pub room : length d.columns ≡ 70
  pub brief : (i : ℕ) → i < d.count → ColumnEnds (get_or d.columns i no_column)

pub record Drawing (d : Drawn) (cs : List Column) : Type 0 where
  pub fits : UpToSeventy d
  pub are : cols_of d ≡ take 70 cs

pub record SheetOf (p : Plan) (rs : List Release) (s : Sheet) (list : List ℕ) : Type 0 where
  pub uses : uses_told list s.stints ≡ history p rs (days_run p rs)
  pub days : s.days ≡ days_run p rs
  pub end : s.end ≡ end_day p rs
  pub fits : UpToSeventy s.drawn
  pub are : cols_of s.drawn ≡ drawn p rs

abbrev pub left_now : Plan → ℕ → Bool → ℕ → Release → List Use → ℕ → Bool
left_now p i going t r us k = drawn_on p i going t r && ltb (count_of (works_for k) (take t us)) r.need.0

abbrev pub cells_of : Plan → List Release → List Use → ℕ → ℕ → Drawn → List ℕ
cells_of p rs us n i d = map (λ (c : Column). bar_in p rs us n i c.first) (cols_of d)

-- ---- What is asked and answered

-- the column of a miss
abbrev pub missed_column : Option ℕ → List Column
missed_column (Some t) = column t 1 ∷ []
missed_column None = []

abbrev pub MissEnds : Option ℕ → Type 0
MissEnds (Some t) = t ≤ 1000000
MissEnds None = Unit {0}

-- the sheet of a lawful run, or why the run is refused
abbrev pub SheetGiven : Plan → Releases → Result Sheet Refusal → List ℕ → Type 0
SheetGiven p rs (Ok s) list = (run_check p rs ≡ Lawful) × SheetOf p (releases_of rs) s list
SheetGiven p rs (Err e) list = run_check p rs ≡ Err e
