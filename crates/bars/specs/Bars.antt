-- The run of a plan as bars, a row for each string and a column for each day: the text of `clerk bars`, and each of its lines as it is
-- asked for.
-- In a run of n days on which the bank did us, day by day:
--     drawn_on p i going t r a release r of the string at place i is drawn on day t as long as it has work to come: while the run goes,
--                           from its release day on; on the day of a miss, if that is its deadline
--     to_do rs us k t        the k-th release has had less work than it needs before day t
--     left_over p rs us n i t     a release of the string at place i is drawn on day t and has work to come
--     used_bar i u b         # where the bank works for place i, m where it moves for it, else b
--     bar_in p rs us n i t   the bar of the string at place i on day t: by what the bank does that day; else . for a release that is left
--                           over while the run goes, ! on the day of a miss; a space where there is none
--     bar_at p rs i t        the same in the run of p over rs
-- The columns, by day:
--     long_idle s            s is a stint of more than nine idle days
--     stint_columns s        one for each day of the stint s; one for all where it is a long idle one
--     miss_column p rs       the day of the miss, where there is one
--     drawn p rs            the first seventy columns of the run
--     day_mark c             what stands above the column c: the last digit of its day, or ~ above several days
-- The lines:
--     last_day_of c, end_day p rs the last day of a column; the day on which the run ends
--     idle_words c           which days share the column c; nothing where it is one day's
--     cut_behind cs e        where the columns cs end, if they are seventy and end before day e; nothing elsewhere
--     cut_words p rs         the same of the run's columns and the day on which it ends
--     head_shown, row_shown, idle_shown, cut_shown     the line above, the row of place i, the line for the k-th column, the line at
--                           the end
--     bars_text p rs         the whole text
use Rattle.std.specs.Prelude.{ℕ, ◌+◌, ◌-◌, ◌%◌, Bool, cond, ◌&&◌, ltb, leb, eqb, length, take, get_or}
use mathlib.Core.List.{List, [], ◌∷◌, ◌++◌, map, flat_map}
use Rattle.base.specs.Count.{any, count_of, up_from}
use Rattle.rules.specs.declared.BatteryString.{BatteryString}
use Rattle.rules.specs.declared.Plan.{Plan}
use Rattle.rules.specs.declared.Release.{Release}
use Rattle.rules.specs.declared.Releases.{Releases}
use Rattle.rules.specs.declared.Use.{Use}
use Rattle.rules.specs.declared.Use.TheVariants.{Idle, Work, Move}
use Rattle.rules.specs.declared.Stint.{Stint}
use Rattle.rules.specs.Plan.{strings_of, no_string}
use Rattle.rules.specs.Release.{releases_of, released, deadline_of}
use Rattle.rules.specs.Run.{is_idle, history, miss_day}
use Rattle.rules.specs.Stints.{days_run, run_stints}
use Rattle.rules.specs.Refusal.{run_check}
use Rattle.sound.specs.Served.{works_for}
use Rattle.lines.specs.Bars.{days_row, bar_row, marks_line, idle_line, cut_line}
use Rattle.showing.specs.Shown.{in_place, in_order, on_text}
use Rattle.bars.specs.declared.Column.{Column}

-- ---- Bars

abbrev pub used_bar : ℕ → Use → ℕ → ℕ
used_bar i Idle b = b
used_bar i (Work j k) b = cond (eqb j i) 0x23 b
used_bar i (Move j k) b = cond (eqb j i) 0x6d b

unfoldable pub drawn_on : Plan → ℕ → Bool → ℕ → Release → Bool
drawn_on p i going t r = eqb r.place i && cond going (leb r.day.0 t) (eqb (deadline_of p r) t)

unfoldable pub to_do : List Release → List Use → ℕ → ℕ → Bool
to_do rs us k t = ltb (count_of (works_for k) (take t us)) (released rs k).need.0

module _ (p : Plan) (rs : List Release) (us : List Use) (n : ℕ) where
  unfoldable pub left_over : ℕ → ℕ → Bool
  left_over i t = any (λ k. drawn_on p i (ltb t n) t (released rs k) && to_do rs us k t) (up_from 1 (length rs))

  unfoldable pub bar_in : ℕ → ℕ → ℕ
  bar_in i t =
      let left : ℕ = cond (left_over i t) (cond {A = ℕ} (ltb t n) 0x2e 0x21) 0x20 in
      cond (ltb t n) (used_bar i (get_or us t Idle) left) left

abbrev pub bar_at : Plan → List Release → ℕ → ℕ → ℕ
bar_at p rs i t = bar_in p rs (history p rs (days_run p rs)) (days_run p rs) i t

-- ---- Columns

abbrev pub column : ℕ → ℕ → Column
column t n = record { first = t; days = n }

abbrev pub no_column : Column
no_column = column 0 0

abbrev pub long_idle : Stint → Bool
long_idle s = is_idle s.used && ltb 9 s.length.0

unfoldable pub stint_columns : Stint → List Column
stint_columns s =
    let days = map (λ t. column t 1) (up_from s.first.0 s.length.0) in
    cond (long_idle s) (column s.first.0 s.length.0 ∷ []) days

module _ (p : Plan) (rs : List Release) where
  unfoldable pub miss_column : List Column
  miss_column = cond (leb (miss_day p rs) p.run.0) (column (miss_day p rs) 1 ∷ []) []

  unfoldable pub drawn : List Column
  drawn = take 70 (flat_map stint_columns (run_stints p rs) ++ miss_column)

abbrev pub day_mark : Column → ℕ
day_mark c = cond (ltb 1 c.days) 0x7e (0x30 + c.first % 10)

-- ---- Lines

abbrev pub last_day_of : Column → ℕ
last_day_of c = c.first + (c.days - 1)

unfoldable pub idle_words : Column → List ℕ
idle_words c = cond (ltb 1 c.days) (idle_line c.first (last_day_of c)) []

unfoldable pub cut_behind : List Column → ℕ → List ℕ
cut_behind cs e =
    let last = last_day_of (get_or cs 69 no_column) in
    cond (ltb (length cs) 70) [] (cond (ltb last e) (cut_line last e) [])

module _ (p : Plan) (rs : List Release) where
  unfoldable pub end_day : ℕ
  end_day = cond (leb (miss_day p rs) p.run.0) (miss_day p rs) (p.run.0 - 1)

  unfoldable pub cut_words : List ℕ
  cut_words = cut_behind (drawn p rs) end_day

  unfoldable pub row_words : ℕ → BatteryString → List ℕ
  row_words i s = bar_row i (map (λ c. bar_at p rs i c.first) (drawn p rs))

module _ (p : Plan) (rs : Releases) where
  unfoldable pub head_shown : List ℕ
  head_shown = on_text (run_check p rs) (days_row (map day_mark (drawn p (releases_of rs))))

  unfoldable pub row_shown : ℕ → List ℕ
  row_shown i = on_text (run_check p rs) (in_place (row_words p (releases_of rs)) no_string (strings_of p) i)

  unfoldable pub idle_shown : ℕ → List ℕ
  idle_shown k = on_text (run_check p rs) (in_place (λ i c. idle_words c) no_column (drawn p (releases_of rs)) k)

  unfoldable pub cut_shown : List ℕ
  cut_shown = on_text (run_check p rs) (cut_words p (releases_of rs))

  unfoldable pub bars_text : List ℕ
  bars_text =
      let list = releases_of rs in
      let lines =
      days_row (map day_mark (drawn p list))
      ++ in_order (row_words p list) 1 (strings_of p)
      ++ marks_line
      ++ in_order (λ i c. idle_words c) 1 (drawn p list)
      ++ cut_words p list
      in
      on_text (run_check p rs) lines
