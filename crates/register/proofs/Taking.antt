-- The rows of a table, taken one after the other: what is decided at each.
use Rattle.base.proofs.Prelude.{ℕ, ◌+◌, ◌≤◌, ◌<◌, ◌≡◌, sym, ap, ◌∙◌, true, false, List, [], ◌∷◌, ◌++◌, map, map-append, arith, add-one, lt-ltb, le-ltb, length, take, drop, get_or, set, length-drop, length-map, length-take-le, drop-drop, take-suc, take_all, get_or-drop}
use Rattle.faults.specs.Checks.{Refused, Lawful}
use Rattle.std.specs.Prelude.{Ok}
use Rattle.days.specs.Days.{days}
use Rattle.base.specs.Count.{filled}
use Rattle.base.proofs.Filling.{filled-set}
use Rattle.faults.specs.declared.Fault.{Fault}
use Rattle.faults.specs.declared.Fault.TheVariants.{StringCount, RowMalformed, OutOfBounds}
use Rattle.rules.specs.{declared.BatteryString.BatteryString, Plan.{no_string, string_lawful}, Text.Line}
use Rattle.register.specs.{Table.{row_formed, row_string, row_check, rows_check, table_plan}, inner.Strings.rows_in}

module _ (run : ℕ) (lines : List Line) where
  rows-refused : (f : Fault) (at : ℕ) → rows_check 1 lines ≡ Refused f at → Refused f at ≡ rows_in run lines
  unfolding rows_in
  rows-refused f at e = rw e

  -- all rows were lawful
  pub rows-taken : (n : ℕ) (strings : List BatteryString) → drop n lines ≡ [] → n ≤ length lines
      → rows_check 1 lines ≡ rows_check (n + 1) (drop n lines)
      → strings ≡ filled 10 no_string (map row_string (take n lines))
      → Ok (record { n = n; run = days run; strings = strings }) ≡ rows_in run lines
  unfolding rows_in rows_check table_plan
  rows-taken n strings none upto same said =
      let count : n ≡ length lines = omega (arith, length-drop n lines, ap length none) in
      let lawful : rows_check 1 lines ≡ Lawful = same ∙ ap (rows_check (n + 1)) none in
      let all : take n lines ≡ lines = take_all n lines (omega arith) in
      rw (lawful, ← count, ← all) (ap (λ ss. Ok (record { n = n; run = days run; strings = ss })) (said ∙ rw all))

  module _ (n : ℕ) (line : Line) (rest : List Line) (here : drop n lines ≡ line ∷ rest)
      (same : rows_check 1 lines ≡ rows_check (n + 1) (drop n lines))
    where
      refused-here : (f : Fault) → row_check (n + 1) line ≡ Refused f (n + 1) → Refused f (n + 1) ≡ rows_in run lines
      unfolding rows_check
      refused-here f e = rows-refused f (n + 1) (same ∙ rw (here, e))

      pub eleventh : 10 < n + 1 → Refused StringCount (n + 1) ≡ rows_in run lines
      eleventh h = refused-here StringCount (unfold row_check in rw (lt-ltb 10 (n + 1) h))

      module _ (few : n + 1 ≤ 10) where
        pub no_row : row_formed line ≡ false → Refused RowMalformed (n + 1) ≡ rows_in run lines
        no_row e = refused-here RowMalformed (unfold row_check in rw (le-ltb 10 (n + 1) few, e))

        module _ (formed : row_formed line ≡ true) where
          pub out-of-bounds : string_lawful (row_string line) ≡ false → Refused OutOfBounds (n + 1) ≡ rows_in run lines
          out-of-bounds e = refused-here OutOfBounds (unfold row_check in rw (le-ltb 10 (n + 1) few, formed, e))

          pub rows-later : drop (n + 1) lines ≡ rest
          rows-later = sym (drop-drop 1 n lines) ∙ ap (drop 1) here

          pub check-next : string_lawful (row_string line) ≡ true → rows_check 1 lines ≡ rows_check (n + 1 + 1) (drop (n + 1) lines)
          unfolding rows_check row_check
          check-next t = same ∙ rw (here, rows-later, add-one (n + 1), le-ltb 10 (n + 1) few, formed, t)

          counted : n < length lines
          counted = omega (arith, length-drop n lines, ap length here)

          this : get_or lines n line ≡ line
          this =
              let at : n + 0 ≡ n = omega arith in
              sym (ap (λ k. get_or lines k line) at) ∙ sym (get_or-drop n lines 0 line) ∙ ap (λ l. get_or l 0 line) here

          pub said-next : (strings : List BatteryString) → strings ≡ filled 10 no_string (map row_string (take n lines))
              → set strings n (row_string line) ≡ filled 10 no_string (map row_string (take (n + 1) lines))
          said-next strings said =
              let ahead = map row_string (take n lines) in
              let size : length ahead ≡ n = length-map (take n lines) row_string ∙ length-take-le n lines (omega (arith, counted)) in
              let one : take (n + 1) lines ≡ take n lines ++ (line ∷ []) = rw (add-one n) (take-suc lines n line counted
              ∙ ap (λ l. take n lines ++ (l ∷ [])) this) in
              ap (λ ss. set ss n (row_string line)) said
              ∙ ap (λ k. set (filled 10 no_string ahead) k (row_string line)) (sym size)
              ∙ filled-set 10 no_string (row_string line) ahead (omega arith)
              ∙ ap (filled 10 no_string) (sym (map-append row_string (take n lines) (line ∷ [])) ∙ ap (map row_string) (sym one))
