-- Line after line: where the next line starts, and what is read and given of each.
--     first_line xs          the first line of a text that has one
use Rattle.base.proofs.Prelude.{ℕ, zero, suc, ◌+◌, ◌≤◌, ◌<◌, ◌≡◌, refl, sym, ap, ◌∙◌, true, false, cond, List, [], ◌∷◌, ◌++◌, map, arith, dec_le, lt-ltb, le-ltb, ltb, length, take, drop, length-drop, length-take-le, drop_of_length-le, drop-drop, take_all, le_refl}
use Rattle.std.specs.Prelude.{Option, Some, None}
use Rattle.base.specs.Digits.{decimal_in}
use Rattle.base.proofs.Lists.{by_bool}
use Rattle.rules.specs.{declared.BatteryString.BatteryString, Text.{Line, lines_of}}
use Rattle.register.specs.{declared.LineRead.LineRead, declared.Row.Row, declared.Row.TheVariants.{End, Malformed, Says}, Table.{row_fields, line_formed, row_formed, string_said, row_string}, Reader.{line_long, unformed_line, line_given, line_read_at, row_given, row_at, next_of, asked, rows_given}, inner.Fields.bytes_ahead}
use Rattle.register.proofs.Splitting.{ahead_within, lines-open, lines-closed}

abbrev ahead : List ℕ → ℕ
ahead xs = bytes_ahead 0x0a xs

abbrev pub first_line : List ℕ → Line
first_line xs = record { bytes = take (ahead xs) xs; ended = ltb (ahead xs) (length xs) }

module _ (xs : List ℕ) where
  closed-long : ahead xs < length xs → line_long (first_line xs) ≡ ahead xs + 1
  unfolding line_long
  closed-long h = rw (lt-ltb (ahead xs) (length xs) h) (omega (arith, length-take-le (ahead xs) xs (omega arith)))

  open-long : length xs ≤ ahead xs → line_long (first_line xs) ≡ length xs
  unfolding line_long
  open-long h =
      rw (le-ltb (ahead xs) (length xs) h)
      (omega (arith, ap length (take_all (ahead xs) xs h)))

  pub first-within : line_long (first_line xs) ≤ length xs
  first-within =
      elim (dec_le (suc (ahead xs)) (length xs)) [
        | yes h ↦ omega (arith, closed-long h)
        | no h ↦ omega (arith, open-long (omega arith))
      ]

  pub first_some : 1 ≤ length xs → 1 ≤ line_long (first_line xs)
  first_some some =
      elim (dec_le (suc (ahead xs)) (length xs)) [
        | yes h ↦ omega (arith, closed-long h)
        | no h ↦ omega (arith, open-long (omega arith))
      ]

  pub lines-first : 1 ≤ length xs → lines_of xs ≡ first_line xs ∷ lines_of (drop (line_long (first_line xs)) xs)
  unfolding lines_of
  lines-first some =
      elim (dec_le (suc (ahead xs)) (length xs)) [
        | yes h ↦
            let line : record { bytes = take (ahead xs) xs; ended = true } ≡ first_line xs = rw (lt-ltb (ahead xs) (length xs) h) in
            lines-closed xs h ∙ rw (closed-long h) (ap (λ l. l ∷ lines_of (drop (ahead xs + 1) xs)) line)
        | no h ↦
            let over : length xs ≤ ahead xs = omega arith in
            let line : record { bytes = xs; ended = false } ≡ first_line xs = rw (le-ltb (ahead xs) (length xs) over)
            (ap (λ bytes. record { bytes = bytes; ended = false }) (sym (take_all (ahead xs) xs over))) in
            lines-open xs some (omega (arith, ahead_within 0x0a xs))
            ∙ rw (open-long over) (ap (λ l. l ∷ []) line ∙ ap (λ rest. first_line xs ∷ lines_of rest) (sym (drop_of_length-le xs (le_refl
            (length xs)))))
      ]

-- ---- What is given of the line at a place

pub row-none : (text : List ℕ) (at : ℕ) → length text ≤ at → End ≡ row_at text at
unfolding row_at row_given lines_of
row-none text at h = rw (drop_of_length-le text h)

module _ (text : List ℕ) (at : ℕ) (inside : at < length text) where
  abbrev xs : List ℕ
  xs = drop at text

  some : 1 ≤ length xs
  some = omega (arith, length-drop at text)

  abbrev behind : ℕ
  behind = at + line_long (first_line xs)

  pub given_is : row_at text at
      ≡ cond (row_formed (first_line xs)) (Says (row_string (first_line xs)) (at + line_long (first_line xs)))
      (Malformed (at + line_long (first_line xs)))
  unfolding row_at row_given
  given_is = rw (lines-first xs some)

  pub read_is : (count most : ℕ) → line_read_at count most text at
      ≡ cond (line_formed count most (first_line xs))
      (record { numbers = Some (map decimal_in (row_fields (first_line xs))); next = at + line_long (first_line xs) })
      (unformed_line (at + line_long (first_line xs)))
  unfolding line_read_at line_given
  read_is count most = rw (lines-first xs some)

  -- what was read: a line of so many numbers, or another
  module _ (count most : ℕ) (r : LineRead (List ℕ)) (is : r ≡ line_read_at count most text at) where
    pub read-formed : (ns : List ℕ) → r.numbers ≡ Some ns → (line_formed count most (first_line xs) ≡ true)
        × (ns ≡ map decimal_in (row_fields (first_line xs))) × (r.next ≡ at + line_long (first_line xs))
    read-formed ns said =
        by_bool (line_formed count most (first_line xs))
        (λ t.
        let one : r ≡ record { numbers = Some (map decimal_in (row_fields (first_line xs))); next = behind } =
        is ∙ read_is count most ∙ rw t in
        let same : Some ns ≡ Some (map decimal_in (row_fields (first_line xs))) = sym said ∙ ap (λ q. q.numbers) one in
        (t, cc, ap (λ q. q.next) one))
        (λ e.
        let none : r ≡ unformed_line behind = is ∙ read_is count most ∙ rw e in
        absurd (let other : ◌≡◌ {A = Option (List ℕ)} (Some ns) None = sym said ∙ ap (λ q. q.numbers) none in cc))

    pub read-unformed : r.numbers ≡ None → (line_formed count most (first_line xs) ≡ false) × (r.next ≡ at + line_long (first_line xs))
    read-unformed said =
        by_bool (line_formed count most (first_line xs))
        (λ t.
        let one : r ≡ record { numbers = Some (map decimal_in (row_fields (first_line xs))); next = behind } =
        is ∙ read_is count most ∙ rw t in
        absurd (let other : ◌≡◌ {A = Option (List ℕ)} None (Some (map decimal_in (row_fields (first_line xs)))) =
        sym said ∙ ap (λ q. q.numbers) one in cc))
        (λ e.
        let none : r ≡ unformed_line behind = is ∙ read_is count most ∙ rw e in
        (e, ap (λ q. q.next) none))

  -- the row that the numbers say, and a line that is none
  module _ (r : LineRead (List ℕ)) (is : r ≡ line_read_at 6 4 text at) where
    pub row-said : (ns : List ℕ) → r.numbers ≡ Some ns → Says (string_said ns) r.next ≡ row_at text at
    unfolding row_string
    row-said ns said =
        let read = read-formed 6 4 r is ns said in
        let given : row_at text at ≡ Says (row_string (first_line xs)) behind = given_is ∙ rw read.0 in
        ap (λ s. Says (string_said s) r.next) read.1 ∙ ap (Says (row_string (first_line xs))) read.2 ∙ sym given

    pub row-unsaid : r.numbers ≡ None → Malformed r.next ≡ row_at text at
    row-unsaid said =
        let read = read-unformed 6 4 r is said in
        let given : row_at text at ≡ Malformed behind = given_is ∙ rw read.0 in
        ap Malformed read.1 ∙ sym given

  pub next-within : at + line_long (first_line xs) ≤ length text
  next-within = omega (arith, first-within xs, length-drop at text)

  pub next-lines : lines_of xs ≡ first_line xs ∷ lines_of (drop (at + line_long (first_line xs)) text)
  next-lines = lines-first xs some ∙ ap (λ ys. first_line xs ∷ lines_of ys) (drop-drop (line_long (first_line xs)) at text)

  -- ---- What the code learns of a row

  pub says-formed : (s : BatteryString) (next : ℕ) → row_at text at ≡ Says s next
      → (row_formed (first_line xs) ≡ true) × (s ≡ row_string (first_line xs)) × (next ≡ at + line_long (first_line xs))
  says-formed s next said =
      by_bool (row_formed (first_line xs))
      (λ t.
      let same : Says s next ≡ Says (row_string (first_line xs)) behind = sym said ∙ given_is ∙ rw t in
      (t, same_string s (row_string (first_line xs)) next behind same, same_next s (row_string (first_line xs)) next behind same))
      (λ e.
      let other : Says s next ≡ Malformed behind = sym said ∙ given_is ∙ rw e in
      absurd (no_row s next behind other))
    where
      same_string : (s q : BatteryString) (i j : ℕ) → Says s i ≡ Says q j → s ≡ q
      same_string s q i j e = cc

      same_next : (s q : BatteryString) (i j : ℕ) → Says s i ≡ Says q j → i ≡ j
      same_next s q i j e = cc

      no_row : (s : BatteryString) (i j : ℕ) → Says s i ≡ Malformed j → ⊥
      no_row s i j e =
          let z : ◌≡◌ {A = ℕ} 0 1 = cc in
          omega arith

  pub not-formed : (r : Row) → r ≡ row_at text at → ((s : BatteryString) (next : ℕ) → r ≡ Says s next → ⊥)
      → row_formed (first_line xs) ≡ false
  not-formed r is other =
      by_bool (row_formed (first_line xs)) (λ t. absurd (other (row_string (first_line xs)) behind (is ∙ given_is ∙ rw t))) (λ e. e)

-- ---- Line after line

module _ (text : List ℕ) (at : ℕ) where
  -- a place at which a line starts lies in the text
  starts-inside : 1 ≤ length (lines_of (drop at text)) → at < length text
  unfolding lines_of
  starts-inside some =
      elim (dec_le (suc at) (length text)) [
        | yes inside ↦ inside
        | no past ↦
            let over : length text ≤ at = omega arith in
            absurd (omega (arith, ap (λ xs. length (lines_of xs)) (drop_of_length-le text over)))
      ]

  goes_on : (inside : at < length text) → next_of (row_at text at) at ≡ at + line_long (first_line (drop at text))
  goes_on inside =
      let line = first_line (drop at text) in
      by_bool (row_formed line) (λ t. rw (given_is text at inside, t)) (λ e. rw (given_is text at inside, e))

  ended_here : (lines : List Line) → 0 ≡ length lines → row_given lines at ∷ [] ≡ rows_given lines at ++ (End ∷ [])
  unfolding rows_given row_given
  ended_here [] h = refl
  ended_here (line ∷ lines) h = absurd (omega arith)

-- from a place on
asked-lines : (k : ℕ) (text : List ℕ) (at : ℕ) → k ≡ length (lines_of (drop at text))
    → asked (suc k) text at ≡ rows_given (lines_of (drop at text)) at ++ (End ∷ [])
unfolding asked rows_given row_at
asked-lines zero text at h = ended_here text at (lines_of (drop at text)) h
asked-lines (suc k) text at h =
    let inside = starts-inside text at (omega arith) in
    let line = first_line (drop at text) in
    let next = at + line_long line in
    let lines = next-lines text at inside in
    let more : k ≡ length (lines_of (drop next text)) = omega (arith, ap length lines) in
    ap (λ place. row_given (lines_of (drop at text)) at ∷ asked (suc k) text place) (goes_on text at inside)
    ∙ ap (λ rest. row_given (lines_of (drop at text)) at ∷ rest) (asked-lines k text next more)
    ∙ rw lines

-- in order, and to the end
pub lines-in-order : (text : List ℕ) → asked (suc (length (lines_of text))) text 0 ≡ rows_given (lines_of text) 0 ++ (End ∷ [])
lines-in-order text = asked-lines (length (lines_of text)) text 0 refl
