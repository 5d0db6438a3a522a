-- What is read of the line that starts at a place of a text.
use Rattle.base.proofs.Prelude.{ℕ, suc, ◌+◌, ◌-◌, ◌≤◌, ◌<◌, ◌≡◌, ◌≢◌, refl, sym, ap, ◌∙◌, true, false, List, [], ◌∷◌, ◌++◌, map, arith, dec_le, eqb, eqb-true, length, take, drop, get_or, length-append, length-drop, length-take-le, drop_of_length-le, take-append_seam, take-suc, take_all}
use lib.Seq.{get_or-append_seam}
use Rattle.std.specs.Prelude.{Some, None, position}
use Rattle.base.specs.Digits.{decimal_in}
use Rattle.base.proofs.Lists.{by_bool, true-not-false}
use Rattle.rules.specs.Text.{Line, lines_of}
use Rattle.register.specs.{Table.{fields_of, numbers_formed, row_fields, line_formed}, Reader.{line_long, unformed_line, line_given, line_read_at}, inner.Fields.{bytes_ahead, numbers_in}}
use Rattle.register.proofs.Splitting.{register_found, not-found, lines-open, lines-closed}

-- a line whose last byte is a CR is what stands ahead of it, and the CR
last-split : (bytes : List ℕ) → eqb (get_or bytes (length bytes - 1) 0) 0x0d ≡ true → bytes ≡ take (length bytes - 1) bytes ++ (0x0d ∷ [])
last-split [] t = absurd (true-not-false (sym t))
last-split (b ∷ bs) t =
    let all : suc (length (b ∷ bs) - 1) ≡ length (b ∷ bs) = omega arith in
    sym (take_all (suc (length (b ∷ bs) - 1)) (b ∷ bs) (omega arith))
    ∙ take-suc (b ∷ bs) (length (b ∷ bs) - 1) 0 (omega arith)
    ∙ ap (λ c. take (length (b ∷ bs) - 1) (b ∷ bs) ++ (c ∷ [])) (eqb-true (get_or (b ∷ bs) (length (b ∷ bs) - 1) 0) 0x0d t)

module _ (count most : ℕ) where
  -- ---- A line

  given-formed : (line : Line) (lines : List Line) (at : ℕ) → line_formed count most line ≡ true
      → line_given count most (line ∷ lines) at
      ≡ record { numbers = Some (map decimal_in (row_fields line)); next = at + line_long line }
  unfolding line_given
  given-formed line lines at t = rw t

  given-not : (line : Line) (lines : List Line) (at : ℕ) → line_formed count most line ≡ false
      → line_given count most (line ∷ lines) at ≡ unformed_line (at + line_long line)
  unfolding line_given
  given-not line lines at e = rw e

  module _ (text : List ℕ) (at : ℕ) where
    pub given-end : length text ≤ at → unformed_line at ≡ line_read_at count most text at
    unfolding line_read_at line_given lines_of
    given-end h = rw (drop_of_length-le text h)

    abbrev xs : List ℕ
    xs = drop at text

    -- no 0a
    pub given-open : at ≤ length text → position (λ b. eqb b 0x0a) xs ≡ None → unformed_line (length text) ≡ line_read_at count most text at
    unfolding line_read_at line_long line_formed
    given-open inside none =
        let size = length-drop at text in
        elim (dec_le (length text) at) [
          | yes over ↦
              let end : at ≡ length text = omega arith in
              rw (← end) (given-end over)
          | no more ↦
              let long : at + (length xs + 0) ≡ length text = omega arith in
              sym (ap (λ lines. line_given count most lines at) (lines-open xs (omega arith) (not-found 0x0a xs none))
              ∙ given-not (record { bytes = xs; ended = false }) [] at refl ∙ ap unformed_line long)
        ]

    module _ (end : ℕ) (found-here : position (λ b. eqb b 0x0a) xs ≡ Some end) where
      abbrev bytes : List ℕ
      bytes = take end xs

      abbrev line : Line
      line = record { bytes = bytes; ended = true }

      here : (bytes_ahead 0x0a xs ≡ end) × (end < length xs)
      here = register_found 0x0a xs end found-here

      long : length bytes ≡ end
      long = length-take-le end xs (omega (arith, here))

      starts : line_read_at count most text at ≡ line_given count most (line ∷ lines_of (drop (end + 1) xs)) at
      unfolding line_read_at
      starts = ap (λ lines. line_given count most lines at) (rw here.0 at (lines-closed xs (omega (arith, here))))

      behind : at + line_long line ≡ at + end + 1
      unfolding line_long
      behind = omega (arith, long)

      -- no CR ahead of it
      pub given-other : ((row : List ℕ) → bytes ≢ row ++ (0x0d ∷ [])) → unformed_line (at + end + 1) ≡ line_read_at count most text at
      unfolding line_formed
      given-other other =
          sym (starts ∙ given-not line (lines_of (drop (end + 1) xs)) at no_return ∙ ap unformed_line behind)
        where
          no_return : line_formed count most line ≡ false
          no_return =
              by_bool (eqb (get_or bytes (length bytes - 1) 0) 0x0d)
              (λ t. absurd (other (take (length bytes - 1) bytes) (last-split bytes t)))
              (λ e. rw e)

      -- the numbers that were looked for
      pub given-numbers : (row : List ℕ) → bytes ≡ row ++ (0x0d ∷ [])
          → record { numbers = numbers_in count most (fields_of row); next = at + end + 1 } ≡ line_read_at count most text at
      unfolding numbers_in row_fields line_formed
      given-numbers row is =
          by_bool (numbers_formed count most (fields_of row))
          (λ t. rw t (sym (starts ∙ given-formed line (lines_of (drop (end + 1) xs)) at (formed_is ∙ t) ∙ rw (behind, fields_are))))
          (λ e. rw e (sym (starts ∙ given-not line (lines_of (drop (end + 1) xs)) at (formed_is ∙ e) ∙ ap unformed_line behind)))
        where
          ahead : length bytes - 1 ≡ length row
          ahead = omega (arith, ap length is, length-append row (0x0d ∷ []))

          fields_are : row_fields line ≡ fields_of row
          fields_are = rw (ahead, is) (ap fields_of (take-append_seam row (0x0d ∷ [])))

          formed_is : line_formed count most line ≡ numbers_formed count most (fields_of row)
          formed_is =
              let last : get_or bytes (length bytes - 1) 0 ≡ 0x0d = rw (ahead, is) (get_or-append_seam row 0x0d [] 0) in
              rw last (ap (numbers_formed count most) fields_are)
