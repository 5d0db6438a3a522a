-- The input: the first line is the start, and the others are the diary.
use Rattle.base.proofs.Prelude.{ℕ, ◌+◌, ◌≤◌, ◌≡◌, refl, sym, ap, ◌∙◌, true, false, cond, List, [], ◌∷◌, arith, ltb, length, take, drop}
use Rattle.faults.specs.Checks.{Refused}
use Rattle.std.specs.Prelude.{Result, Ok, Err}
use Rattle.base.proofs.Lists.{by_bool, true-not-false}
use Rattle.days.specs.{declared.Day.Day, Days.day}
use Rattle.faults.specs.{declared.Refusal.Refusal, declared.Fault.TheVariants.NoSuchDate}
use Rattle.faults.proofs.Checks.{by-checked, err-not-ok}
use Rattle.calendar.specs.{Numbers.day_number, Texts.date_in}
use Rattle.rules.specs.Text.{Line, lines_of}
use Rattle.register.specs.{Reader.line_long, inner.Fields.bytes_ahead}
use Rattle.register.proofs.Walk.{first_line, lines-first}
use Rattle.boards.specs.{Input.{start_right, start_check, start_said, diary_check, input_check, input_reading, entered_in, refused_input}, inner.Walk.{start_of, noting_of, entered_with}}
use Rattle.boards.proofs.Noting.{behind-is}

module _ (n : ℕ) where
  -- a start that is not right
  wrong : (text : List ℕ) → start_right n (first_line text) ≡ false → refused_input NoSuchDate 0 ≡ input_reading n text
  unfolding input_reading input_check start_check lines_of
  wrong [] e = refl
  wrong (b ∷ bs) e = rw (lines-first (b ∷ bs) (omega arith), e)

  pub start-refused : (text : List ℕ) (e : Refusal) → start_of n (first_line text) ≡ Err e → Err e ≡ entered_in (input_reading n text)
  unfolding start_of
  start-refused text e h =
      by_bool (start_right n (first_line text))
      (λ t. absurd (err-not-ok e _ (sym (rw t at h))))
      (λ f.
      let there : ◌≡◌ {A = Result Day Refusal} (Refused NoSuchDate 0) (Err e) = rw f at h in
      let same : record { fault = NoSuchDate; at = 0 } ≡ e = cc in
      ap Err (sym same) ∙ ap entered_in (wrong text f))

  -- a text whose first line is right has a line
  some : (text : List ℕ) → start_right n (first_line text) ≡ true → 1 ≤ length text
  unfolding start_right bytes_ahead
  some [] t = absurd (true-not-false (sym t))
  some (b ∷ bs) t = omega arith

  module _ (text : List ℕ) where
    abbrev rest : List Line
    rest = lines_of (drop (line_long (first_line text)) text)

    -- the diary decides
    decided : start_right n (first_line text) ≡ true
        → entered_with (day (day_number (date_in (first_line text).bytes))) (noting_of rest) ≡ entered_in (input_reading n text)
    unfolding input_reading input_check start_check start_said entered_with noting_of
    decided t =
        let lines = lines-first text (some text t) in
        by-checked (diary_check 1 rest) (λ c. rw (lines, t, c)) (λ f at c. rw (lines, t, c))

    pub start-found : (d : Day) → start_of n (first_line text) ≡ Ok d → entered_with d (noting_of rest) ≡ entered_in (input_reading n text)
    unfolding start_of
    start-found d h =
        by_bool (start_right n (first_line text))
        (λ t.
        let said : ◌≡◌ {A = Result Day Refusal} (Ok (day (day_number (date_in (first_line text).bytes)))) (Ok d) = rw t at h in
        ap (λ e. entered_with e (noting_of rest)) (sym (same (day (day_number (date_in (first_line text).bytes))) d said)) ∙ decided t)
        (λ e. absurd (never d (rw e at h)))
      where
        same : (e f : Day) → ◌≡◌ {A = Result Day Refusal} (Ok e) (Ok f) → e ≡ f
        same e f is = cc

        never : (e : Day) → Refused NoSuchDate 0 ≡ Ok e → ⊥
        never e is = err-not-ok _ e is

-- ---- The first line, as it is cut from the text

module _ (text : List ℕ) where
  pub first-end : (end : ℕ) → end ≡ 0 + bytes_ahead 0x0a (drop 0 text) → end ≡ bytes_ahead 0x0a text
  first-end end is = omega arith

  pub first-cut : (end : ℕ) → end ≡ 0 + bytes_ahead 0x0a (drop 0 text)
      → record { bytes = take end text; ended = ltb end (length text) } ≡ first_line text
  first-cut end is = ap (λ e. record { bytes = take e text; ended = ltb e (length text) }) (first-end end is)

  pub first-behind : (end : ℕ) → end ≡ 0 + bytes_ahead 0x0a (drop 0 text)
      → cond (ltb end (length text)) (end + 1) end ≡ line_long (first_line text)
  first-behind end is =
      let all = behind-is text 0 (omega arith) in
      ap (λ e. cond (ltb e (length text)) (e + 1) e) is ∙ omega arith
