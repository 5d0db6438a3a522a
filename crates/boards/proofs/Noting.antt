-- The diary, line after line: what is decided at each, and what the lines so far come to.
use Rattle.base.proofs.Prelude.{ℕ, suc, ◌+◌, ◌-◌, ◌≤◌, ◌<◌, ◌≡◌, sym, ap, ◌∙◌, true, not, cond, ◌&&◌, List, [], ◌∷◌, ◌++◌, map, map-append, arith, add-one, lt-ltb, le-ltb, ltb, leb, leb-true, not-false, dec_le, length, take, drop, get_or, set, length-drop, length-map, length-take-le, drop-drop, take-suc, take_all, get_or-drop}
use Rattle.faults.specs.Checks.{Lawful}
use mathlib.Core.Path.{ap₂}
use Rattle.base.specs.Count.{filled}
use Rattle.base.proofs.{Filling.filled-set, Lists.{and_left, and_right}}
use Rattle.faults.specs.declared.Refusal.{Refusal}
use Rattle.std.specs.Prelude.{Ok, Err}
use Rattle.faults.specs.declared.Fault.TheVariants.{NoSuchDate, NoSuchEdition}
use Rattle.faults.specs.Checks.{refuse_if}
use Rattle.faults.proofs.Checks.{then-second, refuse_if-not}
use Rattle.calendar.specs.{Yearly.{no_edition, in_no_year}, Texts.fits}
use Rattle.rules.specs.Text.{Line}
use Rattle.register.specs.{Reader.line_long, inner.Fields.bytes_ahead}
use Rattle.register.proofs.{Splitting.ahead_within, Walk.first_line}
use Rattle.boards.specs.{declared.Test.Test, Input.{diary_form, set_for, test_in, test_right, test_check, diary_check, diary_in, no_test}, inner.Walk.{noted_of, noting_of}}
use Rattle.boards.proofs.Answered.{check-refused, check-lawful}

-- ---- The line at a place, as it is cut from the text

module _ (text : List ℕ) (at : ℕ) (inside : at ≤ length text) where
  abbrev xs : List ℕ
  xs = drop at text

  abbrev end : ℕ
  end = at + bytes_ahead 0x0a xs

  pub cut : record { bytes = take (end - at) xs; ended = ltb end (length text) } ≡ first_line xs
  cut =
      let size : end - at ≡ bytes_ahead 0x0a xs = omega arith in
      let long = length-drop at text in
      let tested : ltb end (length text) ≡ ltb (bytes_ahead 0x0a xs) (length xs) =
      elim (dec_le (suc end) (length text)) [
        | yes h ↦ lt-ltb end (length text) h ∙ sym (lt-ltb (bytes_ahead 0x0a xs) (length xs) (omega arith))
        | no h ↦ le-ltb end (length text) (omega arith) ∙ sym (le-ltb (bytes_ahead 0x0a xs) (length xs) (omega arith))
      ] in
      rw (size, tested)

  pub end-within : end ≤ length text
  end-within = omega (arith, ahead_within 0x0a xs, length-drop at text)

  -- where the next line starts
  pub behind-is : cond (ltb end (length text)) (end + 1) end ≡ at + line_long (first_line xs)
  unfolding line_long
  behind-is =
      let cutting = ahead_within 0x0a xs in
      let bytes = length-take-le (bytes_ahead 0x0a xs) xs (omega arith) in
      let long = length-drop at text in
      elim (dec_le (suc end) (length text)) [
        | yes h ↦ rw (lt-ltb end (length text) h, lt-ltb (bytes_ahead 0x0a xs) (length xs) (omega arith)) (omega arith)
        | no h ↦ rw (le-ltb end (length text) (omega arith), le-ltb (bytes_ahead 0x0a xs) (length xs) (omega arith)) (omega arith)
      ]

-- ---- What a line gives

module _ (j : ℕ) (line : Line) where
  refused-check : (e : Refusal) → noted_of j line ≡ Err e → test_check j line ≡ Err e
  unfolding noted_of
  refused-check e h = check-refused (test_check j line) (test_in line.bytes) e h

  lawful-check : (t : Test) → noted_of j line ≡ Ok t → (test_check j line ≡ Lawful) × (test_in line.bytes ≡ t)
  unfolding noted_of
  lawful-check t h = check-lawful (test_check j line) (test_in line.bytes) t h

  right : test_check j line ≡ Lawful → test_right j line ≡ true
  unfolding test_check
  right h =
      let first = refuse_if (fits diary_form line.bytes && no_edition (test_in line.bytes).edition) NoSuchEdition 0 in
      not-false (test_right j line)
      (refuse_if-not (not (test_right j line)) NoSuchDate 0 (then-second first (refuse_if (not (test_right j line)) NoSuchDate 0) h))

  pub formed-line : test_check j line ≡ Lawful → fits diary_form line.bytes ≡ true
  unfolding test_right
  formed-line h =
      let form = fits diary_form line.bytes in
      let dated = not (in_no_year (set_for (test_in line.bytes))) in
      and_left form dated (and_left (form && dated) line.ended (and_left (form && dated && line.ended) (leb j 20) (right h)))

  pub twenty : test_check j line ≡ Lawful → j ≤ 20
  unfolding test_right
  twenty h =
      leb-true j 20
      (and_right (fits diary_form line.bytes && not (in_no_year (set_for (test_in line.bytes))) && line.ended) (leb j 20) (right h))

  pub few : (t : Test) → noted_of j line ≡ Ok t → j ≤ 20
  few t h = twenty (lawful-check t h).0

-- ---- The lines so far

module _ (lines : List Line) where
  pub noting-all : (n : ℕ) (tests : List Test) → drop n lines ≡ [] → n ≤ length lines
      → diary_check 1 lines ≡ diary_check (n + 1) (drop n lines)
      → tests ≡ filled 20 no_test (diary_in (take n lines))
      → Ok (record { count = n; tests = tests }) ≡ noting_of lines
  unfolding noting_of diary_check diary_in
  noting-all n tests none upto same said =
      let count : n ≡ length lines = omega (arith, length-drop n lines, ap length none) in
      let lawful : diary_check 1 lines ≡ Lawful = same ∙ ap (diary_check (n + 1)) none in
      let all : take n lines ≡ lines = take_all n lines (omega arith) in
      let long : n ≡ length (map (λ line. test_in line.bytes) lines) = count ∙ sym (length-map lines (λ line. test_in line.bytes)) in
      let tests-are : tests ≡ filled 20 no_test (map (λ line. test_in line.bytes) lines) =
      said ∙ ap (λ ls. filled 20 no_test (map (λ line. test_in line.bytes) ls)) all in
      rw lawful (ap₂ (λ k ts. Ok (record { count = k; tests = ts })) long tests-are)

  module _ (n : ℕ) (line : Line) (rest : List Line) (here : drop n lines ≡ line ∷ rest)
      (same : diary_check 1 lines ≡ diary_check (n + 1) (drop n lines))
    where
      pub noting-refused : (e : Refusal) → noted_of (n + 1) line ≡ Err e → Err e ≡ noting_of lines
      unfolding noting_of diary_check
      noting-refused e h = rw (same, here, refused-check (n + 1) line e h)

      module _ (t : Test) (is : noted_of (n + 1) line ≡ Ok t) where
        pub later-lines : drop (n + 1) lines ≡ rest
        later-lines = sym (drop-drop 1 n lines) ∙ ap (drop 1) here

        pub diary-next : diary_check 1 lines ≡ diary_check (n + 1 + 1) (drop (n + 1) lines)
        unfolding diary_check
        diary-next = same ∙ rw (here, later-lines, add-one (n + 1), (lawful-check (n + 1) line t is).0)

        pub counted : n < length lines
        counted = omega (arith, length-drop n lines, ap length here)

        this : get_or lines n line ≡ line
        this =
            let at : n + 0 ≡ n = omega arith in
            sym (ap (λ k. get_or lines k line) at) ∙ sym (get_or-drop n lines 0 line) ∙ ap (λ l. get_or l 0 line) here

        pub noted-next : (tests : List Test) → tests ≡ filled 20 no_test (diary_in (take n lines))
            → set tests n t ≡ filled 20 no_test (diary_in (take (n + 1) lines))
        unfolding diary_in
        noted-next tests said =
            let test : Line → Test = λ l. test_in l.bytes in
            let ahead = map test (take n lines) in
            let size : length ahead ≡ n = length-map (take n lines) test ∙ length-take-le n lines (omega (arith, counted)) in
            let one : take (n + 1) lines ≡ take n lines ++ (line ∷ []) = rw (add-one n) (take-suc lines n line counted
            ∙ ap (λ l. take n lines ++ (l ∷ [])) this) in
            let room = few (n + 1) line t is in
            ap (λ ts. set ts n t) said
            ∙ ap (λ k. set (filled 20 no_test ahead) k t) (sym size)
            ∙ filled-set 20 no_test t ahead (omega arith)
            ∙ ap (λ s. filled 20 no_test (ahead ++ (s ∷ []))) (sym (lawful-check (n + 1) line t is).1)
            ∙ ap (filled 20 no_test) (sym (map-append test (take n lines) (line ∷ [])) ∙ ap (map test) (sym one))
