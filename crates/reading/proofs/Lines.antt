-- The first line from a position on: it is well formed exactly where digits, one or more, evenly many, lead up to a 0a.
--     Formed text at        so it is from `at` on
use Rattle.base.proofs.Prelude.{ℕ, zero, suc, ◌+◌, ◌-◌, ◌*◌, ◌%◌, ◌≤◌, ◌<◌, ◌≡◌, refl, sym, ap, ◌∙◌, true, false, not, ◌&&◌, List, [], ◌∷◌, arith, add-one, not-suc-le-zero, lt-ltb, ltb-true, eq-eqb, ne_eqb, eqb-true, ltb, eqb, length, take, drop, get_or, length-drop, drop_of_length-le, drop-drop, get_or-drop, length-take-le, take_all}
use Rattle.base.specs.Count.{every}
use Rattle.base.proofs.Lists.{by_bool, true-not-false, and_left, and_right}
use Rattle.rules.specs.Text.{Line, before, lines_of, well_formed}
use Rattle.reading.specs.inner.Positions.{is_digit, digits_ahead, head_line, lines_from, line_at, Frame}
use Rattle.reading.proofs.Hex.{newline-no-digit, digits_ahead-fits, digits_ahead-every}

-- ---- Digits up to a 0a are a line

abbrev pub digit_line : List ℕ → Line
digit_line xs = record { bytes = take (digits_ahead xs) xs; ended = true }

digit-no-newline : (b : ℕ) → is_digit b ≡ true → eqb b 0x0a ≡ false
digit-no-newline b t =
    by_bool (eqb b 0x0a) (λ n. absurd (true-not-false (sym t ∙ ap is_digit (eqb-true b 0x0a n) ∙ newline-no-digit))) (λ e. e)

lines-digits : (xs : List ℕ) → digits_ahead xs < length xs → get_or xs (digits_ahead xs) 0 ≡ 0x0a
    → lines_of xs ≡ digit_line xs ∷ lines_of (drop (digits_ahead xs + 1) xs)
unfolding digits_ahead lines_of before
lines-digits [] h e = absurd (not-suc-le-zero h)
lines-digits (b ∷ bs) h e =
    by_bool (is_digit b)
    (λ t.
    let rest = lines-digits bs (inner (rw t at h)) (rw t at e) in
    rw (t, digit-no-newline b t, rest, add-one (digits_ahead bs), add-one (suc (digits_ahead bs))))
    (λ f. rw (f, eq-eqb b 0x0a (rw f at e)))
  where
    inner : suc (digits_ahead bs) < suc (length bs) → digits_ahead bs < length bs
    inner k = omega arith

-- ---- A line of digits alone, with its 0a, has its 0a after the digits ahead

abbrev Whole : List ℕ → Type 0
Whole xs = (digits_ahead xs < length xs) × (get_or xs (digits_ahead xs) 0 ≡ 0x0a)

whole-more : (b : ℕ) (bs : List ℕ) → is_digit b ≡ true → Whole bs → Whole (b ∷ bs)
unfolding digits_ahead
whole-more b bs t h = rw t (omega (arith, h.0), h.1)

whole_here : (b : ℕ) (bs : List ℕ) → b ≡ 0x0a → Whole (b ∷ bs)
unfolding digits_ahead
whole_here b bs e =
    let f : is_digit b ≡ false = ap is_digit e ∙ newline-no-digit in
    rw f (omega arith, e)

whole_before : (b : ℕ) (bs : List ℕ) (lines : List Line)
    → ((head_line lines).ended ≡ true → every is_digit (head_line lines).bytes ≡ true → Whole bs)
    → (head_line (before b lines)).ended ≡ true → every is_digit (head_line (before b lines)).bytes ≡ true → Whole (b ∷ bs)
unfolding before every
whole_before b bs [] more ended digits = absurd (true-not-false (sym ended))
whole_before b bs (line ∷ lines) more ended digits =
    by_bool (is_digit b)
    (λ t. whole-more b bs t (more ended (rw t at digits)))
    (λ f. absurd (true-not-false (sym (rw f at digits))))

line-whole : (xs : List ℕ) → (head_line (lines_of xs)).ended ≡ true → every is_digit (head_line (lines_of xs)).bytes ≡ true → Whole xs
unfolding lines_of
line-whole [] ended digits = absurd (true-not-false (sym ended))
line-whole (b ∷ bs) ended digits =
    by_bool (eqb b 0x0a)
    (λ n. whole_here b bs (eqb-true b 0x0a n))
    (λ n. whole_before b bs (lines_of bs) (line-whole bs) (rw n at ended) (rw n at digits))

nonzero : (d : ℕ) → not (eqb d 0) ≡ true → 0 < d
nonzero zero h = absurd (true-not-false (sym h))
nonzero (suc d) h = omega arith

-- ---- From a position on

pub record Formed (text : List ℕ) (at : ℕ) : Type 0 where
  pub inside : at + digits_ahead (drop at text) < length text
  pub newline : get_or text (at + digits_ahead (drop at text)) 0 ≡ 0x0a
  pub some : 0 < digits_ahead (drop at text)
  pub even : digits_ahead (drop at text) % 2 ≡ 0

module _ (text : List ℕ) (at : ℕ) where
  abbrev ahead : ℕ
  ahead = digits_ahead (drop at text)

  pub lines_next : at + ahead < length text → get_or text (at + ahead) 0 ≡ 0x0a
      → lines_from text at ≡ digit_line (drop at text) ∷ lines_from text (at + (ahead + 1))
  lines_next inside newline =
      let long : ahead < length (drop at text) = omega (arith, length-drop at text) in
      lines-digits (drop at text) long (get_or-drop at text ahead 0 ∙ newline) ∙ rw (drop-drop (ahead + 1) at text)

  bytes-length : length (take ahead (drop at text)) ≡ ahead
  bytes-length = length-take-le ahead (drop at text) (digits_ahead-fits (drop at text))

  pub formed-yes : Formed text at → well_formed (line_at text at) ≡ true
  unfolding line_at well_formed
  formed-yes f =
      rw (lines_next f.inside f.newline, bytes-length, lt-ltb 0 ahead f.some, f.even) (digits_ahead-every (drop at text))

  pub formed-is : well_formed (line_at text at) ≡ true → Formed text at
  unfolding line_at well_formed
  formed-is t =
      let line = head_line (lines_from text at) in
      let some = ltb 0 (length line.bytes) in
      let even = eqb (length line.bytes % 2) 0 in
      let digits = every is_digit line.bytes in
      let front = and_left (line.ended && some && even) digits t in
      let short = and_left (line.ended && some) even front in
      let whole = line-whole (drop at text) (and_left line.ended some short) (and_right (line.ended && some && even) digits t) in
      let inside : at + ahead < length text = omega (arith, whole.0, length-drop at text) in
      let newline : get_or text (at + ahead) 0 ≡ 0x0a = sym (get_or-drop at text ahead 0) ∙ whole.1 in
      let same = ap (λ lines. length (head_line lines).bytes) (lines_next inside newline) ∙ bytes-length in
      record {
        inside = inside;
        newline = newline;
        some = ltb-true 0 ahead (ap (ltb 0) (sym same) ∙ and_right line.ended some short);
        even = eqb-true (ahead % 2) 0 (ap (λ n. eqb (n % 2) 0) (sym same) ∙ and_right (line.ended && some) even front);
      }

  -- as the code asks it, where d digits stand ahead
  formed_asked : (d : ℕ) → d ≡ ahead → well_formed (line_at text at)
      ≡ ltb (at + d) (length text) && eqb (get_or text (at + d) 0) 0x0a && not (eqb d 0) && eqb (d % 2) 0
  formed_asked d e =
      let inside = ltb (at + d) (length text) in
      let newline = eqb (get_or text (at + d) 0) 0x0a in
      let some = not (eqb d 0) in
      let even = eqb (d % 2) 0 in
      by_bool (well_formed (line_at text at))
      (λ t.
      let f = formed-is t in
      let here : ltb (at + d) (length text) ≡ true = lt-ltb _ _ (rw e f.inside) in
      let ends : eqb (get_or text (at + d) 0) 0x0a ≡ true = eq-eqb _ _ (rw e f.newline) in
      let more : eqb d 0 ≡ false = ne_eqb d 0 (λ none. omega (arith, f.some)) in
      let twos : eqb (d % 2) 0 ≡ true = eq-eqb _ _ (rw e f.even) in
      t ∙ sym (rw (here, ends, more, twos)))
      (λ n.
      n
      ∙ sym (by_bool (inside && newline && some && even)
      (λ t.
      let three = and_left (inside && newline && some) even t in
      let two = and_left (inside && newline) some three in
      let f : Formed text at =
      record {
        inside = rw (← e) (ltb-true _ _ (and_left inside newline two));
        newline = rw (← e) (eqb-true _ _ (and_right inside newline two));
        some = omega (arith, e, nonzero d (and_right (inside && newline) some three));
        even = rw (← e) (eqb-true _ _ (and_right (inside && newline && some) even t));
      } in
      absurd (true-not-false (sym (formed-yes f) ∙ n)))
      (λ f. f)))

-- the same of the first line
pub asked-first : (line : List ℕ) (d : ℕ) → d ≡ digits_ahead line → well_formed (line_at line 0)
    ≡ ltb d (length line) && eqb (get_or line d 0) 0x0a && not (eqb d 0) && eqb (d % 2) 0
asked-first line d e =
    let here : 0 + d ≡ d = omega arith in
    rw here at (formed_asked line 0 d e)

-- ---- What stands from a position on, as a text of its own

pub tail_is : (text : List ℕ) (at : ℕ) → take (length text - at) (drop at text) ≡ drop at text
tail_is text at = take_all (length text - at) (drop at text) (omega (arith, length-drop at text))

pub tail-line : (text : List ℕ) (at : ℕ) → line_at (take (length text - at) (drop at text)) 0 ≡ line_at text at
unfolding line_at
tail-line text at = rw tail_is

pub tail-frame : (text : List ℕ) (at size : ℕ) → Frame text at size → Frame (take (length text - at) (drop at text)) 0 size
tail-frame text at size f =
    let here : 0 + size * 2 ≡ size * 2 = omega arith in
    rw (tail_is text at) (record {
      digits = f.digits;
      inside = omega (arith, f.inside, length-drop at text);
      newline = rw (here, get_or-drop at text (size * 2) 0) f.newline;
    })

-- ---- A text that has not ended has a line

before_head : (b : ℕ) (lines : List Line) → (rest : List Line) × (before b lines ≡ head_line (before b lines) ∷ rest)
unfolding before
before_head b [] = ([], refl)
before_head b (line ∷ lines) = (lines, refl)

lines_of-head : (xs : List ℕ) → zero < length xs → (rest : List Line) × (lines_of xs ≡ head_line (lines_of xs) ∷ rest)
unfolding lines_of
lines_of-head [] h = absurd (not-suc-le-zero h)
lines_of-head (b ∷ bs) h =
    by_bool (eqb b 0x0a) (λ t. (lines_of bs, rw t)) (λ e. ((before_head b (lines_of bs)).0, rw e (before_head b (lines_of bs)).1))

pub line-here : (text : List ℕ) (at : ℕ) → at < length text → (rest : List Line) × (lines_from text at ≡ line_at text at ∷ rest)
unfolding line_at
line-here text at h = lines_of-head (drop at text) (omega (arith, length-drop at text))

pub lines_none : (text : List ℕ) (at : ℕ) → length text ≤ at → lines_from text at ≡ []
unfolding lines_of
lines_none text at h = rw (drop_of_length-le text h)
