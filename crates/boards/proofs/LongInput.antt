-- Of an input of more than 4,096 bytes the first 4,096 decide: a start and twenty lines have 171, the twenty-first line is refused by its
-- shape, and a line that goes on beyond them has another shape, whether it is cut or not.
use Rattle.base.proofs.Prelude.{ℕ, zero, suc, ◌+◌, ◌-◌, ◌*◌, ◌≤◌, ◌<◌, min, ◌≡◌, refl, sym, ap, ◌∙◌, true, false, ◌&&◌, List, [], ◌∷◌, arith, eqb, ltb, lt-ltb, dec_le, length, take, drop, length-take, length-take-le, length-drop, take_all}
use Rattle.faults.specs.Checks.{Refused, Lawful}
use lib.Seq.{take-take}
use Rattle.base.proofs.Lists.{by_bool, and_left, and_right}
use Rattle.faults.specs.declared.Fault.{Fault}
use Rattle.faults.specs.declared.Fault.TheVariants.{TextTooLong, NoSuchDate}
use Rattle.faults.proofs.Checks.{by-checked}
use Rattle.calendar.specs.{Dates.date_exists, Texts.{fits, date_form, date_in}}
use Rattle.calendar.proofs.Texts.{fits-length}
use Rattle.rules.specs.Text.{Line, lines_of, refused_reading, text_check, lawful_reading, reading_in, reading_of}
use Rattle.register.specs.{Reader.line_long, inner.Fields.bytes_ahead}
use Rattle.register.proofs.{Splitting.ahead_within, Walk.{first_line, lines-first}}
use Rattle.boards.specs.{Input.{diary_form, test_right, test_check, diary_check, start_right, start_check, input_check, refused_input, input_reading}, Whole.board_text}
use Rattle.boards.proofs.Noting.{twenty, formed-line}

module _ {ℓ} {A : Type ℓ} where
  cut-none : (n : ℕ) → ◌≡◌ {A = List A} [] (take n [])
  cut-none zero = refl
  cut-none (suc n) = refl

  pub drop-take : (d m : ℕ) (xs : List A) → drop d (take m xs) ≡ take (m - d) (drop d xs)
  drop-take zero m xs =
      let same : m - 0 ≡ m = omega arith in
      rw same
  drop-take (suc d) zero xs =
      let none : 0 - suc d ≡ 0 = omega arith in
      rw none
  drop-take (suc d) (suc m) [] = cut-none (suc m - suc d)
  drop-take (suc d) (suc m) (x ∷ xs) =
      let one : suc m - suc d ≡ m - d = omega arith in
      drop-take d m xs ∙ rw one

ahead-cut : (m : ℕ) (xs : List ℕ) → bytes_ahead 0x0a (take m xs) ≡ min (bytes_ahead 0x0a xs) m
unfolding bytes_ahead
ahead-cut zero xs = omega arith
ahead-cut (suc m) [] = omega arith
ahead-cut (suc m) (b ∷ bs) =
    let rest = ahead-cut m bs in
    by_bool (eqb b 0x0a) (λ t. rw t (omega arith)) (λ f. rw f (omega arith))

-- ---- The first line of a text and of its first m bytes

module _ (m : ℕ) (xs : List ℕ) (long : m < length xs) where
  abbrev end : ℕ
  end = bytes_ahead 0x0a xs

  abbrev ys : List ℕ
  ys = take m xs

  size : length ys ≡ m
  size = length-take-le m xs (omega arith)

  pub first-same : end < m → first_line (take m xs) ≡ first_line xs
  first-same h =
      let at : bytes_ahead 0x0a ys ≡ end = omega (arith, ahead-cut m xs) in
      let here : ltb end (length ys) ≡ true = lt-ltb end (length ys) (omega (arith, size)) in
      let there : ltb end (length xs) ≡ true = lt-ltb end (length xs) (omega arith) in
      rw (at, here, there) (ap (λ bytes. record { bytes = bytes; ended = true }) (take-take end m xs (omega arith)))

  pub first-long : m ≤ end → m ≤ length (first_line xs).bytes
  first-long h = omega (arith, length-take-le end xs (ahead_within 0x0a xs))

  pub cut-long : m ≤ end → m ≤ length (first_line (take m xs)).bytes
  cut-long h = omega (arith, ahead-cut m xs, size, length-take (bytes_ahead 0x0a ys) ys)

-- a line of the form of a list that has its 0a
line-size : (form : List ℕ) (xs : List ℕ) → fits form (first_line xs).bytes ≡ true → bytes_ahead 0x0a xs < length xs
    → line_long (first_line xs) ≡ length form + 1
unfolding line_long
line-size form xs h ended = rw (lt-ltb _ _ ended) (omega (arith, fits-length form (take (bytes_ahead 0x0a xs) xs) h))

misshapen : (form bytes : List ℕ) → length form < length bytes → fits form bytes ≡ false
misshapen form bytes more =
    by_bool (fits form bytes) (λ t. absurd (omega (arith, fits-length form bytes t))) (λ f. f)

-- ---- The diary

unformed-check : (j : ℕ) (line : Line) → fits diary_form line.bytes ≡ false → test_check j line ≡ Refused NoSuchDate 0
unfolding test_check test_right
unformed-check j line h = rw h

-- both are refused, and in one way
record Alike (j : ℕ) (xs ys : List ℕ) : Type 0 where
  pub fault : Fault
  pub place : ℕ
  pub whole : diary_check j (lines_of xs) ≡ Refused fault place
  pub cut : diary_check j (lines_of ys) ≡ Refused fault place

refused-first : (j : ℕ) (xs : List ℕ) (f : Fault) (at : ℕ) → 1 ≤ length xs → test_check j (first_line xs) ≡ Refused f at
    → diary_check j (lines_of xs) ≡ Refused f at
unfolding diary_check
refused-first j xs f at some h = rw (lines-first xs some, h)

lawful-first : (j : ℕ) (xs : List ℕ) (d : ℕ) → 1 ≤ length xs → test_check j (first_line xs) ≡ Lawful → line_long (first_line xs) ≡ d
    → diary_check j (lines_of xs) ≡ diary_check (suc j) (lines_of (drop d xs))
unfolding diary_check
lawful-first j xs d some h long = rw (lines-first xs some, h, long)

module _ (j m : ℕ) (xs : List ℕ) (room : 8 ≤ m) (long : m < length xs) where
  some : 1 ≤ length (take m xs)
  some = omega (arith, size m xs long)

  -- a line that goes on beyond the m bytes
  beyond-them : m ≤ bytes_ahead 0x0a xs → Alike j xs (take m xs)
  beyond-them over =
      record {
        fault = NoSuchDate;
        place = 0;
        whole = refused-first j xs NoSuchDate 0 (omega arith)
            (unformed-check j (first_line xs) (misshapen diary_form (first_line xs).bytes (omega (arith, first-long m xs long over))));
        cut = refused-first j (take m xs) NoSuchDate 0 some
            (unformed-check j (first_line (take m xs))
            (misshapen diary_form (first_line (take m xs)).bytes (omega (arith, cut-long m xs long over))));
      }

  -- one that ends within them
  within-them : bytes_ahead 0x0a xs < m → (j ≤ 20 → Alike (suc j) (drop 8 xs) (take (m - 8) (drop 8 xs))) → Alike j xs (take m xs)
  within-them h later =
      let ys = take m xs in
      let same = first-same m xs long h in
      by-checked (test_check j (first_line xs))
      (λ c.
      let eight : line_long (first_line xs) ≡ 8 = line-size diary_form xs (formed-line j (first_line xs) c) (omega arith) in
      let rest = later (twenty j (first_line xs) c) in
      record {
        fault = rest.fault;
        place = rest.place;
        whole = lawful-first j xs 8 (omega arith) c eight ∙ rest.whole;
        cut = lawful-first j ys 8 some (ap (test_check j) same ∙ c) (ap line_long same ∙ eight)
            ∙ ap (λ l. diary_check (suc j) (lines_of l)) (drop-take 8 m xs)
            ∙ rest.cut;
      })
      (λ f at c. record {
        fault = f;
        place = at;
        whole = refused-first j xs f at (omega arith) c;
        cut = refused-first j ys f at some (ap (test_check j) same ∙ c);
      })

  one_line : (j ≤ 20 → Alike (suc j) (drop 8 xs) (take (m - 8) (drop 8 xs))) → Alike j xs (take m xs)
  one_line later =
      elim (dec_le (suc (bytes_ahead 0x0a xs)) m) [
        | yes h ↦ within-them h later
        | no h ↦ beyond-them (omega arith)
      ]

-- n lines may yet be lawful
diary-head : (n j m : ℕ) (xs : List ℕ) → j + n ≡ 21 → 8 * n + 8 ≤ m → m < length xs → Alike j xs (take m xs)
diary-head zero j m xs left room long = one_line j m xs (omega arith) long (λ few. absurd (omega arith))
diary-head (suc n) j m xs left room long =
    one_line j m xs (omega arith) long
    (λ few. diary-head n (suc j) (m - 8) (drop 8 xs) (omega arith) (omega arith) (omega (arith, length-drop 8 xs)))

-- ---- The input

module _ (n : ℕ) where
  misshapen-start : (xs : List ℕ) → 1 ≤ length xs → fits date_form (first_line xs).bytes ≡ false
      → input_check n (lines_of xs) ≡ Refused NoSuchDate 0
  unfolding input_check start_check start_right
  misshapen-start xs some h =
      by_bool (ltb (bytes_ahead 0x0a xs) (length xs)) (λ t. rw (lines-first xs some, t, h)) (λ e. rw (lines-first xs some, e))

  wrong_start : (xs : List ℕ) → 1 ≤ length xs → start_right n (first_line xs) ≡ false → input_check n (lines_of xs) ≡ Refused NoSuchDate 0
  unfolding input_check start_check
  wrong_start xs some h = rw (lines-first xs some, h)

  right-start : (xs : List ℕ) (d : ℕ) → 1 ≤ length xs → start_right n (first_line xs) ≡ true → line_long (first_line xs) ≡ d
      → input_check n (lines_of xs) ≡ diary_check 1 (lines_of (drop d xs))
  unfolding input_check start_check
  right-start xs d some h long = rw (lines-first xs some, h, long)

  dated : (line : Line) → start_right n line ≡ true → fits date_form line.bytes ≡ true
  unfolding start_right
  dated line h =
      let form = fits date_form line.bytes in
      let there = date_exists (date_in line.bytes) in
      and_right line.ended form (and_left (line.ended && form) there (and_left (line.ended && form && there) _ h))

  refused-so : (xs : List ℕ) (f : Fault) (at : ℕ) → input_check n (lines_of xs) ≡ Refused f at → input_reading n xs ≡ refused_input f at
  unfolding input_reading
  refused-so xs f at h = rw h

  module _ (text : List ℕ) (long : 4096 < length text) where
    abbrev head : List ℕ
    head = take 4096 text

    some-head : 1 ≤ length head
    some-head = omega (arith, size 4096 text long)

    head-beyond : 4096 ≤ bytes_ahead 0x0a text → input_reading n text ≡ input_reading n head
    head-beyond over =
        refused-so text NoSuchDate 0
        (misshapen-start text (omega arith)
        (misshapen date_form (first_line text).bytes (omega (arith, first-long 4096 text long over))))
        ∙ sym (refused-so head NoSuchDate 0
        (misshapen-start head some-head (misshapen date_form (first_line head).bytes (omega (arith, cut-long 4096 text long over)))))

    head-within : bytes_ahead 0x0a text < 4096 → input_reading n text ≡ input_reading n head
    head-within h =
        let same = first-same 4096 text long h in
        by_bool (start_right n (first_line text))
        (λ t.
        let eleven : line_long (first_line text) ≡ 11 = line-size date_form text (dated (first_line text) t) (omega arith) in
        let rest = diary-head 20 1 4085 (drop 11 text) refl (omega arith) (omega (arith, length-drop 11 text)) in
        refused-so text rest.fault rest.place (right-start text 11 (omega arith) t eleven ∙ rest.whole)
        ∙ sym (refused-so head rest.fault rest.place
        (right-start head 11 some-head (ap (start_right n) same ∙ t) (ap line_long same ∙ eleven)
        ∙ ap (λ l. diary_check 1 (lines_of l)) (drop-take 11 4096 text) ∙ rest.cut)))
        (λ e.
        refused-so text NoSuchDate 0 (wrong_start text (omega arith) e)
        ∙ sym (refused-so head NoSuchDate 0 (wrong_start head some-head (ap (start_right n) same ∙ e))))

  -- what is read of an input is read of its first 4,096 bytes
  pub input-head : (text : List ℕ) → input_reading n text ≡ input_reading n (take 4096 text)
  input-head text =
      elim (dec_le (length text) 4096) [
        | yes h ↦ ap (input_reading n) (sym (take_all 4096 text h))
        | no h ↦
            let long : 4096 < length text = omega arith in
            either long (dec_le (suc (bytes_ahead 0x0a text)) 4096)
      ]
    where
      either : 4096 < length text → Dec (bytes_ahead 0x0a text < 4096) → input_reading n text ≡ input_reading n (take 4096 text)
      either long (yes h) = head-within text long h
      either long (no h) = head-beyond text long (omega arith)

-- ---- The plan file

-- a text of more than 65,536 bytes is refused whatever it says
too_long : (text : List ℕ) → 65536 < length text → reading_of text ≡ refused_reading TextTooLong 0
unfolding reading_of reading_in text_check lawful_reading
too_long text h = rw (lt-ltb 65536 (length text) h)

plan-head : (text : List ℕ) → reading_of text ≡ reading_of (take 65537 text)
plan-head text =
    elim (dec_le (length text) 65537) [
      | yes h ↦ ap reading_of (sym (take_all 65537 text h))
      | no h ↦
          too_long text (omega arith)
          ∙ sym (too_long (take 65537 text) (omega (arith, length-take-le 65537 text (omega arith))))
    ]

-- so what a program reads of its files is enough
pub heads-decide : (plan text : List ℕ) → board_text (take 65537 plan) (take 4096 text) ≡ board_text plan text
unfolding board_text
heads-decide plan text = rw (plan-head plan, input-head (reading_of (take 65537 plan)).plan.run.0 text)
