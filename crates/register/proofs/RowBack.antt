-- A line of numbers says them; a row and the string that it says: each says the other.
--     numbers_line ns        the line of numbers, commas between them, with its CR
--     string_numbers s       T, C, D, X, the moving cost and J of a string
--     register_row s         the row of a string, as a line
--     Short s               its numbers have at most four digits
use Rattle.base.proofs.Prelude.{ℕ, zero, suc, ◌+◌, ◌-◌, ◌*◌, ◌^◌, ◌≤◌, ◌<◌, ◌≡◌, refl, sym, ap, ◌∙◌, true, false, Bool, ◌&&◌, ◌||◌, List, [], ◌∷◌, ◌++◌, map, arith, dec_le, le-leb, eq-eqb, eqb-true, ne_eqb, eqb, length, take, drop, get_or, length-append, length-map, take-append_seam, take_all, take-suc}
use lib.Seq.{get_or-append_seam}
use Rattle.base.specs.{Count.{All, every}, Digits.{digits_of, number_on, value_of, figure, worth, decimal_in}}
use Rattle.base.proofs.{Digits.{digits-one, digits-short, digits-back, digits-below, digits-some, digits-lead, digits-written, figures-worth, worth-figures}, Lists.{true-not-false, all_map, and_left, and_right, every-of-all, all-of-every}, Order.{all_of, all-mapped}}
use Rattle.faults.proofs.Checks.{in_bounds-low, in_bounds-high, in_bounds-yes}
use Rattle.rules.specs.{declared.BatteryString.BatteryString, Lines.{bytes_of, decimal, worded_in, row_line}, Text.Line}
use Rattle.laws.proofs.LineTexts.{line_bytes, NoEnd}
use Rattle.register.specs.Table.{comma, fields_of, is_figure, plain_number, row_fields, numbers_formed, line_formed, row_formed, string_said, row_string}
use Rattle.register.specs.inner.Fields.{lead}
use Rattle.register.proofs.{Plain.{plain-short, plain-figures, plain-lead}, Joined.{commaed, commaed-tail, NoComma, fields-commaed, commaed-fields, commaed-all, commaed-long}}

-- ---- A number and its decimal characters

-- the decimal digits of a number are figures
decimal-figures : (n : ℕ) → All (λ b. is_figure b ≡ true) (decimal n)
unfolding decimal
decimal-figures n = figures (digits_of 10 n) (digits-below 10 (omega arith) n)
  where
    figures : (ds : List ℕ) → All (λ d. d < 10) ds → All (λ b. is_figure b ≡ true) (map figure ds)
    figures [] h = tt
    figures (d ∷ ds) h =
        let small = h.0 in
        (in_bounds-yes 0x30 (0x30 + d) 0x39 (omega arith) (omega arith), figures ds h.1)

pub decimal-said : (n : ℕ) → decimal_in (decimal n) ≡ n
unfolding decimal
decimal-said n = ap (value_of 10) (figures-worth (digits_of 10 n)) ∙ digits-back 10 (omega arith) n

decimal-lead : (n : ℕ) → lead (decimal n) ≡ true
unfolding decimal
decimal-lead zero = rw (digits-one 10 (omega arith) 0 (omega arith))
decimal-lead (suc n) = first (digits_of 10 (suc n)) (digits-some 10 (omega arith) (suc n)) (digits-lead 10 (omega arith) (suc n) (omega
    arith))
  where
    first : (ds : List ℕ) → 1 ≤ length ds → 1 ≤ get_or ds 0 0 → lead (map figure ds) ≡ true
    first [] some h = absurd (omega arith)
    first (d ∷ ds) some h = rw (ne_eqb (0x30 + d) 0x30 (λ e. omega arith)) (either (eqb (length (map figure (d ∷ ds))) 1))
      where
        either : (b : Bool) → (b || true) ≡ true
        either true = refl
        either false = refl

pub decimal-long : (k n : ℕ) → n < 10 ^ suc k → (1 ≤ length (decimal n)) × (length (decimal n) ≤ suc k)
unfolding decimal
decimal-long k n h =
    let size = length-map (digits_of 10 n) figure in
    (omega (arith, digits-some 10 (omega arith) n), omega (arith, digits-short 10 (omega arith) k n h))

pub decimal-plain : (k n : ℕ) → n < 10 ^ suc k → plain_number (suc k) (decimal n) ≡ true
unfolding plain_number
decimal-plain k n h =
    let sizes = decimal-long k n h in
    rw (
      le-leb 1 (length (decimal n)) sizes.0,
      le-leb (length (decimal n)) (suc k) sizes.1,
      decimal-lead n,
      every-of-all is_figure (decimal n) (decimal-figures n),
    )

-- and a plain number is what is written of it
pub plain-written : (most : ℕ) (field : List ℕ) → plain_number most field ≡ true → decimal (decimal_in field) ≡ field
unfolding decimal number_on
plain-written most [] plain = absurd (omega (arith, (plain-short most [] plain).0))
plain-written most (b ∷ field) plain =
    let figures = all-of-every is_figure (b ∷ field) (plain-figures most (b ∷ field) plain) in
    let lows = all_map _ (λ c. 0x30 ≤ c) (λ c h. in_bounds-low 0x30 c 0x39 h) (b ∷ field) figures in
    let low = lows.0 in
    elim (dec_le 1 (b - 0x30)) [
      | yes some ↦
          ap (map figure) (digits-written 10 (omega arith) (b - 0x30) (map worth field) some
          (below b figures.0) (belows field figures.1)) ∙ worth-figures (b ∷ field) lows
      | no none ↦ zero-alone field (omega arith) (plain-lead most (b ∷ field) plain)
    ]
  where
    below : (c : ℕ) → is_figure c ≡ true → c - 0x30 < 10
    below c h =
        let high = in_bounds-high 0x30 c 0x39 h in
        omega arith

    belows : (cs : List ℕ) → All (λ c. is_figure c ≡ true) cs → All (λ d. d < 10) (map worth cs)
    belows [] h = tt
    belows (c ∷ cs) h = (below c h.0, belows cs h.1)

    -- a leading zero is the only digit
    zero-alone : (rest : List ℕ) → b ≡ 0x30 → lead (b ∷ rest) ≡ true → map figure (digits_of 10 (decimal_in (b ∷ rest))) ≡ b ∷ rest
    zero-alone [] zero-here leads = rw (zero-here, digits-one 10 (omega arith) 0 (omega arith))
    zero-alone (c ∷ rest) zero-here leads = absurd (true-not-false (sym leads
        ∙ rw (zero-here, ne_eqb (suc (suc (length rest))) 1 (λ e. omega arith))))

decimal-no-comma : (n : ℕ) → NoComma (decimal n)
decimal-no-comma n = all_map _ _ no-comma (decimal n) (decimal-figures n)
  where
    no-comma : (b : ℕ) → is_figure b ≡ true → eqb b comma ≡ false
    no-comma b h =
        let low = in_bounds-low 0x30 b 0x39 h in
        ne_eqb b comma (λ e. omega arith)

-- ---- A line of numbers

abbrev pub numbers_line : List ℕ → Line
numbers_line ns = record { bytes = commaed (map decimal ns) (0x0d ∷ []); ended = true }

-- what stands ahead of the CR, and the CR
module _ (fields : List (List ℕ)) (bytes : List ℕ) (is : bytes ≡ commaed fields (0x0d ∷ [])) where
  split : bytes ≡ commaed fields [] ++ (0x0d ∷ [])
  split = is ∙ commaed-tail fields [] (0x0d ∷ [])

  long : length bytes ≡ length (commaed fields []) + 1
  long = ap length split ∙ length-append (commaed fields []) (0x0d ∷ [])

  ahead_of : length bytes - 1 ≡ length (commaed fields [])
  ahead_of = omega (arith, long)

  body_is : take (length bytes - 1) bytes ≡ commaed fields []
  body_is = ap (λ k. take k bytes) ahead_of ∙ ap (take (length (commaed fields []))) split
      ∙ take-append_seam (commaed fields []) (0x0d ∷ [])

  last-is : get_or bytes (length bytes - 1) 0 ≡ 0x0d
  last-is =
      ap (λ k. get_or bytes k 0) ahead_of ∙ ap (λ xs. get_or xs (length (commaed fields [])) 0) split
      ∙ get_or-append_seam (commaed fields []) 0x0d [] 0

module _ (n : ℕ) (others : List ℕ) where
  abbrev ns : List ℕ
  ns = n ∷ others

  pub line-fields-said : row_fields (numbers_line ns) ≡ map decimal ns
  unfolding row_fields
  line-fields-said =
      ap fields_of (body_is (map decimal ns) (numbers_line ns).bytes refl)
      ∙ fields-commaed (decimal n) (map decimal others) (decimal-no-comma n)
      (all-mapped NoComma decimal others (all_of (λ m. NoComma (decimal m)) decimal-no-comma others))

  pub line-formed : (k : ℕ) → All (λ m. m < 10 ^ suc k) ns → line_formed (length ns) (suc k) (numbers_line ns) ≡ true
  unfolding line_formed numbers_formed
  line-formed k short =
      let size : length (map decimal ns) ≡ length ns = length-map ns decimal in
      rw (last-is (map decimal ns) (numbers_line ns).bytes refl, line-fields-said, eq-eqb (length (map decimal ns)) (length ns) size)
      (every-of-all (plain_number (suc k)) (map decimal ns)
      (all-mapped (λ f. plain_number (suc k) f ≡ true) decimal ns
      (all_map (λ m. m < 10 ^ suc k) (λ m. plain_number (suc k) (decimal m) ≡ true) (decimal-plain k) ns short)))

-- no 0a stands in it
pub line-no-end : (ns : List ℕ) → NoEnd (numbers_line ns)
line-no-end ns =
    commaed-all (λ b. eqb b 0x0a ≡ false) refl (map decimal ns)
    (all-mapped (λ f. All (λ b. eqb b 0x0a ≡ false) f) decimal ns
    (all_of (λ n. All (λ b. eqb b 0x0a ≡ false) (decimal n)) inside ns))
    (0x0d ∷ []) (refl, tt)
  where
    no_end : (b : ℕ) → is_figure b ≡ true → eqb b 0x0a ≡ false
    no_end b h =
        let low = in_bounds-low 0x30 b 0x39 h in
        ne_eqb b 0x0a (λ e. omega arith)

    inside : (n : ℕ) → All (λ b. eqb b 0x0a ≡ false) (decimal n)
    inside n = all_map _ _ no_end (decimal n) (decimal-figures n)

-- how long it is with its 0a
pub line-long : (k : ℕ) (ns : List ℕ) → All (λ m. m < 10 ^ suc k) ns → length (line_bytes (numbers_line ns)) ≤ length ns * suc (suc k) + 2
line-long k ns short =
    let few : (m : ℕ) → m < 10 ^ suc k → length (decimal m) ≤ suc k = λ m h. (decimal-long k m h).1 in
    let fields : All (λ f. length f ≤ suc k) (map decimal ns) = all-mapped (λ f. length f ≤ suc k) decimal ns
    (all_map (λ m. m < 10 ^ suc k) (λ m. length (decimal m) ≤ suc k) few ns short) in
    let size : length (map decimal ns) ≡ length ns = length-map ns decimal in
    let long = commaed-long (suc k) (map decimal ns) fields (0x0d ∷ []) in
    omega (arith, length-append (numbers_line ns).bytes (0x0a ∷ []), rw size at long)

-- ---- The row of a string

abbrev pub string_numbers : BatteryString → List ℕ
string_numbers s = s.t.0 ∷ s.c.0 ∷ s.d.0 ∷ s.x ∷ s.a.0 ∷ s.j.0 ∷ []

abbrev pub Short : BatteryString → Type 0
Short s = All (λ n. n < 10000) (string_numbers s)

abbrev pub register_row : BatteryString → Line
register_row s = numbers_line (string_numbers s)

pub row-line : (s : BatteryString) → row_line s ≡ line_bytes (register_row s)
unfolding row_line bytes_of worded_in
row-line s = commaed-tail (map decimal (string_numbers s)) (0x0d ∷ []) (0x0a ∷ [])

module _ (s : BatteryString) where
  pub row-formed : Short s → row_formed (register_row s) ≡ true
  row-formed short = line-formed s.t.0 (drop 1 (string_numbers s)) 3 short

  pub row-says : row_string (register_row s) ≡ s
  unfolding row_string string_said
  row-says =
      rw (
        line-fields-said s.t.0 (drop 1 (string_numbers s)),
        decimal-said s.t.0,
        decimal-said s.c.0,
        decimal-said s.d.0,
        decimal-said s.x,
        decimal-said s.a.0,
        decimal-said s.j.0,
      )

  pub row-no-end : NoEnd (register_row s)
  row-no-end = line-no-end (string_numbers s)

  pub row_line-short : Short s → length (row_line s) ≤ 32
  row_line-short short = omega (arith, ap length (row-line s), line-long 3 (string_numbers s) short)

-- ---- The string of a row

-- six numbers make a string that has them
numbers-back : (ns : List ℕ) → length ns ≡ 6 → string_numbers (string_said ns) ≡ ns
unfolding string_said
numbers-back [] h = absurd (omega arith)
numbers-back (a ∷ []) h = absurd (omega arith)
numbers-back (a ∷ b ∷ []) h = absurd (omega arith)
numbers-back (a ∷ b ∷ c ∷ []) h = absurd (omega arith)
numbers-back (a ∷ b ∷ c ∷ d ∷ []) h = absurd (omega arith)
numbers-back (a ∷ b ∷ c ∷ d ∷ e ∷ []) h = absurd (omega arith)
numbers-back (a ∷ b ∷ c ∷ d ∷ e ∷ f ∷ []) h = refl
numbers-back (a ∷ b ∷ c ∷ d ∷ e ∷ f ∷ g ∷ ns) h = absurd (omega arith)

plains-written : (most : ℕ) (fields : List (List ℕ)) → All (λ f. plain_number most f ≡ true) fields
    → map decimal (map decimal_in fields) ≡ fields
plains-written most [] h = refl
plains-written most (f ∷ fields) h = rw (plain-written most f h.0, plains-written most fields h.1)

module _ (line : Line) (formed : row_formed line ≡ true) where
  abbrev body : List ℕ
  body = take (length line.bytes - 1) line.bytes

  abbrev cr : Bool
  cr = eqb (get_or line.bytes (length line.bytes - 1) 0) 0x0d

  pub formed-ended : line.ended ≡ true
  unfolding line_formed
  formed-ended = and_left line.ended cr (and_left (line.ended && cr) (numbers_formed 6 4 (row_fields line)) formed)

  returned : cr ≡ true
  unfolding line_formed
  returned = and_right line.ended cr (and_left (line.ended && cr) (numbers_formed 6 4 (row_fields line)) formed)

  six : numbers_formed 6 4 (row_fields line) ≡ true
  unfolding line_formed
  six = and_right (line.ended && cr) (numbers_formed 6 4 (row_fields line)) formed

  count : length (row_fields line) ≡ 6
  unfolding numbers_formed
  count = eqb-true (length (row_fields line)) 6 (and_left (eqb (length (row_fields line)) 6) (every (plain_number 4) (row_fields line)) six)

  plains : All (λ f. plain_number 4 f ≡ true) (row_fields line)
  unfolding numbers_formed
  plains =
      all-of-every (plain_number 4) (row_fields line)
      (and_right (eqb (length (row_fields line)) 6) (every (plain_number 4) (row_fields line)) six)

  -- the bytes are the fields, commaed, and the CR
  whole : line.bytes ≡ commaed (row_fields line) (0x0d ∷ [])
  unfolding row_fields
  whole =
      let bytes = line.bytes in
      let some = not-empty bytes returned in
      let all : suc (length bytes - 1) ≡ length bytes = omega arith in
      sym (take_all (suc (length bytes - 1)) bytes (omega arith))
      ∙ take-suc bytes (length bytes - 1) 0 (omega arith)
      ∙ ap (λ b. body ++ (b ∷ [])) (eqb-true (get_or bytes (length bytes - 1) 0) 0x0d returned)
      ∙ ap (λ xs. xs ++ (0x0d ∷ [])) (sym (commaed-fields body))
      ∙ sym (commaed-tail (fields_of body) [] (0x0d ∷ []))
    where
      not-empty : (bytes : List ℕ) → eqb (get_or bytes (length bytes - 1) 0) 0x0d ≡ true → 1 ≤ length bytes
      not-empty [] h = absurd (true-not-false (sym h))
      not-empty (b ∷ bytes) h = omega arith

  pub row_written : row_line (row_string line) ≡ line_bytes line
  unfolding row_string
  row_written =
      let fields = row_fields line in
      let numbers = numbers-back (map decimal_in fields) (length-map fields decimal_in ∙ count) in
      let same : map decimal (string_numbers (row_string line)) ≡ fields = ap (map decimal) numbers ∙ plains-written 4 fields plains in
      row-line (row_string line) ∙ ap (λ fs. commaed fs (0x0d ∷ []) ++ (0x0a ∷ [])) same ∙ ap (λ bytes. bytes ++ (0x0a ∷ [])) (sym whole)
