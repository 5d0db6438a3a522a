-- Reading a date's text and writing it undo each other, both ways: a date has one text, and a text is that of one date.
use Rattle.base.proofs.Prelude.{ℕ, ◌+◌, ◌/◌, ◌%◌, ◌^◌, ◌≤◌, ◌<◌, ◌≡◌, refl, sym, ap, ◌∙◌, true, false, not, List, [], ◌∷◌, map, arith, eqb-true, length, length-map}
use Rattle.faults.specs.Checks.{Refused}
use Rattle.std.specs.Prelude.{Ok}
use Rattle.base.specs.{Count.All, Digits.{places_of, value_of, figure, worth}}
use Rattle.base.proofs.Digits.{figures-worth, worth-figures, places-said, places-written}
use Rattle.base.proofs.Lists.{all_map, by_bool, true-not-false, and_left, and_right}
use Rattle.faults.proofs.Checks.{in_bounds-low, in_bounds-high, in_bounds-yes}
use Rattle.faults.specs.declared.Fault.TheVariants.{NoSuchDate}
use Rattle.calendar.specs.{declared.Date.Date, declared.YearlyDate.YearlyDate, Dates.date_exists, Yearly.{set_on, in_no_year}, Texts.{hyphen, digits, number, fits_at, fits, date_form, yearly_form, date_text, yearly_text, date_in, yearly_in, date_reading, yearly_reading}}
use Rattle.calendar.proofs.{Months.month_length-bounds, Existing.existing, Order.same-date, SomeYear.in_no_year-2000, Texts.{date_reading-is, date_reading-form, date_reading-none, yearly_reading-is, yearly_reading-form, yearly_reading-none}}

-- ---- Digits

digit_low : (b : ℕ) → fits_at 0x30 b ≡ true → 0x30 ≤ b
unfolding fits_at
digit_low b h = in_bounds-low 0x30 b 0x39 h

digit-high : (b : ℕ) → fits_at 0x30 b ≡ true → b ≤ 0x39
unfolding fits_at
digit-high b h = in_bounds-high 0x30 b 0x39 h

line : fits_at hyphen hyphen ≡ true
unfolding fits_at
line = refl

figure-fits : (n : ℕ) → fits_at 0x30 (0x30 + n % 10) ≡ true
unfolding fits_at
figure-fits n = in_bounds-yes 0x30 (0x30 + n % 10) 0x39 (omega arith) (omega arith)

digits-said : (k n : ℕ) → n < 10 ^ k → number (digits k n) ≡ n
unfolding digits
digits-said k n h = ap (value_of 10) (figures-worth (places_of 10 k n)) ∙ places-said 10 (omega arith) k n h

-- characters from 0 to 9
abbrev Figures : List ℕ → Type 0
Figures text = All (λ b. fits_at 0x30 b ≡ true) text

worth-below : (text : List ℕ) → Figures text → All (λ d. d < 10) (map worth text)
worth-below [] h = tt
worth-below (b ∷ text) h =
    let high = digit-high b h.0 in
    (omega arith, worth-below text h.1)

digits-back : (k : ℕ) (text : List ℕ) → length text ≡ k → Figures text → digits k (number text) ≡ text
unfolding digits
digits-back k text size h =
    ap (map figure) (places-written 10 (omega arith) k (map worth text) (worth-below text h) (length-map text worth ∙ size))
    ∙ worth-figures text (all_map _ _ (λ b fits. digit_low b fits) text h)

two_back : (a b : ℕ) → fits_at 0x30 a ≡ true → fits_at 0x30 b ≡ true → digits 2 (number (a ∷ b ∷ [])) ≡ a ∷ b ∷ []
two_back a b h g = digits-back 2 (a ∷ b ∷ []) refl (h, (g, tt))

four-back : (a b c d : ℕ) → fits_at 0x30 a ≡ true → fits_at 0x30 b ≡ true → fits_at 0x30 c ≡ true → fits_at 0x30 d ≡ true
    → digits 4 (number (a ∷ b ∷ c ∷ d ∷ [])) ≡ a ∷ b ∷ c ∷ d ∷ []
four-back a b c d h g f e = digits-back 4 (a ∷ b ∷ c ∷ d ∷ []) refl (h, (g, (f, (e, tt))))

-- ---- Written, then read

date_text-fits : (d : Date) → fits date_form (date_text d) ≡ true
unfolding date_text digits places_of fits
date_text-fits d =
    rw (
      figure-fits (d.year / 10 / 10 / 10),
      figure-fits (d.year / 10 / 10),
      figure-fits (d.year / 10),
      figure-fits d.year,
      figure-fits (d.month / 10),
      figure-fits d.month,
      figure-fits (d.day / 10),
      figure-fits d.day,
      line,
    )

pub date_text-ten : (d : Date) → length (date_text d) ≡ 10
unfolding date_text digits places_of
date_text-ten d = refl

yearly_text-fits : (t : YearlyDate) → fits yearly_form (yearly_text t) ≡ true
unfolding yearly_text digits places_of fits
yearly_text-fits t = rw (figure-fits (t.month / 10), figure-fits t.month, figure-fits (t.day / 10), figure-fits t.day, line)

-- a month and day that exist in some year have two digits each
yearly-short : (t : YearlyDate) → in_no_year t ≡ false → (t.month < 100) × (t.day < 100)
yearly-short t h =
    let x = existing (set_on t 2000) (sym (in_no_year-2000 t) ∙ ap not h) in
    let month = x.december in
    (omega arith, omega (arith, x.last, month_length-bounds 2000 t.month x.january x.december))

date_text-parts : (d : Date) → d.year < 10000 → d.month < 100 → d.day < 100 → date_in (date_text d) ≡ d
unfolding date_in date_text digits places_of
date_text-parts d y m k = same-date (date_in (date_text d)) d (digits-said 4 d.year y) (digits-said 2 d.month m) (digits-said 2 d.day k)

yearly_text-parts : (t : YearlyDate) → t.month < 100 → t.day < 100 → yearly_in (yearly_text t) ≡ t
unfolding yearly_in yearly_text digits places_of
yearly_text-parts t m k =
    let month = digits-said 2 t.month m in
    let day = digits-said 2 t.day k in
    let parts : record { month = number (digits 2 t.month); day = number (digits 2 t.day) } ≡ t = rw (month, day) in
    parts

pub date-read-back : (d : Date) → date_exists d ≡ true → date_reading (date_text d) ≡ Ok d
date-read-back d h =
    let x = existing d h in
    let last = x.to-2399 in
    let december = x.december in
    let size = month_length-bounds d.year d.month x.january x.december in
    let whole = date_text-parts d (omega arith) (omega arith) (omega (arith, x.last)) in
    date_reading-is (date_text d) (date_text-fits d) (ap date_exists whole ∙ h) ∙ ap Ok whole

pub yearly-read-back : (t : YearlyDate) → in_no_year t ≡ false → yearly_reading (yearly_text t) ≡ Ok t
yearly-read-back t h =
    let short = yearly-short t h in
    let whole = yearly_text-parts t short.0 short.1 in
    yearly_reading-is (yearly_text t) (yearly_text-fits t) (ap in_no_year whole ∙ h) ∙ ap Ok whole

-- ---- Read, then written

-- a text that has a form has a first character, and the rest has the rest of the form
record Cut (c : ℕ) (cs text : List ℕ) : Type 0 where
  first : ℕ
  rest : List ℕ
  whole : text ≡ first ∷ rest
  here : fits_at c first ≡ true
  after : fits cs rest ≡ true

cut : (c : ℕ) (cs text : List ℕ) → fits (c ∷ cs) text ≡ true → Cut c cs text
unfolding fits
cut c cs [] h = absurd (true-not-false (sym h))
cut c cs (b ∷ bs) h =
    let here = and_left (fits_at c b) (fits cs bs) h in
    let after = and_right (fits_at c b) (fits cs bs) h in
    record { first = b; rest = bs; whole = refl; here = here; after = after }

ended : (text : List ℕ) → fits [] text ≡ true → text ≡ []
unfolding fits
ended [] h = refl
ended (b ∷ bs) h = absurd (true-not-false (sym h))

hyphen-back : (b : ℕ) → fits_at hyphen b ≡ true → b ≡ hyphen
unfolding fits_at
hyphen-back b h = sym (eqb-true hyphen b h)

yearly-back : (text : List ℕ) → fits yearly_form text ≡ true → yearly_text (yearly_in text) ≡ text
unfolding yearly_in yearly_text
yearly-back text h =
    let m = cut _ _ text h in
    let n = cut _ _ m.rest m.after in
    let line = cut _ _ n.rest n.after in
    let d = cut _ _ line.rest line.after in
    let e = cut _ _ d.rest d.after in
    rw (m.whole, n.whole, line.whole, d.whole, e.whole, ended e.rest e.after, hyphen-back line.first line.here)
    (rw (two_back m.first n.first m.here n.here, two_back d.first e.first d.here e.here))

date-back : (text : List ℕ) → fits date_form text ≡ true → date_text (date_in text) ≡ text
unfolding date_in date_text yearly_in yearly_text
date-back text h =
    let a = cut _ _ text h in
    let b = cut _ _ a.rest a.after in
    let c = cut _ _ b.rest b.after in
    let d = cut _ _ c.rest c.after in
    let line = cut _ _ d.rest d.after in
    let year = four-back a.first b.first c.first d.first a.here b.here c.here d.here in
    let rest = yearly-back line.rest line.after in
    rw (a.whole, b.whole, c.whole, d.whole, line.whole, hyphen-back line.first line.here)
    (rw year (ap (λ l. a.first ∷ b.first ∷ c.first ∷ d.first ∷ hyphen ∷ l) rest))

never : ◌≡◌ {A = ℕ} 0 1 → ⊥
never z = omega arith

-- a date that is read exists
pub date-read-exists : (text : List ℕ) (d : Date) → date_reading text ≡ Ok d → date_exists d ≡ true
date-read-exists text d h =
    by_bool (fits date_form text)
    (λ form. by_bool (date_exists (date_in text))
    (λ there. read there (date_reading-is text form there))
    (λ none. other (date_reading-none text form none)))
    (λ form. other (date_reading-form text form))
  where
    read : date_exists (date_in text) ≡ true → date_reading text ≡ Ok (date_in text) → date_exists d ≡ true
    read there is =
        let same : d ≡ date_in text = cc in
        ap date_exists same ∙ there

    other : date_reading text ≡ Refused NoSuchDate 0 → date_exists d ≡ true
    other refused = absurd (never (cc))

pub date-written-back : (text : List ℕ) (d : Date) → date_reading text ≡ Ok d → date_text d ≡ text
date-written-back text d h =
    by_bool (fits date_form text)
    (λ form. by_bool (date_exists (date_in text))
    (λ there. read form (date_reading-is text form there))
    (λ none. other (date_reading-none text form none)))
    (λ form. other (date_reading-form text form))
  where
    read : fits date_form text ≡ true → date_reading text ≡ Ok (date_in text) → date_text d ≡ text
    read form is =
        let same : d ≡ date_in text = cc in
        ap date_text same ∙ date-back text form

    other : date_reading text ≡ Refused NoSuchDate 0 → date_text d ≡ text
    other refused = absurd (never (cc))

pub yearly-written-back : (text : List ℕ) (t : YearlyDate) → yearly_reading text ≡ Ok t → yearly_text t ≡ text
yearly-written-back text t h =
    by_bool (fits yearly_form text)
    (λ form. by_bool (in_no_year (yearly_in text))
    (λ none. other (yearly_reading-none text form none))
    (λ there. read form (yearly_reading-is text form there)))
    (λ form. other (yearly_reading-form text form))
  where
    read : fits yearly_form text ≡ true → yearly_reading text ≡ Ok (yearly_in text) → yearly_text t ≡ text
    read form is =
        let same : t ≡ yearly_in text = cc in
        ap yearly_text same ∙ yearly-back text form

    other : yearly_reading text ≡ Refused NoSuchDate 0 → yearly_text t ≡ text
    other refused = absurd (never (cc))
