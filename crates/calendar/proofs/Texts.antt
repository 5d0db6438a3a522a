-- Laws of texts: whether a text has a form, place by place, and the numbers that its digits write.
use Rattle.base.proofs.Prelude.{ℕ, zero, suc, ◌+◌, ◌-◌, ◌*◌, ◌≤◌, ◌<◌, ◌≡◌, refl, true, false, List, [], ◌∷◌, arith, add-one, length, get_or, take, drop, drop-cons}
use Rattle.faults.specs.Checks.{Refused}
use Rattle.std.specs.Prelude.{Ok}
use Rattle.std.specs.List.{zip, HoldsAt}
use Rattle.base.specs.Digits.{number_on}
use Rattle.base.proofs.Lists.{All, by_bool, and_right}
use Rattle.faults.specs.declared.Fault.TheVariants.{NoSuchDate, NoSuchEdition}
use Rattle.calendar.specs.{declared.Date.Date, declared.YearlyDate.YearlyDate, Dates.{date, date_exists}, Yearly.{no_edition, in_no_year}, Texts.{fits_at, fits, number, date_form, yearly_form, date_in, yearly_in, date_reading, yearly_reading, edition_form, edition_reading, date_text, yearly_text, date_writing, yearly_writing}}

-- ---- Forms

pub fits-length : (form text : List ℕ) → fits form text ≡ true → length form ≡ length text
unfolding fits
fits-length [] [] h = refl
fits-length [] (b ∷ bs) h = cc
fits-length (c ∷ cs) [] h = cc
fits-length (c ∷ cs) (b ∷ bs) h =
    let rest = fits-length cs bs (and_right (fits_at c b) (fits cs bs) h) in
    omega arith

pub fits-other-length : (form text : List ℕ) → (length form ≡ length text → ⊥) → fits form text ≡ false
fits-other-length form text other = by_bool (fits form text) (λ t. absurd (other (fits-length form text t))) (λ e. e)

-- of one length, a text has a form where each of its characters may stand where it stands
pub fits-all : (form text : List ℕ) → length form ≡ length text → All (λ p. fits_at p.0 p.1 ≡ true) (zip form text) → fits form text ≡ true
unfolding fits
fits-all [] [] h each = refl
fits-all [] (b ∷ bs) h each = absurd (omega arith)
fits-all (c ∷ cs) [] h each = absurd (omega arith)
fits-all (c ∷ cs) (b ∷ bs) h each = rw each.0 (fits-all cs bs (omega arith) each.1)

pub fits-not : (form text : List ℕ) (k : ℕ) → k < length (zip form text) → HoldsAt (λ p. fits_at p.0 p.1 ≡ false) (zip form text) k
    → fits form text ≡ false
unfolding fits
fits-not [] text k h bad = absurd (omega arith)
fits-not (c ∷ cs) [] k h bad = absurd (omega arith)
fits-not (c ∷ cs) (b ∷ bs) zero h bad = rw (bad (0, 0))
fits-not (c ∷ cs) (b ∷ bs) (suc k) h bad =
    let rest = fits-not cs bs k (omega arith) bad in
    by_bool (fits_at c b) (λ t. rw (t, rest)) (λ e. rw e)

-- ---- Numbers

pub number-two : (text : List ℕ) (at : ℕ) → at + 2 ≤ length text
    → number (take 2 (drop at text)) ≡ 10 * (get_or text at 0 - 0x30) + (get_or text (at + 1) 0 - 0x30)
unfolding number_on
number-two text at room =
    rw (add-one at, drop-cons text at 0 (omega arith), drop-cons text (suc at) 0 (omega arith)) (omega arith)

pub number-one : (text : List ℕ) → 1 ≡ length text → number text ≡ get_or text 0 0 - 0x30
unfolding number_on
number-one [] h = absurd (omega arith)
number-one (b ∷ []) h = omega arith
number-one (a ∷ b ∷ rest) h = absurd (omega arith)

number-four : (text : List ℕ) → 4 ≤ length text
    → number (take 4 text) ≡ 100 * number (take 2 (drop 0 text)) + number (take 2 (drop 2 text))
unfolding number_on
number-four [] h = absurd (omega arith)
number-four (a ∷ []) h = absurd (omega arith)
number-four (a ∷ b ∷ []) h = absurd (omega arith)
number-four (a ∷ b ∷ c ∷ []) h = absurd (omega arith)
number-four (a ∷ b ∷ c ∷ d ∷ rest) h = omega arith

-- ---- Reading

pub date_reading-is : (text : List ℕ) → fits date_form text ≡ true → date_exists (date_in text) ≡ true
    → date_reading text ≡ Ok (date_in text)
unfolding date_reading
date_reading-is text form there = rw (form, there)

pub date_reading-form : (text : List ℕ) → fits date_form text ≡ false → date_reading text ≡ Refused NoSuchDate 0
unfolding date_reading
date_reading-form text form = rw form

pub date_reading-none : (text : List ℕ) → fits date_form text ≡ true → date_exists (date_in text) ≡ false
    → date_reading text ≡ Refused NoSuchDate 0
unfolding date_reading
date_reading-none text form there = rw (form, there)

pub yearly_reading-is : (text : List ℕ) → fits yearly_form text ≡ true → in_no_year (yearly_in text) ≡ false
    → yearly_reading text ≡ Ok (yearly_in text)
unfolding yearly_reading
yearly_reading-is text form there = rw (form, there)

pub yearly_reading-form : (text : List ℕ) → fits yearly_form text ≡ false → yearly_reading text ≡ Refused NoSuchDate 0
unfolding yearly_reading
yearly_reading-form text form = rw form

pub yearly_reading-none : (text : List ℕ) → fits yearly_form text ≡ true → in_no_year (yearly_in text) ≡ true
    → yearly_reading text ≡ Refused NoSuchDate 0
unfolding yearly_reading
yearly_reading-none text form there = rw (form, there)

pub edition_reading-is : (text : List ℕ) → fits edition_form text ≡ true → no_edition (number text) ≡ false
    → edition_reading text ≡ Ok (number text)
unfolding edition_reading
edition_reading-is text form known = rw (form, known)

pub edition_reading-form : (text : List ℕ) → fits edition_form text ≡ false → edition_reading text ≡ Refused NoSuchEdition 0
unfolding edition_reading
edition_reading-form text form = rw form

pub edition_reading-none : (text : List ℕ) → fits edition_form text ≡ true → no_edition (number text) ≡ true
    → edition_reading text ≡ Refused NoSuchEdition 0
unfolding edition_reading
edition_reading-none text form other = rw (form, other)

-- what the code reads, two digits at a time
pub date_in-pairs : (text : List ℕ) (c y m d : ℕ) → 4 ≤ length text → c ≡ number (take 2 (drop 0 text)) → y ≡ number (take 2 (drop 2 text))
    → m ≡ number (take 2 (drop 5 text)) → d ≡ number (take 2 (drop 8 text)) → date (100 * c + y) m d ≡ date_in text
unfolding date_in
date_in-pairs text c y m d room first second month day =
    let year : 100 * c + y ≡ number (take 4 text) = omega (arith, number-four text room) in
    rw (year, month, day)

pub yearly_in-pairs : (text : List ℕ) (m d : ℕ) → m ≡ number (take 2 (drop 0 text)) → d ≡ number (take 2 (drop 3 text))
    → record { month = m; day = d } ≡ yearly_in text
unfolding yearly_in
yearly_in-pairs text m d month day = rw (month, day)

-- ---- Writing

pub date_writing-is : (d : Date) → date_exists d ≡ true → date_writing d ≡ Ok (date_text d)
unfolding date_writing
date_writing-is d h = rw h

pub date_writing-refused : (d : Date) → date_exists d ≡ false → date_writing d ≡ Refused NoSuchDate 0
unfolding date_writing
date_writing-refused d h = rw h

pub yearly_writing-is : (t : YearlyDate) → in_no_year t ≡ false → yearly_writing t ≡ Ok (yearly_text t)
unfolding yearly_writing
yearly_writing-is t h = rw h

pub yearly_writing-refused : (t : YearlyDate) → in_no_year t ≡ true → yearly_writing t ≡ Refused NoSuchDate 0
unfolding yearly_writing
yearly_writing-refused t h = rw h
