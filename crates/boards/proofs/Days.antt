-- The parts of a day's lines: how long they are, and how the lines of tests follow each other.
use Rattle.base.proofs.Prelude.{ℕ, zero, suc, ◌+◌, ◌*◌, ◌≤◌, ◌<◌, min, ◌≡◌, refl, sym, ap, ◌∙◌, Bool, true, false, List, [], ◌∷◌, ◌++◌, append-nil, arith, add-one, dec_le, length, get_or, take, drop, length-append, append_assoc, take-suc, take-append-drop, take_all}
use mathlib.Core.List.{flat_map}
use Rattle.base.specs.{Count.keep, Digits.places_of}
use Rattle.std.specs.List.{count_by}
use Rattle.std.proofs.lemmas.List.Recursion.{is_count_by}
use Rattle.base.proofs.Lists.{by_bool}
use Rattle.calendar.specs.{declared.Date.Date, declared.Weekday.Weekday, declared.Weekday.TheVariants.{Saturday, Sunday, Monday, Tuesday, Wednesday, Thursday, Friday}, Weekdays.{week, weekday_of}, Texts.{digits, date_text, yearly_text}}
use Rattle.rules.specs.Lines.{bytes_of, worded_in}
use Rattle.lines.specs.Dates.{weekday_name}
use Rattle.boards.specs.{declared.Test.Test, inner.Daily.{head_with, yearly_tail, falls_by, tests_text, day_text}}

-- ---- Letters

abbrev pub names : List ℕ
names = bytes_of "SatSunMonTueWedThuFri"

-- the names of the weekdays stand in their order, three letters each
pub letters : (k : ℕ) → k < 7
    → get_or names (3 * k) 0 ∷ get_or names (3 * k + 1) 0 ∷ get_or names (3 * k + 2) 0 ∷ [] ≡ weekday_name (get_or week k Saturday)
unfolding weekday_name bytes_of
letters zero h = refl
letters (suc zero) h = refl
letters (suc (suc zero)) h = refl
letters (suc (suc (suc zero))) h = refl
letters (suc (suc (suc (suc zero)))) h = refl
letters (suc (suc (suc (suc (suc zero))))) h = refl
letters (suc (suc (suc (suc (suc (suc zero)))))) h = refl
letters (suc (suc (suc (suc (suc (suc (suc k))))))) h = absurd (omega arith)

three : (w : Weekday) → length (weekday_name w) ≡ 3
unfolding weekday_name bytes_of
three Saturday = refl
three Sunday = refl
three Monday = refl
three Tuesday = refl
three Wednesday = refl
three Thursday = refl
three Friday = refl

pub head-long : (d : Date) (k : ℕ) → length (head_with d k) ≡ 15
unfolding head_with bytes_of worded_in date_text digits places_of
head-long d k =
    let name = three (weekday_of k) in
    let last = length-append (weekday_name (weekday_of k)) (0x20 ∷ []) in
    omega arith

tail-long : (t : Test) → length (yearly_tail t) ≡ 13
unfolding yearly_tail bytes_of worded_in yearly_text digits places_of
tail-long t = refl

-- ---- The lines of tests

module _ (head : List ℕ) (d : Date) where
  pub tests-falls : (t : Test) → falls_by d t ≡ true → tests_text head d (t ∷ []) ≡ head ++ yearly_tail t
  unfolding tests_text keep flat_map
  tests-falls t h = rw h (append-nil (head ++ yearly_tail t))

  pub tests-not : (t : Test) → falls_by d t ≡ false → tests_text head d (t ∷ []) ≡ []
  unfolding tests_text keep flat_map
  tests-not t h = rw h

  pub tests-none : tests_text head d [] ≡ []
  unfolding tests_text keep flat_map
  tests-none = refl

  pub tests-next : (t : Test) (ts : List Test) → tests_text head d (t ∷ ts) ≡ tests_text head d (t ∷ []) ++ tests_text head d ts
  unfolding tests_text keep flat_map
  tests-next t ts =
      by_bool (falls_by d t)
      (λ h. rw (h, append-nil (head ++ yearly_tail t)))
      (λ h. rw h)

  -- 28 bytes for each that falls
  pub tests-long : length head ≡ 15 → (ts : List Test) → length (tests_text head d ts) ≡ 28 * length (keep (falls_by d) ts)
  unfolding tests_text keep flat_map
  tests-long fifteen [] = refl
  tests-long fifteen (t ∷ ts) =
      let rest = tests-long fifteen ts in
      let here = length-append head (yearly_tail t) in
      let size = tail-long t in
      by_bool (falls_by d t)
      (λ h. rw h (omega (arith, length-append (head ++ yearly_tail t) (flat_map (λ t. head ++ yearly_tail t) (keep (falls_by d) ts)))))
      (λ h. rw h rest)

pub day-long : (head tail : List ℕ) (d : Date) (ts : List Test) → length head ≡ 15
    → length (day_text head tail d ts) ≡ 15 + length tail + 28 * length (keep (falls_by d) ts)
unfolding day_text
day-long head tail d ts fifteen =
    let both = length-append (head ++ tail) (tests_text head d ts) in
    let line = length-append head tail in
    omega (arith, tests-long head d fifteen ts)

-- ---- One test after another

module _ (head : List ℕ) (d : Date) where
  tests-append : (ts us : List Test) → tests_text head d (ts ++ us) ≡ tests_text head d ts ++ tests_text head d us
  tests-append [] us = rw (tests-none head d)
  tests-append (t ∷ ts) us =
      let one = tests_text head d (t ∷ []) in
      tests-next head d t (ts ++ us)
      ∙ ap (λ l. one ++ l) (tests-append ts us)
      ∙ sym (append_assoc one (tests_text head d ts) (tests_text head d us))
      ∙ ap (λ l. l ++ tests_text head d us) (sym (tests-next head d t ts))

  pub test-more : (ts : List Test) (z : Test) (i : ℕ) → i < length ts
      → tests_text head d (take (i + 1) ts) ≡ tests_text head d (take i ts) ++ tests_text head d (get_or ts i z ∷ [])
  test-more ts z i inside =
      let one : take (i + 1) ts ≡ take i ts ++ (get_or ts i z ∷ []) = rw (add-one i) (take-suc ts i z inside) in
      ap (tests_text head d) one ∙ tests-append (take i ts) (get_or ts i z ∷ [])

  pub tests-within : (ts : List Test) (i : ℕ) → length (tests_text head d (take i ts)) ≤ length (tests_text head d ts)
  tests-within ts i =
      let whole = ap (λ l. length (tests_text head d l)) (take-append-drop i ts) in
      let parts = ap length (tests-append (take i ts) (drop i ts)) in
      omega (arith, whole, parts, length-append (tests_text head d (take i ts)) (tests_text head d (drop i ts)))

-- how many are kept
pub kept-counted : (f : Test → Bool) (ts : List Test) → count_by f ts ≡ length (keep f ts)
unfolding keep
kept-counted f ts =
    sym (is_count_by (λ xs. length (keep f xs)) f refl (λ x xs. by_bool (f x) (λ t. rw t (omega arith)) (λ e. rw e)) ts)

-- of twenty the first `count`
pub first-twenty : (count : ℕ) (ts : List Test) → length ts ≡ 20 → take (min count 20) ts ≡ take count ts
first-twenty count ts twenty =
    elim (dec_le count 20) [
      | yes h ↦
          let is : min count 20 ≡ count = omega arith in
          rw is
      | no h ↦
          let is : min count 20 ≡ 20 = omega arith in
          rw is (take_all 20 ts (omega arith) ∙ sym (take_all count ts (omega arith)))
    ]
