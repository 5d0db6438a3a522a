-- What the crew would ask: every yearly test of the diary that falls within the run stands on the board for each day on which it falls, and
-- for no other.
use Rattle.base.proofs.Prelude.{ℕ, zero, suc, ◌+◌, ◌-◌, ◌≤◌, ◌<◌, ◌≡◌, refl, sym, ap, ◌∙◌, ◌↔◌, ◌⊎◌, inl, inr, Bool, true, ◌&&◌, List, [], ◌∷◌, ◌++◌, append_assoc, arith, eq-eqb, eqb, eqb-true, length}
use mathlib.Core.List.{flat_map}
use mathlib.Core.Path.{ap₂}
use Rattle.writing.proofs.Texts.{flat_map-append}
use Rattle.laws.proofs.History.{history-length}
use Rattle.base.specs.Count.{All, keep, Member, up_from}
use Rattle.base.proofs.{Lists.{and_left, and_right, and_both}, Order.{Rising, rising-keep, rising-up_from}, Members.{kept-of-member, member-of-kept, up_from-member}}
use Rattle.calendar.specs.{declared.Date.Date, Dates.date, Numbers.{date_of, last_day}, Yearly.{same_date, falls_on, in_year, yearly_days}}
use Rattle.calendar.proofs.YearlyDays.{yearly-exactly, yearly-rising}
use Rattle.rules.specs.{declared.Plan.Plan, declared.Release.Release, declared.Use.Use, Run.{history, use_on}}
use Rattle.boards.specs.{declared.Test.Test, Input.set_for, Board.{falls_today, board_day, board_from}}

-- two dates are the same exactly where they are one
module _ (d e : Date) where
  abbrev year : Bool
  year = eqb d.year e.year

  abbrev month : Bool
  month = eqb d.month e.month

  abbrev day : Bool
  day = eqb d.day e.day

  same-is : same_date d e ≡ true → d ≡ e
  unfolding same_date
  same-is h =
      let first = and_left (year && month) day h in
      ap (λ y. date y d.month d.day) (eqb-true d.year e.year (and_left year month first))
      ∙ ap (λ m. date e.year m d.day) (eqb-true d.month e.month (and_right year month first))
      ∙ ap (λ k. date e.year e.month k) (eqb-true d.day e.day (and_right (year && month) day h))

  is_same : d ≡ e → same_date d e ≡ true
  unfolding same_date
  is_same h =
      and_both (year && month) day
      (and_both year month (eq-eqb d.year e.year (ap (λ (x : Date). x.year) h))
      (eq-eqb d.month e.month (ap (λ (x : Date). x.month) h)))
      (eq-eqb d.day e.day (ap (λ (x : Date). x.day) h))

-- a test stands on a day of the run exactly where the calendar lists it
pub yearly-on-day : (t : Test) (a e k : ℕ) → a ≤ k → k ≤ e → e ≤ last_day
    → (falls_today k t ≡ true) ↔ Member k (yearly_days t.edition (set_for t) a e)
unfolding falls_today falls_on
yearly-on-day t a e k from to there =
    let on = in_year t.edition (set_for t) (date_of k).year in
    let exactly = yearly-exactly t.edition (set_for t) a e k in (
      λ h. exactly.1 (record { in_calendar = omega arith; from = from; to = to; is = same-is (date_of k) on h }),
      λ m. is_same (date_of k) on (exactly.0 m).is,
    )

-- ---- The days of one test

beyond : (x k : ℕ) (xs : List ℕ) → All (◌<◌ x) xs → Member k xs → x < k
beyond x k [] h m = absurd m
beyond x k (y ∷ ys) h (inl e) = omega (arith, h.0)
beyond x k (y ∷ ys) h (inr m) = beyond x k ys h.1 m

-- two lists that rise and have the same members are one
rising-same : (xs ys : List ℕ) → Rising ◌<◌ xs → Rising ◌<◌ ys → ((k : ℕ) → Member k xs ↔ Member k ys) → xs ≡ ys
rising-same [] [] h g same = refl
rising-same [] (y ∷ ys) h g same = absurd ((same y).1 (inl refl))
rising-same (x ∷ xs) [] h g same = absurd ((same x).0 (inl refl))
rising-same (x ∷ xs) (y ∷ ys) h g same =
    let first = heads ((same x).0 (inl refl)) ((same y).1 (inl refl)) in
    ap (λ z. z ∷ xs) first
    ∙ ap (λ zs. y ∷ zs)
    (rising-same xs ys h.1 g.1 (λ k. (
      λ m. left k ((same k).0 (inr m)) first m,
      λ m. right k ((same k).1 (inr m)) first m,
    )))
  where
    heads : (x ≡ y) ⊎ Member x ys → (y ≡ x) ⊎ Member y xs → x ≡ y
    heads (inl e) n = e
    heads (inr m) (inl e) = sym e
    heads (inr m) (inr n) = absurd (omega (arith, beyond y x ys g.0 m, beyond x y xs h.0 n))

    left : (k : ℕ) → (k ≡ y) ⊎ Member k ys → x ≡ y → Member k xs → Member k ys
    left k (inl e) first m = absurd (omega (arith, beyond x k xs h.0 m))
    left k (inr n) first m = n

    right : (k : ℕ) → (k ≡ x) ⊎ Member k xs → x ≡ y → Member k ys → Member k xs
    right k (inl e) first m = absurd (omega (arith, beyond y k ys g.0 m))
    right k (inr n) first m = n

within : (i k n : ℕ) → Member i (up_from k n) → (k ≤ i) × (i < k + n)
unfolding up_from
within i k zero m = absurd m
within i k (suc n) (inl e) = (omega arith, omega arith)
within i k (suc n) (inr m) =
    let later = within i (suc k) n m in
    (omega (arith, later.0), omega (arith, later.1))

module _ (t : Test) (k n : ℕ) where
  abbrev last : ℕ
  last = k + n - 1

  abbrev days : List ℕ
  days = yearly_days t.edition (set_for t) k last

  abbrev falls : ℕ → Bool
  falls j = falls_today j t

  listed : k + n ≤ last_day + 1 → (j : ℕ) → Member j (keep falls (up_from k n)) → Member j days
  listed there j m =
      let both = member-of-kept falls j (up_from k n) m in
      let bounds = within j k n both.0 in
      (yearly-on-day t k last j bounds.0 (omega (arith, bounds.1)) (omega (arith, bounds.1))).0 both.1

  standing : 1 ≤ n → k + n ≤ last_day + 1 → (j : ℕ) → Member j days → Member j (keep falls (up_from k n))
  standing some there j m =
      let f = (yearly-exactly t.edition (set_for t) k last j).0 m in
      kept-of-member falls j (up_from k n) (up_from-member j k n f.from (omega (arith, f.to)))
      ((yearly-on-day t k last j f.from f.to (omega arith)).1 m)

  -- of n days from day k on, a test stands on those that the calendar lists for it, each once
  pub test-days : 1 ≤ n → k + n ≤ last_day + 1 → keep (λ j. falls_today j t) (up_from k n) ≡ yearly_days t.edition (set_for t) k (k + n - 1)
  test-days some there =
      rising-same (keep falls (up_from k n)) days (rising-keep ◌<◌ falls (up_from k n) (rising-up_from k n))
      (yearly-rising t.edition (set_for t) k last) (λ j. (listed there j, standing some there j))

-- ---- Day by day

board-append : (ts : List Test) (k : ℕ) (us vs : List Use)
    → board_from k ts (us ++ vs) ≡ board_from k ts us ++ board_from (k + length us) ts vs
unfolding board_from
board-append ts k [] vs =
    let same : k + 0 ≡ k = omega arith in
    rw same
board-append ts k (u ∷ us) vs =
    let next : suc k + length us ≡ k + suc (length us) = omega arith in
    ap (λ l. board_day k ts u ++ l) (board-append ts (suc k) us vs)
    ∙ sym (append_assoc (board_day k ts u) (board_from (suc k) ts us) (board_from (suc k + length us) ts vs))
    ∙ ap (λ j. (board_day k ts u ++ board_from (suc k) ts us) ++ board_from j ts vs) next

up_from-last : (k n : ℕ) → up_from k (suc n) ≡ up_from k n ++ ((k + n) ∷ [])
unfolding up_from
up_from-last k zero =
    let same : k + 0 ≡ k = omega arith in
    rw same
up_from-last k (suc n) =
    let next : suc k + n ≡ k + suc n = omega arith in
    ap (λ l. k ∷ l) (up_from-last (suc k) n ∙ ap (λ j. up_from (suc k) n ++ (j ∷ [])) next)

-- no day is left out, and each has the place that the run has
pub day-by-day : (ts : List Test) (p : Plan) (rs : List Release) (k n : ℕ)
    → board_from k ts (history p rs n) ≡ flat_map (λ t. board_day (k + t) ts (use_on p rs t)) (up_from 0 n)
unfolding history board_from up_from flat_map
day-by-day ts p rs k zero = refl
day-by-day ts p rs k (suc n) =
    let day : ℕ → List ℕ = λ t. board_day (k + t) ts (use_on p rs t) in
    let last : 0 + n ≡ n = omega arith in
    board-append ts k (history p rs n) (use_on p rs n ∷ [])
    ∙ ap₂ (λ l j. l ++ (board_day (k + j) ts (use_on p rs n) ++ [])) (day-by-day ts p rs k n) (history-length p rs n)
    ∙ sym (ap (flat_map day) (up_from-last 0 n ∙ ap (λ j. up_from 0 n ++ (j ∷ [])) last) ∙ flat_map-append day (up_from 0 n) (n ∷ []))
