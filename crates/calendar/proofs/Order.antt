-- Earlier dates have smaller day numbers: no two dates have one number.
--     Before d e            why d is earlier than e
use Rattle.base.proofs.Prelude.{◌+◌, ◌<◌, ◌≡◌, refl, ap, sym, Bool, true, false, ◌||◌, arith, dec_le, ltb, eqb, ltb-true, eqb-true, lt-ltb, le-ltb, eq-eqb}
use Rattle.base.proofs.Lists.{and_left, and_right}
use Rattle.calendar.specs.{declared.Date.Date, Dates.{date, earlier}, Numbers.{days_before_year, days_before_month, day_number}}
use Rattle.calendar.proofs.{Months.days_before_month-le, Existing.{Existing, days_before_year-le, day_number-from-month, day_number-to-month, day_number-from-year, day_number-to-year}}

pub data ComesBefore (d e : Date) : Type 0 where
  by-year : d.year < e.year → ComesBefore d e
  by-month : d.year ≡ e.year → d.month < e.month → ComesBefore d e
  by-day : d.year ≡ e.year → d.month ≡ e.month → d.day < e.day → ComesBefore d e

or_cases {ℓ} : {A : Type ℓ} (a b : Bool) → (a || b) ≡ true → (a ≡ true → A) → (b ≡ true → A) → A
or_cases true b h f g = f refl
or_cases false b h f g = g h

pub before-of-earlier : (d e : Date) → earlier d e ≡ true → ComesBefore d e
unfolding earlier
before-of-earlier d e h =
    or_cases (ltb d.year e.year) _ h
    (λ y. by-year (ltb-true d.year e.year y))
    (λ rest.
    let same = eqb-true d.year e.year (and_left (eqb d.year e.year) _ rest) in
    or_cases (ltb d.month e.month) _ (and_right (eqb d.year e.year) _ rest)
    (λ m. by-month same (ltb-true d.month e.month m))
    (λ days.
    by-day same (eqb-true d.month e.month (and_left (eqb d.month e.month) (ltb d.day e.day) days))
    (ltb-true d.day e.day (and_right (eqb d.month e.month) (ltb d.day e.day) days))))

pub earlier-of-before : (d e : Date) → ComesBefore d e → earlier d e ≡ true
unfolding earlier
earlier-of-before d e (by-year y) = rw (lt-ltb d.year e.year y)
earlier-of-before d e (by-month y m) =
    rw (le-ltb d.year e.year (omega arith), eq-eqb d.year e.year y, lt-ltb d.month e.month m)
earlier-of-before d e (by-day y m k) =
    rw (
      le-ltb d.year e.year (omega arith),
      eq-eqb d.year e.year y,
      le-ltb d.month e.month (omega arith),
      eq-eqb d.month e.month m,
      lt-ltb d.day e.day k,
    )

pub same-date : (d e : Date) → d.year ≡ e.year → d.month ≡ e.month → d.day ≡ e.day → d ≡ e
same-date d e y m k =
    let parts : date d.year d.month d.day ≡ date e.year e.month e.day = rw (y, m, k) in
    parts

pub data Compared (d e : Date) : Type 0 where
  sooner : ComesBefore d e → Compared d e
  same : d ≡ e → Compared d e
  later : ComesBefore e d → Compared d e

pub comes-before-or-after : (d e : Date) → Compared d e
comes-before-or-after d e =
    elim (dec_le e.year d.year) [
      | no y ↦ sooner (by-year (omega arith))
      | yes y ↦ elim (dec_le d.year e.year) [
        | no z ↦ later (by-year (omega arith))
        | yes z ↦ months (omega arith)
      ]
    ]
  where
    days : d.year ≡ e.year → d.month ≡ e.month → Compared d e
    days y m =
        elim (dec_le e.day d.day) [
          | no k ↦ sooner (by-day y m (omega arith))
          | yes k ↦ elim (dec_le d.day e.day) [
            | no j ↦ later (by-day (sym y) (sym m) (omega arith))
            | yes j ↦ same (same-date d e y m (omega arith))
          ]
        ]

    months : d.year ≡ e.year → Compared d e
    months y =
        elim (dec_le e.month d.month) [
          | no m ↦ sooner (by-month y (omega arith))
          | yes m ↦ elim (dec_le d.month e.month) [
            | no n ↦ later (by-month (sym y) (omega arith))
            | yes n ↦ days y (omega arith)
          ]
        ]

pub before-number : (d e : Date) → Existing d → Existing e → ComesBefore d e → day_number d < day_number e
unfolding day_number
before-number d e x z (by-year y) =
    omega (arith, day_number-to-year d x, day_number-from-year e z, days_before_year-le (d.year + 1) e.year (omega arith))
before-number d e x z (by-month y m) =
    let years = ap days_before_year y in
    let here = ap (λ n. days_before_month n e.month) y in
    omega (arith, day_number-to-month d x, day_number-from-month e z, days_before_month-le d.year (d.month + 1) e.month (omega arith))
before-number d e x z (by-day y m k) =
    let years = ap days_before_year y in
    let months : days_before_month d.year d.month ≡ days_before_month e.year e.month = rw (y, m) in
    let first = x.first in
    omega arith
