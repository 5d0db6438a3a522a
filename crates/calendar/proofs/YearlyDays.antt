-- The list of a yearly test: exactly the days on which it falls, rising, each once.
use Rattle.base.proofs.Prelude.{ℕ, ◌<◌, ◌≡◌, sym, ap, ◌∙◌, ◌↔◌, true, [], map, arith}
use Rattle.base.specs.Count.{keep, Member}
use Rattle.base.proofs.{Order.{Rising, all_of, all_keep, rising-keep, rising-map, rising-within, rising-mapped, rising-up_from}, Members.{kept-of-member, member-of-kept, keep-none, mapped-of-member, member-of-mapped, up_from-member}}
use Rattle.faults.specs.Checks.{in_bounds}
use Rattle.faults.proofs.Checks.{in_bounds-low, in_bounds-high, in_bounds-yes, in_bounds-not}
use Rattle.calendar.specs.{declared.Date.Date, declared.YearlyDate.YearlyDate, Dates.date_exists, Numbers.{day_number, date_of}, Yearly.{years, in_year, dates_in, days_in, yearly_days, FallsBetween}}
use Rattle.calendar.proofs.{Editions.in_year-year, Existing.existing, Order.{by-year, before-number}, BothWays.{date_of-exists, day_number-date_of, day_number-in-range, date_of-day_number}}

abbrev There : Date → Type 0
There d = date_exists d ≡ true

abbrev Sooner : Date → Date → Type 0
Sooner d f = d.year < f.year

-- the days of all years rise
pub all-rising : (ed : ℕ) (t : YearlyDate) → Rising ◌<◌ (map day_number (dates_in ed t years))
unfolding dates_in
all-rising ed t =
    let all = map (in_year ed t) years in
    let dates = keep date_exists all in
    let there = all_keep There date_exists all (all_of (λ d. There d → There d) (λ d h. h) all) in
    let in_order =
    rising-map ◌<◌ (λ y z. Sooner (in_year ed t y) (in_year ed t z))
    (λ y z h. omega (arith, in_year-year ed t y, in_year-year ed t z)) years (rising-up_from 2000 400) in
    let by-years = rising-keep Sooner date_exists all (rising-mapped Sooner (in_year ed t) years in_order) in
    let by-days =
    rising-within There Sooner (λ d f. day_number d < day_number f)
    (λ d f h g y. before-number d f (existing d h) (existing f g) (by-year y)) dates there by-years in
    rising-mapped ◌<◌ day_number dates by-days

module _ (ed : ℕ) (t : YearlyDate) (a e : ℕ) where
  listed : (k : ℕ) → FallsBetween ed t a e k → Member k (yearly_days ed t a e)
  unfolding days_in dates_in
  listed k f =
      let d = date_of k in
      let there = date_of-exists k f.in_calendar in
      let x = existing d there in
      let inside = up_from-member d.year 2000 400 x.from-2000 (omega (arith, x.to-2399)) in
      let year = mapped-of-member (in_year ed t) d.year years inside in
      let date = kept-of-member date_exists d (map (in_year ed t) years) (rw (← f.is) at year) there in
      let day = mapped-of-member day_number d (dates_in ed t years) date in
      kept-of-member (λ j. in_bounds a j e) k (map day_number (dates_in ed t years)) (rw (day_number-date_of k f.in_calendar) at day)
      (in_bounds-yes a k e f.from f.to)

  falls : (k : ℕ) → Member k (yearly_days ed t a e) → FallsBetween ed t a e k
  unfolding days_in dates_in
  falls k m =
      let between = member-of-kept (λ j. in_bounds a j e) k (map day_number (dates_in ed t years)) m in
      let day = member-of-mapped day_number k (dates_in ed t years) between.0 in
      let d = day.0 in
      let date = member-of-kept date_exists d (map (in_year ed t) years) day.1 in
      let year = member-of-mapped (in_year ed t) d years date.0 in
      let is : date_of k ≡ d = ap date_of day.2 ∙ date_of-day_number d date.1 in
      record {
        in_calendar = omega (arith, day.2, day_number-in-range d date.1);
        from = in_bounds-low a k e between.1;
        to = in_bounds-high a k e between.1;
        is = is ∙ year.2 ∙ ap (in_year ed t) (sym (ap (λ (x : Date). x.year) (is ∙ year.2) ∙ in_year-year ed t year.0));
      }

  -- exactly the days on which it falls, both ends counted
  pub yearly-exactly : (k : ℕ) → Member k (yearly_days ed t a e) ↔ FallsBetween ed t a e k
  yearly-exactly k = (falls k, listed k)

  -- rising, so each once
  pub yearly-rising : Rising ◌<◌ (yearly_days ed t a e)
  unfolding days_in
  yearly-rising = rising-keep ◌<◌ (λ k. in_bounds a k e) (map day_number (dates_in ed t years)) (all-rising ed t)

  -- none if the first day is after the last
  pub yearly-none : e < a → yearly_days ed t a e ≡ []
  unfolding days_in
  yearly-none h = keep-none (λ k. in_bounds a k e) (λ k. in_bounds-not a k e (λ low high. omega arith))
      (map day_number (dates_in ed t years))
