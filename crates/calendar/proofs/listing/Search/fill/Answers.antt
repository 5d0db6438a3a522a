-- A day that falls in the year goes to the next place.
use Rattle.base.proofs.Prelude.{ℕ, ◌+◌, ◌≤◌, ◌<◌, ◌≡◌, sym, ap, ◌∙◌, List, [], ◌∷◌, ◌++◌, arith, add-one, length, set, take-append-drop}
use lib.Seq.{set_split}
use Rattle.std.specs.Prelude.{Some, None, Option}
use Rattle.base.specs.Count.{put_at}
use Rattle.base.proofs.Storing.{Stored, stored-start, stored-room, stored_next, stored-end}
use Rattle.calendar.specs.{declared.YearlyDate.YearlyDate, Yearly.yearly_days, inner.Places.fall_of}
use Rattle.calendar.proofs.YearByYear.{as_list, left_from, left-start, left-fall, left_end}
use Rattle.calendar.proofs.listing.Search.fill.Goals as goal
use Rattle.calendar.proofs.listing.Search.fill.Goals.{in-Some, in_default}

pub loop-k-init : goal.loop-k-init
loop-k-init c =
    let g = c.args.self in
    let year = c.in_year-k.ensures.placed in
    (omega (arith, year.last), stored-start _ _ c.args.list.now (left-start g.test.edition g.test.on g.first g.last _ _ year))

-- one year: the day that falls in it comes next, then what is left
one : (ed : ℕ) (t : YearlyDate) (a e k at : ℕ) (list₀ list : List ℕ) (fall : Option ℕ) → k ≤ 399 → fall ≡ fall_of ed t a e k
    → length (yearly_days ed t a e) ≤ length list₀ → Stored (yearly_days ed t a e) (left_from ed t a e k) list₀ list at
    → (at + length (as_list fall) ≤ length list)
    × Stored (yearly_days ed t a e) (left_from ed t a e (k + 1)) list₀ (put_at at (as_list fall) list) (at + length (as_list fall))
one ed t a e k at list₀ list fall last is room s =
    let all = yearly_days ed t a e in
    let more = as_list fall in
    let rest = left_from ed t a e (k + 1) in
    let next : left_from ed t a e k ≡ more ++ rest = left-fall ed t a e k last ∙ ap (λ f. as_list f ++ rest) (sym is) in
    let fits = stored-room all (left_from ed t a e k) list₀ list at s more rest next room in
    (fits, stored_next all (left_from ed t a e k) list₀ list at s more rest next fits)

set_put : (at x : ℕ) (list : List ℕ) → at < length list → set list at x ≡ put_at at (x ∷ []) list
set_put at x list h = rw (add-one at) (set_split list at x h)

put_none : (at : ℕ) (list : List ℕ) → put_at at [] list ≡ list
put_none at list =
    let none : at + 0 ≡ at = omega arith in
    rw none (take-append-drop at list)

pub bounds-list-at : goal.bounds-list-at
bounds-list-at c =
    let g = c.args.self in
    let l = c.loop-k in
    let last = c.in_year-k-end.ensures.placed.last in
    let day = sym c.in-Some.is ∙ c.fall_in.ensures.exact in
    let next = one g.test.edition g.test.on g.first g.last l.k l.at c.args.list.now l.list _ (omega arith) day
    c.requires.last_in_bounds l.invariant.1 in
    omega (arith, next.0)

-- what is stored after the year, by what the match gave
after : (ed : ℕ) (t : YearlyDate) (a e k at at₁ : ℕ) (list₀ list list₁ : List ℕ) (fall : Option ℕ) → k ≤ 399 → fall ≡ fall_of ed t a e k
    → length (yearly_days ed t a e) ≤ length list₀ → Stored (yearly_days ed t a e) (left_from ed t a e k) list₀ list at
    → (at + length (as_list fall) ≤ length list → list₁ ≡ put_at at (as_list fall) list) → at₁ ≡ at + length (as_list fall)
    → Stored (yearly_days ed t a e) (left_from ed t a e (k + 1)) list₀ list₁ at₁
after ed t a e k at at₁ list₀ list list₁ fall last is room s written place =
    let next = one ed t a e k at list₀ list fall last is room s in
    rw (written next.0, place) next.1

pub loop-k-preserved : goal.loop-k-preserved
loop-k-preserved c =
    let g = c.args.self in
    let l = c.loop-k in
    let m = c.match-fall_in in
    let last = c.in_year-k-end.ensures.placed.last in
    let few : l.k ≤ 399 = omega arith in
    let next = after g.test.edition g.test.on g.first g.last l.k l.at m.at c.args.list.now l.list m.list in (
      omega arith,
      elim m.branch [
        | in-Some w ↦ next (Some w.in-Some.day) few (sym w.in-Some.is ∙ c.fall_in.ensures.exact) c.requires.last_in_bounds l.invariant.1
            (λ room. w.list-is ∙ set_put l.at w.in-Some.day l.list (omega arith)) w.at-is
        | in_default w ↦ next None few (sym w.in_default.is ∙ c.fall_in.ensures.exact) c.requires.last_in_bounds l.invariant.1
            (λ room. w.list-is ∙ sym (put_none l.at l.list)) (w.at-is ∙ omega arith)
      ],
    )

pub returns : goal.returns
returns c =
    let g = c.args.self in
    let l = c.loop-k in
    let end = c.in_year-k-end.ensures.placed in
    record { stored = stored-end _ _ _ _ _ l.invariant.1 (left_end g.test.edition g.test.on g.first g.last _ _ l.k end (omega arith)) }
