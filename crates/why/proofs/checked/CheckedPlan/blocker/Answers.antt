-- the string at the place that was found
use Rattle.base.proofs.Prelude.{ℕ, ◌-◌, ◌≤◌, ◌<◌, ◌≡◌, ap, ◌∙◌, arith, ne_eqb}
use Rattle.lines.specs.Pages.{page_of}
use Rattle.verdict.proofs.StringSums.{string-at}
use Rattle.why.specs.{declared.checked.CheckedPlan.CheckedPlan, Shares.{blocker_text, blocker_place}}
use Rattle.why.proofs.{LongestBlock.{place-low, place-high, blocker-line-is}, Walking.ready}
use Rattle.why.proofs.checked.CheckedPlan.blocker.Goals as goal

module _ (p : CheckedPlan) (l place : ℕ) (is : place ≡ blocker_place p.plan l) where
  low : 1 ≤ place
  low = omega (arith, place-low p.plan (ready p) l)

  high : place ≤ p.plan.n
  high = omega (arith, place-high p.plan (ready p) l)

  inside : place - 1 < 10
  inside = omega (arith, low, high, (ready p).lawful.n_max)

pub overflow_sub-s : goal.overflow_sub-s
overflow_sub-s c = low c.args.self.now c.args.l _ c.blocker_place-place.ensures.exact

pub offset_bounds-self-place : goal.offset_bounds-self-place
offset_bounds-self-place c = omega (arith, inside c.args.self.now c.args.l _ c.blocker_place-place.ensures.exact)

pub bounds-self-place : goal.bounds-self-place
bounds-self-place c = inside c.args.self.now c.args.l _ c.blocker_place-place.ensures.exact

pub hold_of-requires : goal.hold_of-requires
hold_of-requires c =
    let p = c.args.self.now in
    let place = c.blocker_place-place.result in
    let is = c.blocker_place-place.ensures.exact in
    string-at p.plan (ready p) (place - 1) (omega (arith, low p c.args.l place is, high p c.args.l place is))

pub returns : goal.returns
unfolding blocker_text
returns c =
    let p = c.args.self.now in
    let is = blocker-line-is p.plan (ready p) c.args.l c.blocker_place-place.result c.hold_of.result
    c.blocker_place-place.ensures.exact c.hold_of.ensures.exact in
    record { exact = rw (ne_eqb _ 0 c.if-b-eq0.false) (c.blocker_line.ensures.exact ∙ ap page_of is) }
