-- `bars::cells::left_over` meets its contract: none of the releases passed is left over.
use Rattle.base.proofs.Prelude.{suc, ◌-◌, ◌≤◌, ◌≡◌, sym, ◌∙◌, arith, length, take}
use Rattle.rules.specs.Release.{releases_of}
use Rattle.bars.specs.{Bars.left_over, inner.Drawing.uses_told}
use Rattle.bars.proofs.{Leftover.{any_left, left_by, count-is, left-from-first, left-now, left-found, left_passed, any-over}, cells.left_over.Statement.statement}
use Rattle.bars.proofs.cells.left_over.Tie as tie

abbrev invariant-loop : tie.invariant-loop-passed
invariant-loop p list stints days place t going count releases passed₀ passed =
    record {
      upto : passed ≤ count;
      same : any_left (left_by p (take count releases) (uses_told list stints) days place t) count passed
          ≡ left_over p (take count releases) (uses_told list stints) days place t;
    }

abbrev decreases-loop : tie.decreases-loop-passed
decreases-loop p list stints days place t going count releases passed₀ passed = count - passed

few : (s : tie.Start invariant-loop decreases-loop) → s.args.rs.count ≤ length s.args.rs.list
few s =
    let thousand : length s.args.rs.list ≡ 1000 = s.well_formed.1.0.1.1.1.0.1.0.1 in
    omega (arith, thousand, s.requires.1.1.1)

loop-holds : tie.Need-loop-passed-init invariant-loop decreases-loop
loop-holds c =
    let start = c.before.before in
    let g = start.args in
    record {
      upto = omega arith;
      same = left-from-first g.p (releases_of g.rs) (uses_told g.list.now g.stints) g.days g.place g.t g.rs.count
          (count-is g.rs (few start));
    }

-- whether the release that is looked at is left over
now-left : (c : tie.After-is_left invariant-loop decreases-loop)
    → left_by c.args.p
    (releases_of c.args.rs)
    (uses_told c.args.list.now
    c.args.stints)
    c.args.days c.args.place
    c.args.t (suc c.loop-passed.passed)
    ≡ c.is_left.result
now-left c =
    let at = c.before.before.before in
    let start = at.before.before.before in
    let g = start.args in
    left-now g.p g.rs (uses_told g.list.now g.stints) g.days g.place g.t at.loop-passed.passed c.is_left.result
    (few start) (omega arith) c.is_left.ensures

returns : tie.Need-returns-then-is_left invariant-loop decreases-loop
returns c =
    let at = c.before.before.before.before in
    let g = at.args in
    let here = now-left c.before ∙ c.if-is_left.true in
    sym (left-found (left_by g.p (releases_of g.rs) (uses_told g.list.now g.stints) g.days g.place g.t) g.rs.count
    at.loop-passed.passed (omega arith) here)
    ∙ at.loop-passed.invariant.same

loop-again : tie.Need-loop-passed-preserved invariant-loop decreases-loop
loop-again c =
    let at = c.before.before.before.before in
    let g = at.args in
    let gone = now-left c.before ∙ c.if-is_left.false in
    record {
      upto = omega arith;
      same = sym (left_passed (left_by g.p (releases_of g.rs) (uses_told g.list.now g.stints) g.days g.place g.t)
          g.rs.count at.loop-passed.passed (omega arith) gone)
          ∙ at.loop-passed.invariant.same;
    }

returns-2 : tie.Need-returns invariant-loop decreases-loop
returns-2 c =
    let at = c.before in
    let g = at.args in
    sym (any-over (left_by g.p (releases_of g.rs) (uses_told g.list.now g.stints) g.days g.place g.t) g.rs.count
    at.loop-passed.passed (omega arith))
    ∙ at.loop-passed.invariant.same

pub left_over_spec : {M : Type 1} → statement M
left_over_spec =
    tie.close (tie.spec
    invariant-loop decreases-loop loop-holds (λ c. omega (arith, c.requires.1.1.1))
    (λ c. omega (arith, c.requires.1.1.1))
    (λ c. omega (arith, c.requires.1.1.1))
    (λ c κs. let pre = c.requires in
    (pre.0, (pre.1.0, pre.1.1.0))) returns
    (λ c. omega (arith, c.requires.1.1.1)) (λ c. omega arith) loop-again returns-2)
