-- before each release the walk holds, and each way out is a law of it
use Rattle.base.proofs.Prelude.{ℕ, zero, suc, ◌≡◌, refl, ap, ◌∙◌, arith, take, get_or, replicate}
use Rattle.std.specs.Prelude.{Option, None}
use Rattle.days.specs.declared.Day.{Day}
use Rattle.rules.specs.Release.{first_unlawful}
use Rattle.bounds.proofs.ByPlace.{take_min}
use Rattle.bounds.proofs.ReleaseWalk.{walk_start, walk-bad, releases-walked, walk-low, walk-high, walk-next}
use Rattle.bounds.proofs.releases.first_unlawful.Goals as goal

nevers : (n k : ℕ) → get_or {A = Option Day} (replicate n None) k None ≡ None
nevers zero k = refl
nevers (suc n) zero = refl
nevers (suc n) (suc k) = nevers n k

pub loop-i-init : goal.loop-i-init
loop-i-init c =
    let rs = c.args.rs in
    record {
      counted = ap (λ (k : ℕ). take k rs.list) c.min.ensures ∙ take_min rs.count 1000 rs.list c.well_formed.1.0.1.1.1.0.1.0.1;
      walk = walk_start c.well_formed.0.1.1.1.1.0.1.0.1 refl (nevers 10);
    }

pub returns-then-not-admitted-clause-exact : goal.returns-then-not-admitted-clause-exact
returns-then-not-admitted-clause-exact c =
    walk-bad c.loop-i.invariant.walk c.loop-i-test.true (cc) ∙ ap (first_unlawful c.args.p) c.loop-i.invariant.counted

pub overflow_sub-last : goal.overflow_sub-last
overflow_sub-last c = walk-low c.loop-i.invariant.walk (cc)

pub offset_bounds-last-r : goal.offset_bounds-last-r
offset_bounds-last-r c = omega (arith, walk-high c.loop-i.invariant.walk (cc))

pub bounds-last-r : goal.bounds-last-r
bounds-last-r c = omega (arith, walk-high c.loop-i.invariant.walk (cc))

pub loop-i-preserved : goal.loop-i-preserved
loop-i-preserved c = record {
  counted = c.loop-i.invariant.counted;
  walk = walk-next c.loop-i.invariant.walk c.loop-i-test.true (cc);
}

pub returns-clause-exact : goal.returns-clause-exact
returns-clause-exact c = releases-walked c.loop-i.invariant.walk c.loop-i-test.false
    ∙ ap (first_unlawful c.args.p) c.loop-i.invariant.counted
