-- each string makes H the next least common multiple, or one that is too large
use Rattle.base.proofs.Prelude.{ℕ, ◌≡◌, ap, ◌∙◌, arith, length, take}
use Rattle.bounds.proofs.ByPlace.{take_min}
use Rattle.bounds.proofs.LeastMultiple.{done-start, done_next, done-past, done_end}
use Rattle.bounds.proofs.periods.multiple.Goals as goal

pub loop-s-init : goal.loop-s-init
loop-s-init c =
    let ten : length c.args.p.strings ≡ 10 = c.well_formed.0.1.1.1.1.0.1.0.1 in
    record {
      counted = ap (λ (k : ℕ). take k c.args.p.strings) c.min.ensures ∙ take_min c.args.p.n 10 c.args.p.strings ten;
      done = done-start _;
    }

pub next_multiple-requires : goal.next_multiple-requires
next_multiple-requires c = c.loop-s.invariant.done.low

pub returns-in_default : goal.returns-in_default
returns-in_default c = record {
  exact = done-past _ _ _ _ c.loop-s.invariant.done c.loop-s-test.true c.in_default.ensures.exact _ c.loop-s.invariant.counted
      (omega arith);
}

pub loop-s-preserved : goal.loop-s-preserved
loop-s-preserved c = record {
  counted = c.loop-s.invariant.counted;
  done = done_next _ _ _ _ c.loop-s.invariant.done c.loop-s-test.true c.in-Some.ensures.exact c.in-Some.ensures.within;
}

pub returns : goal.returns
returns c = record { exact = done_end _ _ _ _ c.loop-s.invariant.counted c.loop-s.invariant.done c.loop-s-test.false }
