-- each string is read from its line
use Rattle.base.proofs.Prelude.{ℕ, ◌+◌, ◌-◌, ◌*◌, ◌^◌, ◌≤◌, ◌<◌, ◌≡◌, refl, sym, ap, ◌∙◌, arith, min, set}
use Rattle.base.specs.Count.{filled, up_from}
use Rattle.rules.specs.{Plan.no_string, Text.lines_of}
use Rattle.layouts.specs.inner.Versions.{meant_by}
use Rattle.naming.proofs.Periods.{named_to, named_more, named-whole, named-few}
use Rattle.naming.proofs.multiples.plan_named.Goals as goal

pub loop-i-init : goal.loop-i-init
unfolding up_from
loop-i-init c = record {
  few = omega (arith, c.counted_in-n.ensures.exact, named-few (meant_by c.args.version) (lines_of c.args.text.now));
  here = refl;
}

pub loop-i-preserved : goal.loop-i-preserved
loop-i-preserved c =
    let v = meant_by c.args.version in
    let lines = lines_of c.args.text.now in
    record {
      few = c.loop-i.invariant.few;
      here = ap (λ xs. set xs c.loop-i.i c.string_of.result) c.loop-i.invariant.here
          ∙ named_more v lines c.loop-i.i c.string_of.result (omega (arith, c.loop-i.invariant.few)) c.string_of.ensures.exact;
    }

pub returns : goal.returns
returns c =
    let v = meant_by c.args.version in
    let lines = lines_of c.args.text.now in
    let all : c.loop-i.i ≡ c.counted_in-n.result = omega arith in
    record {
      exact = named-whole v lines c.counted_in-n.result c.loop-i.strings c.counted_in-n.ensures.exact
          (c.loop-i.invariant.here ∙ ap (λ k. filled 10 no_string (named_to v lines k)) all);
    }
