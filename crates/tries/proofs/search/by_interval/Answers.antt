-- the intervals are tried one after the other
use Rattle.base.proofs.Prelude.{◌+◌, ◌≤◌, [], ◌∷◌, sym, ap, ◌∙◌, arith}
use Rattle.base.specs.Count.{first_of, up_from}
use Rattle.rules.specs.{declared.BatteryString.BatteryString, Plan.string_at}
use Rattle.std.specs.Prelude.{Some}
use Rattle.tries.specs.{Tries.misses_on, inner.Openings.try_of}
use Rattle.tries.proofs.{Places.{many-strings, string-here, lawful-here}, Searching.{mapped, tries-left-next, left-none, finds-as, finds_here}}
use Rattle.tries.proofs.search.by_interval.Goals as goal

pub tested-requires-clause-l_bound : goal.tested-requires-clause-l_bound
tested-requires-clause-l_bound c =
    let lawful = (lawful-here c.requires.ready c.loop-s.invariant.counted c.loop-s.s-index c.loop-s-test.true).lawful in
    omega (arith, lawful.d_max, lawful.t_max)

pub returns-in-Some : goal.returns-in-Some
returns-in-Some c =
    let p = c.args.p in
    let here = string-here c.requires.ready c.loop-s.invariant.counted c.loop-s.s-index in
    let within : c.loop-s.s-index + 1 ≤ p.n = omega (arith, many-strings c.requires.ready c.loop-s.invariant.counted, c.loop-s-test.true) in
    let asked = ap (λ (s : BatteryString). first_of (misses_on p) (try_of c.args.o s.d.0 ∷ [])) (sym here) in
    let all = ap (first_of (misses_on p)) (sym (mapped (λ j. try_of c.args.o (string_at p j).d.0) (up_from 1 p.n))) in
    finds-as (Some c.in-Some.found) _ _ all
    (finds_here c.loop-s.invariant.left within _ (finds-as (Some c.in-Some.found) _ _ asked c.in-Some.ensures))

pub loop-s-preserved : goal.loop-s-preserved
loop-s-preserved c =
    let p = c.args.p in
    let here = string-here c.requires.ready c.loop-s.invariant.counted c.loop-s.s-index in
    let within : c.loop-s.s-index + 1 ≤ p.n = omega (arith, many-strings c.requires.ready c.loop-s.invariant.counted, c.loop-s-test.true) in
    let asked = ap (λ (s : BatteryString). first_of (misses_on p) (try_of c.args.o s.d.0 ∷ [])) here in
    record {
      counted = c.loop-s.invariant.counted;
      left = tries-left-next c.loop-s.invariant.left within (asked ∙ c.in_default.ensures);
    }

pub returns : goal.returns
returns c =
    let p = c.args.p in
    let past = many-strings c.requires.ready c.loop-s.invariant.counted in
    ap (first_of (misses_on p)) (mapped (λ j. try_of c.args.o (string_at p j).d.0) (up_from 1 p.n))
    ∙ left-none c.loop-s.invariant.left (omega (arith, past, c.loop-s-test.false))
