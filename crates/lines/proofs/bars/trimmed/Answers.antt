use Rattle.std.proofs.Common.{◌∙◌, ◌-◌, length, arith, length-take}
use Rattle.base.proofs.Prelude.{ltb-true}
use Rattle.lines.proofs.Trimming.{space_off, stays, none_stays}
use Rattle.lines.proofs.bars.trimmed.Goals as goal

pub loop-kept-preserved : goal.loop-kept-preserved
loop-kept-preserved c =
    let kept = c.loop-kept.kept.now in
    record {
      same = space_off kept c.in-len1-up.len_at_least c.if-last-eq32.true ∙ c.loop-kept.invariant.same;
      short = omega (arith, length-take (length kept - 1) kept, c.loop-kept.invariant.short);
    }

pub returns-then-kept-lt1-clause-exact : goal.returns-then-kept-lt1-clause-exact
returns-then-kept-lt1-clause-exact c =
    none_stays c.loop-kept.kept.now (omega (arith, ltb-true)) ∙ c.loop-kept.invariant.same

pub returns-else-last-eq32-clause-exact : goal.returns-else-last-eq32-clause-exact
returns-else-last-eq32-clause-exact c =
    stays c.loop-kept.kept.now c.in-len1-up.len_at_least c.if-last-eq32.false ∙ c.loop-kept.invariant.same
