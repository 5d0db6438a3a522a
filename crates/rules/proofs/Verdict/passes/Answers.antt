-- by the verdict's cases
use Rattle.std.proofs.Common.{rules}
use Rattle.rules.specs.Verdict.{is_pass}
use Rattle.rules.proofs.Verdict.passes.Goals as goal

pub returns-in-Pass : goal.returns-in-Pass
unfolding is_pass
returns-in-Pass c = search rules

pub returns-in_default : goal.returns-in_default
unfolding is_pass
returns-in_default c = search rules
