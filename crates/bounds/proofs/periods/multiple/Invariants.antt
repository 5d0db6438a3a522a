-- H so far is the least common multiple of the strings done
use Rattle.std.proofs.Common.{◌≡◌}
use Rattle.rules.specs.Plan.{strings_of}
use Rattle.bounds.proofs.LeastMultiple.{Done}
use Rattle.bounds.proofs.periods.multiple.Given as goal

abbrev pub invariant-loop-s : goal.invariant-loop-s
invariant-loop-s l = record { counted : l.s-items ≡ strings_of l.fn.p; done : Done l.s-items l.h l.s-index }
