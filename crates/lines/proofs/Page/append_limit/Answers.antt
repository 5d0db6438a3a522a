use Rattle.std.proofs.Common.{arith, rules}
use Rattle.lines.proofs.Digits.{decimal-32}
use Rattle.lines.proofs.Page.append_limit.Goals as goal

pub append_number-requires : goal.append_number-requires
append_number-requires c = omega (arith, decimal-32 c.in-Some.value (search rules))

pub returns-in-Some-clause-short : goal.returns-in-Some-clause-short
returns-in-Some-clause-short c = omega (arith, decimal-32 c.in-Some.value (search rules))
