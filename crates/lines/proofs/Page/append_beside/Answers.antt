use Rattle.std.proofs.Common.{arith, rules}
use Rattle.lines.proofs.Digits.{decimal-32}
use Rattle.lines.proofs.Page.append_beside.Goals as goal

pub append_number-requires : goal.append_number-requires
append_number-requires c = omega (arith, decimal-32 c.args.number.0 (search rules))

pub append-requires-2 : goal.append-requires-2
append-requires-2 c = omega (arith, decimal-32 c.args.number.0 (search rules))

pub append_limit-requires : goal.append_limit-requires
append_limit-requires c = omega (arith, decimal-32 c.args.number.0 (search rules))

pub returns-clause-short : goal.returns-clause-short
returns-clause-short c = omega (arith, decimal-32 c.args.number.0 (search rules))
