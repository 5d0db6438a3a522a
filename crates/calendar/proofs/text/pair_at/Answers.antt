-- The two digits, one after the other.
use Rattle.base.proofs.Prelude.{arith}
use Rattle.calendar.proofs.Texts.{number-two}
use Rattle.calendar.proofs.text.pair_at.Goals as goal

pub returns-clause-exact : goal.returns-clause-exact
returns-clause-exact c = omega (arith, number-two c.args.text.now c.args.at c.requires)
