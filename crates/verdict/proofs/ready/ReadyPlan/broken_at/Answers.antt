-- The scan ends at the first broken pair, or finds none.
use Rattle.base.proofs.Prelude.{sym}
use Rattle.verdict.proofs.Breaking.{broken-nowhere, broken-there}
use Rattle.verdict.proofs.ready.ReadyPlan.broken_at.Goals as goal

pub returns-in-Fail : goal.returns-in-Fail
returns-in-Fail c = sym (broken-there c.args.self.plan c.args.self.ready.lawful _ c.first_broken.ensures _ _ _ _ c.in-Fail.is)

pub returns-in_default : goal.returns-in_default
returns-in_default c = sym (broken-nowhere c.args.self.plan c.args.self.ready.lawful _ c.first_broken.ensures c.in_default.not-Fail)
