-- the fault decides
use Rattle.base.proofs.Prelude.{ap, ◌∙◌}
use Rattle.faults.specs.Checks.{fault_number}
use Rattle.faults.specs.declared.Fault.TheVariants.{TextTooLong, LineMalformed, ReleaseTooMany}
use Rattle.naming.specs.Malformed.{malformed_reason}
use Rattle.naming.proofs.{Named.{for-1, for-2, for-7, for-others}, Faults.fault-is}
use Rattle.naming.proofs.reason_for.Goals as goal

pub returns-in-TextTooLong : goal.returns-in-TextTooLong
returns-in-TextTooLong c = record { exact = for-1 c.args.text.now c.args.fault c.args.k (ap fault_number c.in-TextTooLong.is) }

pub returns-in-LineMalformed : goal.returns-in-LineMalformed
returns-in-LineMalformed c = record {
  exact = c.malformed_reason.ensures.exact ∙ ap malformed_reason c.line_in.ensures.exact
      ∙ for-2 c.args.text.now c.args.fault c.args.k (ap fault_number c.in-LineMalformed.is);
}

pub returns-in-ReleaseTooMany : goal.returns-in-ReleaseTooMany
returns-in-ReleaseTooMany c = record { exact = for-7 c.args.text.now c.args.fault c.args.k (ap fault_number c.in-ReleaseTooMany.is) }

pub returns-in_default : goal.returns-in_default
returns-in_default c = record {
  exact = c.framed_reason.ensures.exact
      ∙ for-others c.args.text.now c.args.fault c.args.k
      (λ e. c.in_default.not-TextTooLong (fault-is c.args.fault TextTooLong e))
      (λ e. c.in_default.not-LineMalformed (fault-is c.args.fault LineMalformed e))
      (λ e. c.in_default.not-ReleaseTooMany (fault-is c.args.fault ReleaseTooMany e));
}
