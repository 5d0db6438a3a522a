-- each fault has its reasons
use Rattle.base.proofs.Prelude.{ap, ◌∙◌}
use Rattle.faults.specs.Checks.{fault_number}
use Rattle.faults.specs.declared.Fault.TheVariants.{FrameWrong, StringCount, OutOfBounds, MultipleOver}
use Rattle.rules.specs.{Layout.{Count, header_frame}, Text.{lines_of, n_in}}
use Rattle.layouts.specs.inner.Versions.{meant_by, layouts_number_of}
use Rattle.layouts.proofs.Versions.{count-place}
use Rattle.naming.specs.Lines.{line_no}
use Rattle.naming.proofs.{Numbers.said, Named.{framed-3, framed-4, framed-5, framed-6, framed-8}, Faults.fault-is}
use Rattle.naming.proofs.framed_reason.Goals as goal

pub returns-in-FrameWrong : goal.returns-in-FrameWrong
unfolding n_in
returns-in-FrameWrong c = record {
  exact = c.frame_reason.ensures.exact
      ∙ framed-3 c.args.text.now c.args.k (meant_by c.args.version) c.requires (fault_number c.args.fault) _
      (c.field_of-n.ensures.exact
      ∙ said (header_frame (meant_by c.args.version)) Count _ (count-place (layouts_number_of c.args.version)) (line_no
      (lines_of c.args.text.now) 1)) (ap fault_number c.in-FrameWrong.is);
}

pub returns-in-StringCount : goal.returns-in-StringCount
unfolding n_in
returns-in-StringCount c = record {
  exact = framed-4 c.args.text.now c.args.k (meant_by c.args.version) c.requires (fault_number c.args.fault) _
      (c.field_of-n.ensures.exact
      ∙ said (header_frame (meant_by c.args.version)) Count _ (count-place (layouts_number_of c.args.version)) (line_no
      (lines_of c.args.text.now) 1)) (ap fault_number c.in-StringCount.is);
}

pub returns-in-OutOfBounds : goal.returns-in-OutOfBounds
returns-in-OutOfBounds c = record {
  exact = c.bounds_reason.ensures.exact
      ∙ framed-5 c.args.text.now c.args.k (meant_by c.args.version) c.requires (fault_number c.args.fault) (ap fault_number
      c.in-OutOfBounds.is);
}

pub returns-in-MultipleOver : goal.returns-in-MultipleOver
returns-in-MultipleOver c = record {
  exact = c.multiple_reason.ensures.exact
      ∙ framed-6 c.args.text.now c.args.k (meant_by c.args.version) c.requires (fault_number c.args.fault) (ap fault_number
      c.in-MultipleOver.is);
}

pub returns-in_default : goal.returns-in_default
returns-in_default c = record {
  exact = c.release_reason.ensures.exact
      ∙ framed-8 c.args.text.now c.args.k (meant_by c.args.version) c.requires (fault_number c.args.fault)
      (λ e. c.in_default.not-FrameWrong (fault-is c.args.fault FrameWrong e))
      (λ e. c.in_default.not-StringCount (fault-is c.args.fault StringCount e))
      (λ e. c.in_default.not-OutOfBounds (fault-is c.args.fault OutOfBounds e))
      (λ e. c.in_default.not-MultipleOver (fault-is c.args.fault MultipleOver e));
}
