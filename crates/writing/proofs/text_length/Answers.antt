-- The length that the code counts is the text's, and it is small.
use Rattle.base.proofs.Prelude.{arith}
use Rattle.writing.proofs.Saving.{few-lines, text-counted}
use Rattle.writing.proofs.text_length.Goals as goal

pub overflow_mul-result : goal.overflow_mul-result
overflow_mul-result c = omega (arith, few-lines c.args.version _ c.layouts-layouts.ensures.exact c.args.p c.args.rs c.requires)

pub returns : goal.returns
returns c =
    record {
      exact =
          text-counted c.args.version _ c.layouts-layouts.ensures.exact c.args.p c.args.rs c.requires
          (c.well_formed.0.1.1.1.1.0.1.0.1) (c.well_formed.1.0.1.1.1.0.1.0.1);
    }

pub overflow_add-result : goal.overflow_add-result
overflow_add-result c = omega (arith, few-lines c.args.version _ c.layouts-layouts.ensures.exact c.args.p c.args.rs c.requires)

pub overflow_mul-result-2 : goal.overflow_mul-result-2
overflow_mul-result-2 c = omega (arith, few-lines c.args.version _ c.layouts-layouts.ensures.exact c.args.p c.args.rs c.requires)

pub overflow_add-result-2 : goal.overflow_add-result-2
overflow_add-result-2 c = omega (arith, few-lines c.args.version _ c.layouts-layouts.ensures.exact c.args.p c.args.rs c.requires)
