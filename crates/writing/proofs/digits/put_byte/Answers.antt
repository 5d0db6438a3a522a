-- The two digits stand where the first two bytes stood.
use Rattle.base.proofs.Prelude.{◌/◌, ◌%◌, arith}
use Rattle.writing.specs.Written.{digit_text, byte_text}
use Rattle.writing.proofs.Texts.{set-two}
use Rattle.writing.proofs.digits.put_byte.Goals as goal

pub returns : goal.returns
unfolding byte_text
returns c =
    let b = c.args.b in
    record {
      exact =
          rw (c.digit.ensures.exact, c.digit-2.ensures.exact)
          (set-two c.args.part.now (digit_text (b / 16)) (digit_text (b % 16)) (omega arith));
    }
