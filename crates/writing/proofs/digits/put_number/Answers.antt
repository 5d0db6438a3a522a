-- The bytes are those of the number, and the digits of one after the other stand at the head of the part.
use Rattle.base.proofs.Prelude.{arith, ap, ◌∙◌, ◌*◌, ◌++◌, drop}
use Rattle.base.proofs.Digits.{places-length}
use Rattle.writing.specs.{Written.{byte_text, number_bytes}, inner.Cells.{number_text}}
use Rattle.writing.proofs.{Texts.{byte_text-length, writing_bytes_of}, Rows.{rows_start, rows_next, rows_written}}
use Rattle.writing.proofs.digits.put_number.Goals as goal

pub loop-i-init : goal.loop-i-init
loop-i-init c =
    let bytes = number_bytes c.args.size c.args.n in
    record {
      bytes = writing_bytes_of c.args.size c.args.n _ c.requires.few c.to_be_bytes-bytes.ensures;
      stand = rows_start byte_text bytes _;
    }

pub loop-i-preserved : goal.loop-i-preserved
loop-i-preserved c =
    let bytes = number_bytes c.args.size c.args.n in
    let part = c.loop-i.part in
    let i = c.loop-i.i in
    record {
      bytes = c.loop-i.invariant.bytes;
      stand =
          rows_next byte_text 2 byte_text-length bytes 0 c.args.part.now part c.put_byte.new.part i c.loop-i.invariant.stand
          (omega (arith, places-length 256 c.args.size c.args.n))
          (omega (arith, c.loop-i.invariant.stand.size)) (rw c.loop-i.invariant.bytes at c.put_byte.ensures.exact);
    }

pub returns : goal.returns
unfolding number_text
returns c =
    let long = places-length 256 c.args.size c.args.n in
    record {
      exact =
          rows_written byte_text 2 byte_text-length (number_bytes c.args.size c.args.n) 0 c.args.part.now c.loop-i.part c.loop-i.i
          c.loop-i.invariant.stand (omega arith)
          ∙ ap (λ k. number_text c.args.size c.args.n ++ drop (k * 2) c.args.part.now) long;
    }
