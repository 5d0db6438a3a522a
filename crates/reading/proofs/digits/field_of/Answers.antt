-- Each digit of the field is one, and no four bytes write more than fits.
use Rattle.std.proofs.Common.{◌+◌, ◌*◌, ◌<◌, sym, arith}
use Rattle.reading.specs.inner.Positions.{digits_ahead}
use Rattle.reading.proofs.{Hex.{digits_ahead-fits, ahead-digit}, Fields.{number-none, number-next, byte_small, worth-small, worth-next}}
use Rattle.reading.proofs.digits.field_of.Goals as goal

pub loop-i-init : goal.loop-i-init
loop-i-init c = record { read = sym (number-none _ _); below = omega arith }

pub overflow_mul-number : goal.overflow_mul-number
overflow_mul-number c = omega (arith, worth-small c.loop-i.i (omega arith))

pub overflow_add-field : goal.overflow_add-field
overflow_add-field c = omega (arith, digits_ahead-fits c.args.frame.now)

pub overflow_mul-field : goal.overflow_mul-field
overflow_mul-field c = omega (arith, digits_ahead-fits c.args.frame.now)

pub byte_at-requires-clause-inside : goal.byte_at-requires-clause-inside
byte_at-requires-clause-inside c = omega (arith, digits_ahead-fits c.args.frame.now)

pub byte_at-requires-clause-high : goal.byte_at-requires-clause-high
byte_at-requires-clause-high c = ahead-digit c.args.frame.now ((c.args.field.at + c.loop-i.i) * 2) (omega arith)

pub byte_at-requires-clause-low : goal.byte_at-requires-clause-low
byte_at-requires-clause-low c = ahead-digit c.args.frame.now ((c.args.field.at + c.loop-i.i) * 2 + 1) (omega arith)

pub overflow_add-number : goal.overflow_add-number
overflow_add-number c =
    let g = c.args in
    omega (
      arith,
      worth-small c.loop-i.i (omega arith),
      c.byte_at.ensures.exact,
      byte_small g.frame.now g.field.at c.loop-i.i (omega arith),
    )

pub loop-i-preserved : goal.loop-i-preserved
loop-i-preserved c =
    let g = c.args in
    let room : (g.field.at + c.loop-i.i) * 2 + 1 < digits_ahead g.frame.now = omega arith in
    let next = number-next g.frame.now g.field.at c.loop-i.i room in
    let small = byte_small g.frame.now g.field.at c.loop-i.i room in
    record {
      read = omega (arith, next, c.byte_at.ensures.exact, c.loop-i.invariant.read);
      below = worth-next c.loop-i.i c.loop-i.number c.byte_at.result c.loop-i.invariant.below
          (omega (arith, c.byte_at.ensures.exact, small));
    }
