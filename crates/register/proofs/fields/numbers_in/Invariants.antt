-- the numbers of the fields so far were read
use Rattle.base.proofs.Prelude.{◌≡◌, length}
use Rattle.register.specs.{Table.fields_of, inner.Fields.fields_left}
use Rattle.register.proofs.Numbers.{Read}
use Rattle.register.proofs.fields.numbers_in.Given as goal

abbrev pub invariant-loop-number : goal.invariant-loop-number
invariant-loop-number g l =
    record {
      as_many : length l.number-items ≡ g.row.N;
      read : Read l.most (fields_of l.row) (fields_left l.left) l.number-items l.number-index;
    }
