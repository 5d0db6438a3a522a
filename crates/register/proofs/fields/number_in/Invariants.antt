-- the digits so far say n, and those from here on, put behind it, the field's number
use Rattle.base.proofs.Prelude.{◌^◌, ◌<◌, ◌≡◌, drop}
use Rattle.base.specs.{Count.every, Digits.{decimal_on, decimal_in}}
use Rattle.register.specs.Table.{is_figure}
use Rattle.register.proofs.fields.number_in.Given as goal

abbrev pub invariant-loop-b : goal.invariant-loop-b
invariant-loop-b l =
    record {
      small : l.n < 10 ^ l.b-index;
      figures : every is_figure (drop l.b-index l.field) ≡ every is_figure l.field;
      number : decimal_on l.n (drop l.b-index l.field) ≡ decimal_in l.field;
    }
