-- Field by field: a field too few, one too many or one that is no number makes none.
use Rattle.base.proofs.Prelude.{sym, ◌∙◌, arith, ◌∷◌, [], length-set, length-replicate}
use Rattle.register.specs.{Table.fields_of, inner.Fields.fields_left}
use Rattle.register.proofs.Numbers.{Read, read-start, read-few, read-all, read-more, read-other, read-next, number-some, register-number-none}
use Rattle.register.proofs.fields.numbers_in.Goals as goal

pub loop-number-init : goal.loop-number-init
loop-number-init g c = record { as_many = length-replicate g.row.N 0; read = read-start c.args.most (fields_of c.args.row.now) _ }

pub returns-in_err-left : goal.returns-in_err-left
returns-in_err-left g c =
    let l = c.loop-number in
    let fields = fields_of c.args.row.now in
    let read : Read c.args.most fields [] l.number-items l.number-index = rw c.in_err-left.was at l.invariant.read in
    record {
      exact =
          c.from_residual.ensures
          ∙ read-few g.row.N c.args.most fields l.number-items l.number-index read (omega (arith, l.invariant.as_many));
    }

pub returns-in_err-number : goal.returns-in_err-number
returns-in_err-number g c =
    let l = c.loop-number in
    let fields = fields_of c.args.row.now in
    let field = c.first_field.result.0.now in
    let behind = fields_left c.first_field.result.1 in
    let read : Read c.args.most fields (field ∷ behind) l.number-items l.number-index =
    rw (c.in_ok-left.was, c.first_field.ensures.exact) at l.invariant.read in
    record {
      exact =
          c.from_residual-in_err-number.ensures
          ∙ read-other g.row.N c.args.most fields l.number-items l.number-index field behind read
          (register-number-none c.args.most field (sym c.number_in.ensures.exact ∙ c.in_err-number.was));
    }

pub loop-number-preserved : goal.loop-number-preserved
loop-number-preserved g c =
    let l = c.loop-number in
    let fields = fields_of c.args.row.now in
    let field = c.first_field.result.0.now in
    let behind = fields_left c.first_field.result.1 in
    let read : Read c.args.most fields (field ∷ behind) l.number-items l.number-index =
    rw (c.in_ok-left.was, c.first_field.ensures.exact) at l.invariant.read in
    let number = number-some c.args.most field c.in_ok-number.field-0 (sym c.number_in.ensures.exact ∙ c.in_ok-number.was) in
    record {
      as_many = length-set l.number-items l.number-index _ ∙ l.invariant.as_many;
      read = rw number.1 (read-next g.row.N c.args.most fields l.number-items l.number-index field behind read number.0 (omega arith));
    }

pub returns-in-Some : goal.returns-in-Some
returns-in-Some g c =
    let l = c.loop-number in
    let fields = fields_of c.args.row.now in
    let more = c.in-Some.field-0.now in
    let read : Read c.args.most fields (fields_of more) l.number-items l.number-index = rw c.in-Some.is at l.invariant.read in
    record {
      exact =
          read-more g.row.N c.args.most fields l.number-items l.number-index more read (omega (arith, l.invariant.as_many));
    }

pub returns-in-None : goal.returns-in-None
returns-in-None g c =
    let l = c.loop-number in
    let fields = fields_of c.args.row.now in
    let read : Read c.args.most fields [] l.number-items l.number-index = rw c.in-None.is at l.invariant.read in
    record {
      exact =
          read-all g.row.N c.args.most fields l.number-items l.number-index read (omega (arith, l.invariant.as_many))
          l.invariant.as_many;
    }
