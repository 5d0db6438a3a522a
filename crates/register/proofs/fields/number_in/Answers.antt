-- Nine digits at most fit, and the tests decide what the definition decides.
use Rattle.base.proofs.Prelude.{◌-◌, ◌≤◌, ◌≡◌, sym, ap, ◌∙◌, true, false, arith, rules, length, get_or}
use Rattle.std.specs.Prelude.{Some}
use Rattle.faults.specs.Checks.{in_bounds}
use Rattle.faults.proofs.Checks.{in_bounds-high}
use Rattle.register.specs.{Table.is_figure}
use Rattle.register.proofs.Plain.{number-other, number_is, every-next, every-not, every-end, decimal-next, decimal-end, power-next, power-low}
use Rattle.register.proofs.fields.number_in.Goals as goal

pub returns-then-not-contains-2 : goal.returns-then-not-contains-2
returns-then-not-contains-2 c =
    let field = c.args.field.now in
    let i = c.loop-b.b-index in
    let other : is_figure (get_or field i 0) ≡ false = search rules in
    record { exact = number-other c.args.most field (sym c.loop-b.invariant.figures ∙ every-not field i (omega arith) other) }

pub overflow_mul-n : goal.overflow_mul-n
overflow_mul-n c =
    let sizes : length c.args.field.now ≤ c.args.most = search rules in
    omega (arith, c.loop-b.invariant.small, power-low c.loop-b.b-index (omega arith))

pub overflow_add-n : goal.overflow_add-n
overflow_add-n c =
    let sizes : length c.args.field.now ≤ c.args.most = search rules in
    omega (arith, c.loop-b.invariant.small, power-low c.loop-b.b-index (omega arith), c.from.ensures)

pub loop-b-preserved : goal.loop-b-preserved
loop-b-preserved c =
    let field = c.args.field.now in
    let i = c.loop-b.b-index in
    let figure : is_figure (get_or field i 0) ≡ true = search rules in
    let high = in_bounds-high 0x30 (get_or field i 0) 0x39 figure in
    record {
      small = rw c.from.ensures (power-next c.loop-b.n (get_or field i 0 - 0x30) i c.loop-b.invariant.small (omega arith));
      figures = sym (every-next field i (omega arith) figure) ∙ c.loop-b.invariant.figures;
      number = rw c.from.ensures (sym (decimal-next c.loop-b.n field i (omega arith)) ∙ c.loop-b.invariant.number);
    }

pub returns : goal.returns
returns c =
    let field = c.args.field.now in
    let i = c.loop-b.b-index in
    let sizes : in_bounds 1 (length field) c.args.most ≡ true = search rules in
    let figures = sym c.loop-b.invariant.figures ∙ every-end field i (omega arith) in
    let said = sym (decimal-end c.loop-b.n field i (omega arith)) ∙ c.loop-b.invariant.number in
    record {
      exact = ap Some said ∙ number_is c.args.most field sizes (sym c.leads.ensures.exact ∙ c.if-not-leads.false) figures;
    }
