-- The length decides first, then the first line, then the body.
use Rattle.std.proofs.Common.{◌≡◌, ◌<◌, sym, ◌∙◌, arith, length}
use Rattle.std.proofs.lemmas.Grind.{common_steps}
use Rattle.std.proofs.lemmas.Result.{err_from_is_err_and}
use Rattle.layouts.specs.inner.Versions.{meant_by}
use Rattle.reading.proofs.Whole.{header_read, read-long, read-empty, read-refused, read-body}
use Rattle.reading.proofs.read_in.Goals as goal

pub returns-then-text-gt65536 : goal.returns-then-text-gt65536
returns-then-text-gt65536 c = record { exact = sym (read-long (meant_by c.args.version) _ c.if-text-gt65536.true) }

pub returns-then-is_empty : goal.returns-then-is_empty
returns-then-is_empty c =
    let none : length c.args.text.now ≡ 0 = grind (arith, common_steps) in
    record { exact = sym (read-empty (meant_by c.args.version) _ c.if-text-gt65536.false none) }

pub returns-in_err-header_check : goal.returns-in_err-header_check
returns-in_err-header_check c =
    let p = err_from_is_err_and c.from_residual.result c.from_residual.ensures.1 in
    let some : 0 < length c.args.text.now = grind (arith, common_steps) in
    record {
      exact =
          rw (p.1, p.2)
          (sym (read-refused (meant_by c.args.version) _ c.if-text-gt65536.false some _ (sym c.in_err-header_check.ensures.exact)));
    }

pub read_body-requires : goal.read_body-requires
read_body-requires c = header_read (meant_by c.args.version) _ (sym c.in_ok-header_check.ensures.exact)

pub returns : goal.returns
returns c =
    record {
      exact =
          c.read_body.ensures.exact
          ∙ sym (read-body (meant_by c.args.version) _ c.if-text-gt65536.false (sym c.in_ok-header_check.ensures.exact));
    }
