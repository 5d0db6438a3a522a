-- A header that says no moving cost asks nothing of them; else the first string that differs decides.
use Rattle.base.proofs.Prelude.{sym, ap, ◌∙◌, arith}
use Rattle.faults.specs.Checks.{Refused}
use Rattle.faults.specs.declared.Fault.TheVariants.{CostsDiffer}
use Rattle.layouts.specs.inner.Versions.{meant_by}
use Rattle.layouts.proofs.Versions.{common-size}
use Rattle.writing.proofs.{Saving.{alike-none, alike-yes, alike-differs}, FirstOther.{other-at, other_none}}
use Rattle.writing.proofs.costs.alike_check.Goals as goal

pub returns-then-layouts-eq0 : goal.returns-then-layouts-eq0
returns-then-layouts-eq0 c =
    let version = c.args.version in
    record { exact = sym (alike-none (meant_by version) c.args.p _ (omega (arith, common-size version _ c.layouts.ensures.exact))) }

pub returns-in-Some : goal.returns-in-Some
returns-in-Some c =
    let version = c.args.version in
    let p = c.args.p in
    let ten = c.well_formed.0.1.1.1.1.0.1.0.1 in
    let common = common-size version _ c.layouts.ensures.exact in
    let other = other-at p c.requires.0 (omega (arith, ten)) _ (sym c.first_other.ensures.exact ∙ c.in-Some.is) in
    record {
      exact =
          ap (λ k. Refused CostsDiffer k) (sym other.0)
          ∙ sym (alike-differs (meant_by version) p _ (omega (arith, common)) (omega (arith, other)));
    }

pub returns-in-None : goal.returns-in-None
returns-in-None c =
    let p = c.args.p in
    let ten = c.well_formed.0.1.1.1.1.0.1.0.1 in
    let none = other_none p c.requires.0 (omega (arith, ten)) (sym c.first_other.ensures.exact ∙ c.in-None.is) in
    record { exact = sym (alike-yes (meant_by c.args.version) p _ (omega arith)) }
