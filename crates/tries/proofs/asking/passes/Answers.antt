-- the quick verdict is given, and passes exactly the plans that the full one passes
use Rattle.base.proofs.Prelude.{◌≡◌, ap, ◌∙◌}
use Rattle.rules.specs.declared.Verdict.{Verdict}
use Rattle.rules.specs.Verdict.{is_pass}
use Rattle.laws.proofs.LawfulChecked.{lawful-checked}
use Rattle.demand.specs.Quick.{quick_of}
use Rattle.demand.proofs.{Answers.quick-lawful, Agreeing.quick-passes}
use Rattle.tries.proofs.asking.passes.Goals as goal

pub returns-in-Ok : goal.returns-in-Ok
returns-in-Ok c =
    let answered = quick-lawful _ (lawful-checked _ c.requires.lawful) in
    let said = c.in-Ok.ensures.exact ∙ answered in
    let is : ◌≡◌ {A = Verdict} c.in-Ok.verdict (quick_of c.args.p) = cc in
    c.passes.ensures.exact ∙ ap is_pass is ∙ quick-passes c.args.p c.requires.lawful.each

pub returns-in-Err : goal.returns-in-Err
returns-in-Err c =
    let answered = quick-lawful _ (lawful-checked _ c.requires.lawful) in
    let said = c.in-Err.ensures.exact ∙ answered in
    absurd cc
