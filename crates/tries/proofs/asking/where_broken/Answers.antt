-- of a lawful plan the first broken pair is given
use Rattle.base.proofs.Prelude.{ap, ◌∙◌}
use Rattle.std.specs.Prelude.{None, Result}
use Rattle.std.specs.Result.{result_unwrap_or}
use Rattle.faults.specs.declared.Refusal.{Refusal}
use Rattle.rules.specs.Found.{FirstBroken}
use Rattle.laws.proofs.{LawfulChecked.lawful-checked, Answers.break-lawful}
use Rattle.tries.proofs.asking.where_broken.Goals as goal

pub returns : goal.returns
returns c =
    let said = c.first_break.ensures.exact ∙ break-lawful _ (lawful-checked _ c.requires.lawful) in
    c.unwrap_or.ensures ∙ ap (λ (r : Result FirstBroken Refusal). result_unwrap_or r None) said
