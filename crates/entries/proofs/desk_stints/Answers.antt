-- fewer than four places are told nothing; else the list is the run's
use Rattle.base.proofs.Prelude.{refl, ap, ◌∙◌}
use Rattle.rules.specs.Stints.{stints_listed}
use Rattle.entries.specs.Given.{plan_given}
use Rattle.entries.proofs.Telling.{none_told, none-listed, list-told}
use Rattle.entries.proofs.desk_stints.Goals as goal

pub returns-then-out-lt4 : goal.returns-then-out-lt4
returns-then-out-lt4 c =
    let none = none_told _ _ c.if-out-lt4.true in
    record { exact = none.0; out = none.1; list = none-listed _ _ _ c.if-out-lt4.true; plan = refl; releases = refl }

pub returns-clause-list : goal.returns-clause-list
returns-clause-list c =
    c.stints-listed.ensures.stored
    ∙ ap (λ q. stints_listed q c.releases_given.result c.args.list.now) c.plan_given.ensures.exact
    ∙ ap (λ r. stints_listed (plan_given c.args.plan.now) r c.args.list.now) c.releases_given.ensures.exact
    ∙ list-told _ _ _ c.if-out-lt4.false
