-- what is found is what the check finds
use Rattle.std.proofs.Common.{sym, ap, ◌∙◌}
use Rattle.bounds.proofs.ByPlace.{at_place, strings_check-at}
use Rattle.bounds.proofs.strings.strings_check.Goals as goal

pub returns-in-Some : goal.returns-in-Some
returns-in-Some c = record {
  exact = sym (strings_check-at _ ∙ ap (at_place 1) (sym c.first_outside.ensures.exact ∙ c.in-Some.is));
}

pub returns-in-None : goal.returns-in-None
returns-in-None c = record {
  exact = sym (strings_check-at _ ∙ ap (at_place 1) (sym c.first_outside.ensures.exact ∙ c.in-None.is));
}
