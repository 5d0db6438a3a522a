-- the tests are those of step 4, in its order
use Rattle.std.proofs.Common.{sym}
use Rattle.laws.proofs.Steps.{given-held, given-nobody}
use Rattle.run.proofs.Stepping.{found_none, found-some, given-by}
use Rattle.run.proofs.day.give_bank.Goals as goal

pub returns-then-is_some : goal.returns-then-is_some
returns-then-is_some c = record {
  exact = sym (given-held _ (found-some _ _ _ (sym c.if-is_some.ensures) c.holder_place.ensures.exact c.holder_place.ensures.within));
}

pub returns-in-Some : goal.returns-in-Some
returns-in-Some c =
    let free = found_none _ _ (sym c.if-is_some.ensures) c.holder_place.ensures.exact in
    record { exact = given-by _ _ _ free c.in-Some.ensures.exact c.in-Some.ensures.within.0 c.seated_job.ensures.exact }

pub returns-in_default : goal.returns-in_default
returns-in_default c =
    let free = found_none _ _ (sym c.if-is_some.ensures) c.holder_place.ensures.exact in
    record { exact = sym (given-nobody _ free (sym c.in_default.ensures.exact)) }
