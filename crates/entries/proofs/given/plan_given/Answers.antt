-- one more string is stored at each place
use Rattle.base.proofs.Prelude.{ℕ, ◌≡◌, ap, arith}
use Rattle.rules.specs.Plan.{no_string}
use Rattle.entries.specs.Given.{plan_given}
use Rattle.entries.proofs.Giving.{given-none, given-more}
use Rattle.entries.proofs.given.plan_given.Goals as goal

pub loop-i-init : goal.loop-i-init
loop-i-init c = given-none 10 no_string _

pub loop-i-preserved : goal.loop-i-preserved
loop-i-preserved c =
    given-more 10 no_string _ c.loop-i.i _ _ (omega (arith, c.string_count-n.ensures.few)) c.loop-i.invariant c.string_from.ensures.exact

pub returns : goal.returns
unfolding plan_given
returns c =
    let all : c.loop-i.i ≡ c.string_count-n.result = omega arith in
    record { exact = rw (c.loop-i.invariant, all, c.string_count-n.ensures.exact, c.number_at.ensures.exact) }
