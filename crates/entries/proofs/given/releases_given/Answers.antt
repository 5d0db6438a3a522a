-- one more release is stored at each place
use Rattle.base.proofs.Prelude.{ℕ, ◌≡◌, ap, arith, min}
use Rattle.rules.specs.Release.{no_release}
use Rattle.entries.specs.Given.{releases_given}
use Rattle.entries.proofs.Giving.{given-none, given-more}
use Rattle.entries.proofs.given.releases_given.Goals as goal

pub loop-i-init : goal.loop-i-init
loop-i-init c = given-none 1000 no_release _

pub loop-i-preserved : goal.loop-i-preserved
loop-i-preserved c =
    given-more 1000 no_release _ c.loop-i.i _ _ (omega arith) c.loop-i.invariant c.release_from.ensures.exact

pub returns : goal.returns
unfolding releases_given
returns c =
    let all : c.loop-i.i ≡ min 1000 c.release_count-count.result = omega arith in
    record { exact = rw (c.loop-i.invariant, all, c.release_count-count.ensures.exact) }
