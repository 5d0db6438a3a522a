-- The accounts are opened one after the other, once the plan and the releases are lawful.
use Rattle.base.proofs.Prelude.{arith, sym}
use Rattle.rules.specs.Release.{releases_of}
use Rattle.laws.proofs.{Releases.run_check-lawful, ReleaseList.release-lawful}
use Rattle.visits.proofs.Booking.{listed-opens}
use Rattle.visits.proofs.book.Book.opened.Goals as goal

pub shared_ref_as_front-r-items : goal.shared_ref_as_front-r-items
shared_ref_as_front-r-items c =
    let lawful = run_check-lawful c.args.p c.args.rs (sym c.in_ok-run_check.ensures.exact) in
    omega (arith, lawful.few)

pub of-requires : goal.of-requires
of-requires c =
    let lawful = run_check-lawful c.args.p c.args.rs (sym c.in_ok-run_check.ensures.exact) in
    listed-opens c.args.p _ lawful.plan c.well_formed.0.1.1.1.1.0.1.0.1
    (release-lawful c.args.p (releases_of c.args.rs) lawful.none_bad c.loop-i.i c.loop-i-test.true)
