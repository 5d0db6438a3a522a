-- the tests are those of step 3, in its order
use Rattle.std.proofs.Common.{◌≡◌, sym, ◌∙◌, arith}
use Rattle.rules.specs.Run.{slot_at, holder}
use Rattle.laws.proofs.Steps.{taken_free, taken-kept}
use Rattle.run.proofs.Stepping.{payer-asked, taken-by}
use Rattle.run.proofs.day.take_bank.Goals as goal

pub returns-in_default : goal.returns-in_default
returns-in_default c = record { exact = sym (taken_free _ _ _ (sym c.in_default.ensures.exact)) }

pub returns-in_default-taker_place : goal.returns-in_default-taker_place
returns-in_default-taker_place c =
    let ss = c.args.slots.now in
    let due : (slot_at ss c.in-Some.holder).deadline.0 ≡ (slot_at ss (holder ss)).deadline.0 = rw c.in-Some.ensures.exact in
    record {
      exact = sym (taken-kept _ _ _ (λ z. omega (arith, c.in-Some.ensures.exact, c.in-Some.ensures.within.0))
          (sym (c.in_default-taker_place.ensures.exact ∙ payer-asked ss c.args.day _ due)));
    }

pub returns : goal.returns
returns c =
    let ss = c.args.slots.now in
    let due : (slot_at ss c.in-Some.holder).deadline.0 ≡ (slot_at ss (holder ss)).deadline.0 = rw c.in-Some.ensures.exact in
    record {
      exact = c.charge_at.ensures.exact
          ∙ taken-by ss c.args.p c.args.day.0 c.in-Some.holder c.in-Some-taker_place.payer c.stopped_job.result c.in-Some.ensures.exact
          c.in-Some.ensures.within.0 (c.in-Some-taker_place.ensures.exact ∙ payer-asked ss c.args.day _ due)
          c.in-Some-taker_place.ensures.within.0 c.stopped_job.ensures.exact;
    }
