-- the strings are asked one after the other, the string itself but for
use Rattle.base.proofs.Prelude.{◌+◌, ◌-◌, ◌≤◌, ◌≡◌, refl, sym, ap, ◌∙◌, arith}
use Rattle.rules.specs.declared.BatteryString.{BatteryString}
use Rattle.charging.specs.Payable.{can_lose}
use Rattle.verdict.proofs.StringSums.{string-at}
use Rattle.tries.proofs.{Places.{many-strings, string-here, lawful-here}, Charging.{asked_here, asked-next, tries-asked-none, cannot-lose-own, can-lose-other, no-string-charged, keeper-charged, taker-charged, string-of}}
use Rattle.tries.proofs.payable.is_chargeable.Goals as goal
use Rattle.tries.proofs.payable.is_chargeable.Goals.{else-i-place-via-then-i-place+else-can_lose, else-i-place-via-else-i-place}

pub returns-then-p-place : goal.returns-then-p-place
returns-then-p-place c = sym (no-string-charged c.args.p c.args.place c.if-p-place.true)

pub returns-then-taker-ne1 : goal.returns-then-taker-ne1
returns-then-taker-ne1 c =
    let here = string-of c.args.p c.args.place c.requires.le_place.0 c.if-p-place.false in
    sym (keeper-charged c.args.p c.args.place (λ e. c.if-taker-ne1.true (ap (λ (s : BatteryString). s.x) (sym here) ∙ e)))

pub loop-i-init : goal.loop-i-init
loop-i-init c =
    let here = string-of c.args.p c.args.place c.requires.le_place.0 c.if-p-place.false in
    record {
      counted = refl;
      asked = taker-charged c.args.p c.args.place c.requires.ready (ap (λ (s : BatteryString). s.x) here ∙ c.if-taker-ne1.false);
    }

pub can_lose-requires : goal.can_lose-requires
can_lose-requires c = record {
  plan_string = lawful-here c.requires.ready c.loop-i.invariant.counted c.loop-i.i c.loop-i-test.true;
  plan_string_2 = string-at c.args.p c.requires.ready (c.args.place - 1) (omega (arith, c.if-p-place.false, c.requires.le_place.0));
}

pub returns-then-can_lose : goal.returns-then-can_lose
returns-then-can_lose c =
    let taker = string-of c.args.p c.args.place c.requires.le_place.0 c.if-p-place.false in
    let here = string-here c.requires.ready c.loop-i.invariant.counted c.loop-i.i in
    let asked = can-lose-other c.args.p c.args.place (c.loop-i.i + 1) c.if-i-place.true ∙ rw (here, taker) (sym c.can_lose.ensures) in
    asked_here c.loop-i.invariant.asked (omega (arith, many-strings c.requires.ready c.loop-i.invariant.counted, c.loop-i-test.true))
    (asked ∙ c.if-can_lose.true)

pub loop-i-preserved : goal.loop-i-preserved
loop-i-preserved c =
    let within : c.loop-i.i + 1 + 1 ≤ c.args.p.n + 1 =
    omega (arith, many-strings c.requires.ready c.loop-i.invariant.counted, c.loop-i-test.true) in
    elim c.else-i-place.branch [
      | else-i-place-via-then-i-place+else-can_lose w ↦
          let taker = string-of c.args.p c.args.place c.requires.le_place.0 c.if-p-place.false in
          let here = string-here c.requires.ready c.loop-i.invariant.counted c.loop-i.i in
          let asked =
          can-lose-other c.args.p c.args.place (c.loop-i.i + 1) w.if-i-place.true ∙ rw (here, taker) (sym w.can_lose.ensures) in
          record {
            counted = c.loop-i.invariant.counted;
            asked = asked-next c.loop-i.invariant.asked (omega arith) (asked ∙ w.if-can_lose.false);
          }
      | else-i-place-via-else-i-place w ↦
          record {
            counted = c.loop-i.invariant.counted;
            asked = asked-next c.loop-i.invariant.asked (omega arith)
                (cannot-lose-own c.args.p c.args.place (c.loop-i.i + 1) w.if-i-place.false);
          }
    ]

pub returns : goal.returns
returns c =
    tries-asked-none c.loop-i.invariant.asked (omega (arith, many-strings c.requires.ready c.loop-i.invariant.counted, c.loop-i-test.false))
