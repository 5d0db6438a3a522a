-- each string costs what it costs after the round
use Rattle.base.proofs.Prelude.{◌+◌, ◌≤◌, ◌<◌, ◌≡◌, refl, sym, ap, ◌∙◌, arith, length, get_or, ◌∷◌}
use Rattle.rules.specs.{declared.BatteryString.BatteryString, Plan.no_string}
use Rattle.charging.specs.Payable.{chargeable, cost_if, costs_where}
use Rattle.tries.proofs.{Freed.{changed-next, changed_all}, Charging.costs-here}
use Rattle.tries.proofs.payable.round.Goals as goal

pub loop-i-init : goal.loop-i-init
loop-i-init c = record { long = c.requires.ten; whole = refl }

pub loop-i-preserved : goal.loop-i-preserved
loop-i-preserved c =
    let f = chargeable c.args.p in
    let i = c.loop-i.i in
    let made = c.cost_if.ensures ∙ ap (λ b. cost_if b (get_or c.loop-i.s-items i no_string)) c.is_chargeable.ensures in
    changed-next c.loop-i.invariant c.cost_if.result no_string c.loop-i-test.true
    (λ ss. costs-here f i (get_or c.loop-i.s-items i no_string) ss
    ∙ ap (λ (s : BatteryString). s ∷ costs_where f (i + 1 + 1) ss) (sym made))

pub returns : goal.returns
unfolding costs_where
returns c =
    ap (λ ss. record { n = c.args.p.n; run = c.args.p.run; strings = ss })
    (changed_all c.loop-i.invariant c.loop-i-test.false refl)
