-- each string moves freely
use Rattle.base.proofs.Prelude.{refl, sym, ap, ◌∷◌, arith, map}
use Rattle.rules.specs.{declared.BatteryString.BatteryString, Plan.no_string}
use Rattle.exact.specs.Missing.{moved_freely}
use Rattle.tries.proofs.Freed.{changed-next, changed_all}
use Rattle.tries.proofs.free.with_free_moving.Goals as goal

pub loop-s-init : goal.loop-s-init
loop-s-init c = record { long = c.well_formed.0.1.1.1.1.0.1.0.1; whole = refl }

pub loop-s-preserved : goal.loop-s-preserved
loop-s-preserved c =
    changed-next c.loop-s.invariant c.moved_freely.result no_string c.loop-s-test.true
    (λ ss. ap (λ (s : BatteryString). s ∷ map moved_freely ss) (sym c.moved_freely.ensures))

pub returns : goal.returns
returns c =
    ap (λ ss. record { n = c.args.p.n; run = c.args.p.run; strings = ss })
    (changed_all c.loop-s.invariant c.loop-s-test.false refl)
