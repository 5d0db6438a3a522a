-- one that fits is no shorter than the shortest
use Rattle.base.proofs.Prelude.{◌-◌, ◌≡◌, leb, ap, ◌∙◌, arith, length}
use Rattle.std.proofs.Common.{rules, tests}
use Rattle.std.specs.List.{list_any}
use Rattle.std.proofs.lemmas.Iterator.{YieldsList-from_slice}
use Rattle.std.proofs.lemmas.Iterator.Search.{any_from_yields_List}
use Rattle.rules.specs.{declared.BatteryString.BatteryString, Plan.{leeway_min, strings_of}}
use Rattle.why.proofs.{Chains.{any-listed, some-fits}, Walking.{ready, strings-all}}
use Rattle.why.proofs.checked.CheckedPlan.someone_fits.Goals as goal

pub returns : goal.returns
unfolding leeway_min
returns c =
    let fits = λ (s : BatteryString). leb (s.d.0 - s.j.0) c.args.l in
    let p = c.args.self.now in
    record {
      exact = any_from_yields_List fits _ _ c.any.result c.any.ensures.ran (YieldsList-from_slice _ (cc)) (λ x b q k. search (rules, tests))
          ∙ ap (list_any fits) c.strings.ensures.exact
          ∙ any-listed fits (strings_of p.plan)
          ∙ some-fits (λ s. s.d.0 - s.j.0) c.args.l (strings_of p.plan) (omega (arith, strings-all p, (ready p).lawful.n_pos));
    }
