-- One more string has its permission.
use Rattle.base.proofs.Prelude.{◌≡◌, refl, sym, ap, ◌∙◌, arith, length, length-set}
use Rattle.rules.specs.Search.{permit, with_set}
use Rattle.verdict.proofs.Permit.{unpermitted-next, permitted-next, done_all}
use Rattle.verdict.proofs.permissions.with_set.Goals as goal

pub loop-s-init : goal.loop-s-init
loop-s-init c = record { size = c.well_formed.0.1.1.1.1.0.1.0.1; left = refl; done = refl }

pub loop-s-preserved : goal.loop-s-preserved
loop-s-preserved c =
    let all = c.args.p.strings in
    let now = c.loop-s.s-items in
    let i = c.loop-s.s-index in
    let inv = c.loop-s.invariant in
    let ten : length all ≡ 10 = c.well_formed.0.1.1.1.1.0.1.0.1 in
    record {
      size = length-set now i c.permitted.result ∙ inv.size;
      left = unpermitted-next all now i c.permitted.result inv.left;
      done = permitted-next all now c.loop-s.rest i c.permitted.result (omega (arith, inv.size)) (omega (arith, ten)) inv.left
          c.permitted.ensures
          ∙ inv.done;
    }

pub returns : goal.returns
unfolding with_set
returns c =
    let p = c.args.p in
    let inv = c.loop-s.invariant in
    let ten : length p.strings ≡ 10 = c.well_formed.0.1.1.1.1.0.1.0.1 in
    let done : c.loop-s.s-items ≡ permit c.args.set p.strings =
    sym (done_all p.strings c.loop-s.s-items c.loop-s.rest c.loop-s.s-index (omega (arith, inv.size)) (omega (arith, ten))) ∙ inv.done in
    record { exact = ap (λ ss. record { n = p.n; run = p.run; strings = ss }) done }
