-- one slot more is looked at as the choice says
use Rattle.std.proofs.Common.{ℕ, ◌+◌, ◌≡◌, ◌≤◌, sym, ap, ◌∙◌, suc, add-one, refl, arith, unwrap_or, IfSome}
use Rattle.std.specs.Prelude.{Option, None, Some}
use Rattle.rules.specs.Run.{chosen, slot_at}
use Rattle.laws.proofs.Slots.{at}
use Rattle.laws.proofs.Choice.{chosen-not, chosen-first, chosen-ahead, chosen-behind}
use Rattle.slots.proofs.choice.chosen_place.Goals as goal
use Rattle.slots.proofs.choice.chosen_place.Goals.{in-None, in-Some, then-leads+then-passes, else-leads, else-leads-via-then-leads+else-passes, else-leads-via-else-leads}

within_more : (best : Option ℕ) (k : ℕ) → IfSome best (λ place. (1 ≤ place) × (place ≤ k))
    → IfSome best (λ place. (1 ≤ place) × (place ≤ k + 1))
within_more None k h = tt
within_more (Some place) k h = (h.0, omega arith)

pub loop-i-init : goal.loop-i-init
unfolding chosen
loop-i-init g c = record { so_far = λ ok first asked compared. refl; within = tt }

pub loop-i-preserved : goal.loop-i-preserved
loop-i-preserved g c = record {
  so_far = λ ok first asked compared.
      let k = c.loop-i.i in
      let ss = c.args.slots.now in
      let was = c.loop-i.invariant.so_far ok first asked compared in
      let next : unwrap_or c.if-leads.best 0 ≡ chosen ok first ss (suc k) =
      elim c.match-best.branch [
        | in-None m ↦
            let none : chosen ok first ss k ≡ 0 = sym was ∙ ap (λ o. unwrap_or o 0) m.in-None.is in
            elim c.if-leads.branch [
              | then-leads+then-passes w ↦
                  ap (λ o. unwrap_or o 0) w.best-is ∙ add-one k
                  ∙ sym (chosen-first ok first ss k (sym (asked _ _ w.passes.ensures) ∙ w.if-passes.true) none)
              | else-leads w ↦
                  elim w.else-leads.branch [
                    | else-leads-via-then-leads+else-passes v ↦
                        ap (λ o. unwrap_or o 0) (w.best-is ∙ m.best-is) ∙ was
                        ∙ sym (chosen-not ok first ss k (sym (asked _ _ v.passes.ensures) ∙ v.if-passes.false))
                    | else-leads-via-else-leads v ↦ absurd (cc)
                  ]
            ]
        | in-Some m ↦
            let some : chosen ok first ss k ≡ m.in-Some.place = sym was ∙ ap (λ o. unwrap_or o 0) m.in-Some.is in
            let within = rw m.in-Some.is at c.loop-i.invariant.within in
            let ahead = ap (λ i. first (at ss k) (slot_at ss i)) some ∙ sym (compared _ _ _ m.is_ahead-leads.ensures) ∙ sym m.leads-is in
            elim c.if-leads.branch [
              | then-leads+then-passes w ↦
                  ap (λ o. unwrap_or o 0) w.best-is ∙ add-one k
                  ∙ sym (chosen-ahead ok first ss k (sym (asked _ _ w.passes.ensures) ∙ w.if-passes.true) (ahead ∙ w.if-leads.true))
              | else-leads w ↦
                  elim w.else-leads.branch [
                    | else-leads-via-then-leads+else-passes v ↦
                        ap (λ o. unwrap_or o 0) (w.best-is ∙ m.best-is) ∙ sym some
                        ∙ sym (chosen-not ok first ss k (sym (asked _ _ v.passes.ensures) ∙ v.if-passes.false))
                    | else-leads-via-else-leads v ↦
                        ap (λ o. unwrap_or o 0) (w.best-is ∙ m.best-is) ∙ sym some
                        ∙ sym (chosen-behind ok first ss k (λ z. omega arith) (ahead ∙ v.if-leads.false))
                  ]
            ]
      ] in
      rw add-one next;
  within =
      elim c.if-leads.branch [
        | then-leads+then-passes w ↦ rw w.best-is (omega arith, omega arith)
        | else-leads w ↦
            elim c.match-best.branch [
              | in-None m ↦ rw (w.best-is, m.best-is, m.in-None.is) tt
              | in-Some m ↦ rw (w.best-is, m.best-is)
                  (within_more (Some m.in-Some.place) c.loop-i.i (rw m.in-Some.is at c.loop-i.invariant.within))
            ]
      ];
}
