-- The pair at which a scan ends is the first broken one of its pairs, and of all pairs where it goes over those at which a count grows.
use Rattle.base.proofs.Prelude.{ℕ, ◌+◌, ◌≡◌, refl, sym, ap, ◌∙◌, Option, none, some, length}
use Rattle.std.specs.Prelude.{None}
use Rattle.rules.specs.Found.{At}
use Rattle.days.specs.declared.Length.{Length}
use Rattle.rules.specs.declared.Plan.{Plan}
use Rattle.rules.specs.declared.Verdict.{Verdict}
use Rattle.rules.specs.declared.Verdict.TheVariants.{Fail}
use Rattle.rules.specs.Verdict.{Pair, all_pairs, first_broken, broken_at, compared, judged}
use Rattle.laws.proofs.Lawful.{LawfulPlan}
use Rattle.demand.proofs.{Pairs.scan_from, Verdict.judged-fail}
use Rattle.demand.specs.Quick.{quick_pairs}
use Rattle.demand.proofs.Agreeing.{same-break}

-- what is judged and is no fail has no broken pair
none-broken : (p : Plan) (first : Option Pair) (k : ℕ) (v : Verdict) → judged p first k ≡ v
    → ((l b d : Length) (k : ℕ) → v ≡ Fail l b d k → ⊥) → first ≡ none
unfolding judged
none-broken p none k v e other = refl
none-broken p (some q) k v e other = absurd (other _ _ _ _ (sym e))

module _ (p : Plan) (ok : LawfulPlan p) (v : Verdict) (scanned : v ≡ scan_from p 0 (quick_pairs p)) where
  pub broken-nowhere : ((l b d : Length) (k : ℕ) → v ≡ Fail l b d k → ⊥) → broken_at (first_broken p (all_pairs p)) ≡ None
  unfolding broken_at scan_from
  broken-nowhere other =
      let none-quick = none-broken p (first_broken p (quick_pairs p)) (0 + length (compared p (quick_pairs p))) v (sym scanned) other in
      ap broken_at (sym (same-break p ok.each) ∙ none-quick)

  pub broken-there : (l b d : Length) (k : ℕ) → v ≡ Fail l b d k → broken_at (first_broken p (all_pairs p)) ≡ At l b
  unfolding broken_at scan_from
  broken-there l b d k e =
      let count = 0 + length (compared p (quick_pairs p)) in
      let named = (judged-fail p (first_broken p (quick_pairs p)) count l b d k (sym scanned ∙ e)).0 in
      ap broken_at (sym (same-break p ok.each) ∙ named)
