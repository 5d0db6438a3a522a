-- Intervals that break the rule, one after the other, up to the first that does not or to the last of all.
use Rattle.base.proofs.Prelude.{ℕ, suc, ◌+◌, ◌-◌, ◌≤◌, ◌<◌, ◌≡◌, sym, ap, ◌∙◌, true, false, not, arith}
use Rattle.base.proofs.Least.{least_from-unique, least_from-none}
use Rattle.rules.specs.declared.Plan.{Plan}
use Rattle.laws.proofs.Lawful.{LawfulPlan, d_max-le}
use Rattle.why.specs.Stairs.{last_interval, broken_in, stretch_end}

pub last-small : (p : Plan) → LawfulPlan p → last_interval p ≤ 100999
unfolding last_interval
last-small p ok = omega (arith, ok.h_max, d_max-le p ok)

module _ (p : Plan) (l m : ℕ) (low : l ≤ m) (all : (k : ℕ) → l ≤ k → k < m → broken_in p k ≡ true) where
  pub end-found : m ≤ last_interval p → broken_in p m ≡ false → m - 1 ≡ stretch_end p l
  unfolding stretch_end
  end-found high past =
      let least = least_from-unique (λ k. not (broken_in p k)) l (suc (last_interval p) - l) m low (omega arith) (ap not past)
      (λ k from before. ap not (all k from before)) in
      ap (λ k. k - 1) (sym least)

  pub end-last : m ≡ last_interval p + 1 → m - 1 ≡ stretch_end p l
  unfolding stretch_end
  end-last last =
      let none = least_from-none (λ k. not (broken_in p k)) l (suc (last_interval p) - l)
      (λ k from before. ap not (all k from (omega arith))) in
      let whole : l + (suc (last_interval p) - l) ≡ m = omega arith in
      ap (λ k. k - 1) (sym (none ∙ whole))
