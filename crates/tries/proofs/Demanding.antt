-- What the strings but one ask of an interval, the first i of them done.
--     Summed p l b q i sum     `sum` is the blocking and what the first i strings ask, but for the one at place q
use Rattle.base.proofs.Prelude.{ℕ, ◌+◌, ◌*◌, ◌≤◌, ◌<◌, ◌≡◌, refl, sym, ap, ◌∙◌, true, false, not, List, arith, eq-eqb, ne_eqb, eqb-true, eqb, length, get_or}
use Rattle.std.specs.Prelude.{Option, Some, None, unwrap_or}
use Rattle.std.specs.Option.{option_eq}
use Rattle.base.proofs.Lists.{by_bool, true-not-false}
use Rattle.base.specs.Count.{sum_of, up_from}
use Rattle.rules.specs.{declared.BatteryString.BatteryString, declared.Plan.Plan, Plan.{strings_of, string_at, no_string}, Demand.need}
use Rattle.sound.specs.Sharp.{need_but, demand_but}
use Rattle.verdict.specs.inner.Asked.{Ready}
use Rattle.verdict.proofs.StringSums.{strings-count}
use Rattle.tries.proofs.{Places.{from, from-all, from_next, from-end, many-strings, string-here, lawful-here}, SharpBreaks.need-small}

pub record Summed (p : Plan) (l b q i sum : ℕ) : Type 0 where
  pub small : sum ≤ b + 202000000 * i
  pub whole : sum + sum_of (need_but p l b q) (from (i + 1) p.n) ≡ demand_but p l b q

module _ {p : Plan} (ready : Ready p) {l b q : ℕ} where
  pub summed_start : Summed p l b q 0 b
  unfolding demand_but
  summed_start =
      record {
        small = omega arith;
        whole = ap (λ ks. b + sum_of (need_but p l b q) ks) (from-all p.n)
            ∙ ap (λ n. b + sum_of (need_but p l b q) (up_from 1 n)) (sym (strings-count p ready));
      }

  module _ {ss : List BatteryString} (counted : ss ≡ strings_of p) {i sum : ℕ} (s : Summed p l b q i sum) where
    pub summed-end : length ss ≤ i → sum ≡ demand_but p l b q
    unfolding sum_of
    summed-end h =
        let none_left = ap (sum_of (need_but p l b q)) (from-end (i + 1) p.n (omega (arith, many-strings ready counted))) in
        omega (arith, s.whole)

    module _ (h : i < length ss) (short : l ≤ 101000) where
      -- at most ten strings ask
      pub summed_few : i ≤ 9
      summed_few = omega (arith, many-strings ready counted, ready.lawful.n_max)

      pub asked_little : need p l b (get_or ss i no_string) ≤ 202000000
      asked_little = need-small p l b (get_or ss i no_string) (lawful-here ready counted i h) short

      left : sum_of (need_but p l b q) (from (i + 1) p.n) ≡ need_but p l b q (i + 1) + sum_of (need_but p l b q) (from (i + 1 + 1) p.n)
      unfolding sum_of
      left = ap (sum_of (need_but p l b q)) (from_next (i + 1) p.n (omega (arith, many-strings ready counted)))

      pub summed-own : i + 1 ≡ q → Summed p l b q (i + 1) sum
      unfolding need_but
      summed-own own =
          let none : need_but p l b q (i + 1) ≡ 0 = rw (eq-eqb (i + 1) q own) in
          record { small = omega (arith, s.small); whole = omega (arith, s.whole, left) }

      pub summed-next : (i + 1 ≡ q → ⊥) → Summed p l b q (i + 1) (sum + need p l b (get_or ss i no_string))
      unfolding need_but
      summed-next other =
          let here : need_but p l b q (i + 1) ≡ need p l b (get_or ss i no_string) =
          rw (ne_eqb (i + 1) q other) (ap (need p l b) (string-here ready counted i)) in
          record { small = omega (arith, s.small, asked_little); whole = omega (arith, s.whole, left) }

-- ---- The place that is left out

module _ (o : Option ℕ) (k : ℕ) where
  pub other_place : 1 ≤ k → not (option_eq eqb o (Some k)) ≡ true → k ≡ unwrap_or o 0 → ⊥
  other_place low t same = go o refl
    where
      go : (q : Option ℕ) → o ≡ q → ⊥
      go None e = omega (arith, same, ap (λ v. unwrap_or v 0) e)
      go (Some i) e =
          let here : i ≡ k = sym (ap (λ v. unwrap_or v 0) e) ∙ sym same in
          true-not-false (sym t ∙ rw (e, here, eq-eqb k k refl))

  pub same_place : not (option_eq eqb o (Some k)) ≡ false → k ≡ unwrap_or o 0
  same_place f = go o refl
    where
      go : (q : Option ℕ) → o ≡ q → k ≡ unwrap_or o 0
      go None e = absurd (true-not-false (rw e at f))
      go (Some i) e =
          by_bool (eqb i k) (λ t. rw e (sym (eqb-true i k t))) (λ n. absurd (true-not-false (rw (e, n) at f)))
