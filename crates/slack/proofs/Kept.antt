-- The lawful values, as they are stored one after the other.
--     values_from x k        the values from the k-th on
--     KeptTo p i x count list k     those before the k-th that are lawful stand in front, and those left are still to come
use Rattle.base.proofs.Prelude.{ℕ, suc, ◌+◌, ◌-◌, ◌≤◌, ◌<◌, ◌≡◌, refl, sym, ap, ◌∙◌, Bool, true, false, cond, List, [], ◌∷◌, ◌++◌, append_assoc, append-nil, map, arith, le_refl, add-one, length, take, set, length-set}
use lib.Seq.{take-suc-set, take-set-le}
use Rattle.base.specs.Count.{up_from, keep}
use Rattle.base.proofs.{Lists.by_bool, Order.{keep-yes, keep-no, up_from-cons}}
use Rattle.rules.specs.declared.Plan.{Plan}
use Rattle.slack.specs.{declared.Letter.Letter, Slack.{value_at, hardest_first}, inner.Values.{lawful_with, lawful_values, HoldsValues}}

abbrev pub values_from : Letter → ℕ → List ℕ
values_from x k = map (value_at x) (up_from k (1001 - k))

values_from-next : (x : Letter) (k : ℕ) → k < 1001 → values_from x k ≡ value_at x k ∷ values_from x (k + 1)
values_from-next x k h =
    let more : 1001 - k ≡ suc (1001 - (k + 1)) = omega arith in
    ap (λ m. map (value_at x) (up_from k m)) more
    ∙ ap (map (value_at x)) (up_from-cons k (1001 - (k + 1)))
    ∙ ap (λ j. value_at x k ∷ map (value_at x) (up_from j (1001 - (k + 1)))) (sym (add-one k))

values_from-end : (x : Letter) (k : ℕ) → 1000 < k → values_from x k ≡ []
unfolding up_from
values_from-end x k h =
    let none : 1001 - k ≡ 0 = omega arith in
    rw none

module _ (p : Plan) (i : ℕ) (x : Letter) where
  pub record KeptTo (list : List ℕ) (count k : ℕ) : Type 0 where
    pub step : k ≤ 1001
    pub few : count ≤ k
    pub size : length list ≡ 1001
    pub whole : take count list ++ keep (lawful_with p i x) (values_from x k) ≡ lawful_values p i x

  pub kept-start : (list : List ℕ) → length list ≡ 1001 → KeptTo list 0 0
  unfolding lawful_values hardest_first
  kept-start list size = record { step = omega arith; few = omega arith; size = size; whole = refl }

  module _ (list : List ℕ) (count k v : ℕ) (so : KeptTo list count k) (more : k ≤ 1000) (is : v ≡ value_at x k) where
    next : values_from x k ≡ v ∷ values_from x (k + 1)
    next = values_from-next x k (omega arith) ∙ ap (λ u. u ∷ values_from x (k + 1)) (sym is)

    -- it is stored, and counts where it is lawful
    module _ (lawful : Bool) (known : lawful ≡ lawful_with p i x v) where
      abbrev rest : List ℕ
      rest = keep (lawful_with p i x) (values_from x (k + 1))

      room : count < length list
      room = omega (arith, so.few, so.size)

      kept-lawful : lawful ≡ true → take (count + 1) (set list count v) ++ rest ≡ lawful_values p i x
      kept-lawful holds =
          ap (λ n. take n (set list count v) ++ rest) (add-one count)
          ∙ ap (λ front. front ++ rest) (take-suc-set list count v room)
          ∙ append_assoc (take count list) (v ∷ []) rest
          ∙ ap (λ values. take count list ++ values)
          (sym (keep-yes (lawful_with p i x) v (values_from x (k + 1)) (sym known ∙ holds)) ∙ ap (keep (lawful_with p i x)) (sym next))
          ∙ so.whole

      kept-unlawful : lawful ≡ false → take count (set list count v) ++ rest ≡ lawful_values p i x
      kept-unlawful fails =
          ap (λ front. front ++ rest) (take-set-le count list count v (le_refl count))
          ∙ ap (λ values. take count list ++ values)
          (sym (keep-no (lawful_with p i x) v (values_from x (k + 1)) (sym known ∙ fails)) ∙ ap (keep (lawful_with p i x)) (sym next))
          ∙ so.whole

      pub kept_next : (one : ℕ) → one ≡ cond lawful 1 0 → KeptTo (set list count v) (count + one) (k + 1)
      kept_next one counts =
          by_bool lawful
          (λ t.
          let here : count + one ≡ count + 1 = ap (λ m. count + m) (counts ∙ ap (λ b. cond b 1 0) t) in
          record {
            step = omega arith;
            few = omega (arith, so.few, here);
            size = length-set list count v ∙ so.size;
            whole = ap (λ n. take n (set list count v) ++ rest) here ∙ kept-lawful t;
          })
          (λ e.
          let none : one ≡ 0 = counts ∙ ap (λ b. cond b 1 0) e in
          let here : count + one ≡ count = omega arith in
          record {
            step = omega arith;
            few = omega (arith, so.few, here);
            size = length-set list count v ∙ so.size;
            whole = ap (λ n. take n (set list count v) ++ rest) here ∙ kept-unlawful e;
          })

  pub kept-end : (list : List ℕ) (count k : ℕ) → KeptTo list count k → 1000 < k → HoldsValues p i x count list
  unfolding keep
  kept-end list count k so past =
      record {
        few = omega (arith, so.few, so.step);
        room = omega (arith, so.few, so.step, so.size);
        held = sym (append-nil (take count list))
            ∙ ap (λ values. take count list ++ keep (lawful_with p i x) values) (sym (values_from-end x k past))
            ∙ so.whole;
      }
