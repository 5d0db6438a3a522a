-- Who fits an interval, who blocks it for longest, and the blocking limit without the largest D.
use Rattle.base.proofs.Prelude.{ℕ, suc, ◌+◌, ◌-◌, ◌≤◌, ◌<◌, min, ◌≡◌, sym, ap, ◌∙◌, Bool, false, List, [], ◌∷◌, arith, dec_le, eq-eqb, ne_eqb, eqb, length, get_or, get_or-take}
use Rattle.base.specs.Count.{largest, smallest, least_from}
use Rattle.base.proofs.{Lists.{Some, all-at, all-by, all_map, largest-ge, largest-le, smallest-le, smallest-above, true-not-false}, Least.{least_from-low, least_from-before, least_from-unique, least_from-none}}
use Rattle.rules.specs.{declared.BatteryString.BatteryString, declared.Plan.Plan, Plan.{strings_of, string_at, no_string, leeway, leeway_min, d_max}, Demand.{hold_of, blocker_hold, block_limit}}
use Rattle.laws.proofs.Demand.{block_limit-late, block_limit-between, blocker_hold-late}
use Rattle.verdict.specs.inner.Asked.{Ready}
use Rattle.verdict.proofs.StringSums.{strings-count}
use Rattle.lines.specs.Why.{blocker_line}
use Rattle.why.specs.Shares.{blocker_place}

-- the largest of a list is one of it
largest-found : (f : BatteryString → ℕ) (ss : List BatteryString) → 0 < length ss → Some (λ s. f s ≡ largest f ss) ss no_string
unfolding largest
largest-found f [] h = absurd (omega arith)
largest-found f (s ∷ []) h = (0, omega arith, omega arith)
largest-found f (s ∷ (r ∷ ss)) h =
    let found = largest-found f (r ∷ ss) (omega arith) in
    elim (dec_le (largest f (r ∷ ss)) (f s)) [
      | yes low ↦ (0, omega arith, omega arith)
      | no high ↦ (suc found.0, omega (arith, found.1), omega (arith, found.2))
    ]

module _ (p : Plan) (ready : Ready p) where
  at_place : (i : ℕ) → i < p.n → get_or (strings_of p) i no_string ≡ get_or p.strings i no_string
  at_place i h = get_or-take p.n p.strings i no_string h

  -- from the largest D on nobody blocks
  none-blocks : (l : ℕ) → d_max p ≤ l → largest (blocker_hold p l) (strings_of p) ≡ 0
  unfolding d_max
  none-blocks l late =
      let all = all_map (λ s. s.d.0 ≤ largest (λ s. s.d.0) (strings_of p)) (λ s. blocker_hold p l s ≤ 0)
      (λ s h. omega (arith, blocker_hold-late p l s (omega arith))) (strings_of p) (largest-ge (λ s. s.d.0) (strings_of p)) in
      omega (arith, largest-le (blocker_hold p l) 0 (strings_of p) all)

  pub limit-where-fits : (l : ℕ) → leeway_min p ≤ l → block_limit p l ≡ min l (largest (blocker_hold p l) (strings_of p))
  limit-where-fits l low =
      elim (dec_le (d_max p) l) [
        | yes late ↦ omega (arith, block_limit-late p l late, none-blocks l late)
        | no early ↦ block_limit-between p l low (omega arith)
      ]

  module _ (l : ℕ) where
    abbrev most : ℕ
    most = largest (blocker_hold p l) (strings_of p)

    abbrev hold_at : ℕ → ℕ
    hold_at i = blocker_hold p l (get_or p.strings i no_string)

    place-hold : (i : ℕ) → 1 ≤ i → i ≤ p.n → blocker_hold p l (string_at p i) ≡ hold_at (i - 1)
    place-hold i low high = ap (blocker_hold p l) (at_place (i - 1) (omega arith))

    others : (i : ℕ) → i ≤ p.n → ((j : ℕ) → j < i → hold_at j ≡ most → ⊥)
        → (k : ℕ) → 1 ≤ k → k < 1 + i → eqb (blocker_hold p l (string_at p k)) most ≡ false
    others i in-range before k low high =
        ne_eqb _ _ λ same. before (k - 1) (omega arith) (sym (place-hold k low (omega arith)) ∙ same)

    pub place_found : (i : ℕ) → i < p.n → hold_at i ≡ most → ((j : ℕ) → j < i → hold_at j ≡ most → ⊥) → i + 1 ≡ blocker_place p l
    unfolding blocker_place
    place_found i h here before =
        let back : i + 1 - 1 ≡ i = omega arith in
        let same : blocker_hold p l (string_at p (i + 1)) ≡ most = place-hold (i + 1) (omega arith) (omega arith) ∙ ap hold_at back
        ∙ here in
        sym (least_from-unique (λ k. eqb (blocker_hold p l (string_at p k)) most) 1 p.n (i + 1) (omega arith) (omega arith)
        (eq-eqb _ _ same) (λ k low high. others i (omega arith) before k low (omega arith)))

    pub place_none : ((j : ℕ) → j < p.n → hold_at j ≡ most → ⊥) → p.n + 1 ≡ blocker_place p l
    unfolding blocker_place
    place_none before =
        let none = least_from-none (λ k. eqb (blocker_hold p l (string_at p k)) most) 1 p.n
        (λ k low high. others p.n (omega arith) before k low high) in
        omega arith

    pub place-low : 1 ≤ blocker_place p l
    unfolding blocker_place
    place-low = least_from-low (λ k. eqb (blocker_hold p l (string_at p k)) most) 1 p.n

    -- some string blocks for longest
    pub place-high : blocker_place p l ≤ p.n
    unfolding blocker_place
    place-high =
        let count = strings-count p ready in
        let found = largest-found (blocker_hold p l) (strings_of p) (omega (arith, ready.lawful.n_pos)) in
        let i = found.0 in
        let back : i + 1 - 1 ≡ i = omega arith in
        let f : ℕ → Bool = λ k. eqb (blocker_hold p l (string_at p k)) most in
        elim (dec_le (least_from f 1 p.n) (i + 1)) [
          | yes early ↦ omega (arith, found.1)
          | no late ↦
              let is : blocker_hold p l (string_at p (i + 1)) ≡ most = ap (λ k. blocker_hold p l (get_or (strings_of p) k no_string)) back
              ∙ found.2 in
              absurd (true-not-false (sym (eq-eqb _ _ is) ∙ least_from-before f 1 p.n (i + 1) (omega arith) (omega arith)))
        ]

    -- its line, as the code finds the string
    pub blocker-line-is : (place hold : ℕ) → let s = get_or p.strings (place - 1) no_string in let q = string_at p (blocker_place p l) in
        place ≡ blocker_place p l → hold ≡ hold_of p s
        → blocker_line place hold s.d.0 ≡ blocker_line (blocker_place p l) (hold_of p q) q.d.0
    blocker-line-is place hold e is =
        let s = get_or p.strings (place - 1) no_string in
        let there : string_at p place ≡ s = at_place (place - 1) (omega (arith, place-low, place-high)) in
        ap (λ h. blocker_line place h s.d.0) is
        ∙ ap (λ q. blocker_line place (hold_of p q) q.d.0) (sym there)
        ∙ ap (λ i. blocker_line i (hold_of p (string_at p i)) (string_at p i).d.0) e
