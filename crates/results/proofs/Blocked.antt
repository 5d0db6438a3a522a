-- The blocking that an eased plan allows. With it the strings ask for no more than before. If the old plan did not allow it, then a string
-- whose D grew past the interval allows it now; with no blocking the old plan asked for that string's E, and for all that the others ask.
use Rattle.base.proofs.Prelude.{ℕ, ◌+◌, ◌≤◌, ◌<◌, List, arith, dec_le, le_refl, length}
use Rattle.rules.specs.{declared.BatteryString.BatteryString, declared.Plan.Plan, Plan.{strings_of, no_string, leeway, leeway_min, d_max}, Demand.{blocker_hold, block_limit, need}}
use Rattle.base.specs.Count.{sum_of, largest, smallest}
use Rattle.base.proofs.Lists.{All, all_map, sum_of-le, largest-ge, largest-le, largest-some, smallest-le, smallest-above}
use Rattle.laws.proofs.{Lawful.LawfulString, Demand.{block_limit-early, block_limit-late, block_limit-interval, block_limit-between, blocker_hold-late}}
use Rattle.results.specs.Easing.{EasedStrings, end, eased, dropped, EasedPlan}
use Rattle.results.proofs.Asked.{need-blocked, need-eased, blocker-asked}

-- ---- What the strings ask

module _ (p q : Plan) (l b : ℕ) where
  -- with the same blocking, no more than before
  pub asked-eased : {olds news : List BatteryString} → EasedStrings olds news → All LawfulString olds
      → sum_of (need q l b) news ≤ sum_of (need p l b) olds
  unfolding sum_of
  asked-eased end ok = le_refl 0
  asked-eased (eased {old = old} {new = new} easier rest) ok =
      let here = need-eased p q old new easier ok.0 l b in
      let later = asked-eased rest ok.1 in
      omega arith
  asked-eased (dropped rest) ok =
      let later = asked-eased rest ok.1 in
      omega arith

  -- and with none, all the more
  asked-unblocked : (ss : List BatteryString) → All LawfulString ss → sum_of (need p l b) ss ≤ sum_of (need p l 0) ss
  asked-unblocked ss ok =
      sum_of-le (need p l b) (need p l 0) ss
      (all_map LawfulString (λ s. need p l b s ≤ need p l 0 s) (λ s lawful. need-blocked p l s lawful b) ss ok)

  -- a blocking that is longer than any before was asked for before
  pub blocking-asked : {olds news : List BatteryString} → EasedStrings olds news → All LawfulString olds
      → 1 ≤ b → b ≤ largest (blocker_hold q l) news → largest (blocker_hold p l) olds < b
      → b + sum_of (need q l b) news ≤ sum_of (need p l 0) olds
  unfolding sum_of largest
  blocking-asked end ok some blocks more = absurd (omega arith)
  blocking-asked (eased {old = old} {new = new} {olds = olds} easier rest) ok some blocks more =
      elim (dec_le b (blocker_hold q l new)) [
        | yes here ↦
            let first = blocker-asked p q old new easier ok.0 l b some here (omega arith) in
            let others = asked-eased rest ok.1 in
            let unblocked = asked-unblocked olds ok.1 in
            omega arith
        | no away ↦
            let first = need-eased p q old new easier ok.0 l b in
            let unblocked = need-blocked p l old ok.0 b in
            let later = blocking-asked rest ok.1 some (omega arith) (omega arith) in
            omega arith
      ]
  blocking-asked (dropped rest) ok some blocks more =
      let later = blocking-asked rest ok.1 some blocks (omega arith) in
      omega arith

-- ---- The blocking limit

module _ (p : Plan) (l b : ℕ) (some : 1 ≤ b) where
  -- a blocking within the limit: some D is within l, some string blocks for as long
  module _ (under : b ≤ block_limit p l) where
    limit-from : leeway_min p ≤ l
    limit-from = elim (dec_le (leeway_min p) l) [ yes from ↦ from | no early ↦ absurd (omega (arith, block_limit-early p l (omega arith))) ]

    limit-until : l < d_max p
    limit-until = elim (dec_le (d_max p) l) [ yes late ↦ absurd (omega (arith, block_limit-late p l late)) | no until ↦ omega arith ]

    pub limit-blocks : b ≤ largest (blocker_hold p l) (strings_of p)
    limit-blocks = omega (arith, block_limit-between p l limit-from limit-until)

  -- and the other way round
  blocker-until : b ≤ largest (blocker_hold p l) (strings_of p) → l < d_max p
  unfolding d_max
  blocker-until blocks = elim (dec_le (largest (λ s. s.d.0) (strings_of p)) l) [ yes late ↦ absurd (none late) | no until ↦ omega arith ]
    where
      none : largest (λ s. s.d.0) (strings_of p) ≤ l → ⊥
      none late =
          let idle : All (λ s. blocker_hold p l s ≤ 0) (strings_of p) =
          all_map (λ s. s.d.0 ≤ largest (λ r. r.d.0) (strings_of p)) (λ s. blocker_hold p l s ≤ 0)
          (λ s within. omega (arith, blocker_hold-late p l s (omega arith))) (strings_of p) (largest-ge (λ s. s.d.0) (strings_of p)) in
          omega (arith, largest-le (blocker_hold p l) 0 (strings_of p) idle)

  limit-reaches : leeway_min p ≤ l → b ≤ l → b ≤ largest (blocker_hold p l) (strings_of p) → b ≤ block_limit p l
  limit-reaches from within blocks = omega (arith, block_limit-between p l from (blocker-until blocks))

-- ---- The smallest D − J

beyond-eased : (l : ℕ) {olds news : List BatteryString} → EasedStrings olds news → All (λ s. l < leeway s) olds
    → All (λ s. l < leeway s) news
beyond-eased l end all = tt
beyond-eased l (eased easier rest) all = (omega (arith, all.0, easier.due, easier.late), beyond-eased l rest all.1)
beyond-eased l (dropped rest) all = beyond-eased l rest all.1

-- it is no smaller in the eased plan, where a string is left
leeway_min-eased : (p q : Plan) (l : ℕ) → EasedPlan p q → 0 < length (strings_of q) → leeway_min q ≤ l → leeway_min p ≤ l
unfolding leeway_min
leeway_min-eased p q l easier left from =
    elim (dec_le (smallest leeway (strings_of p)) l) [ yes within ↦ within | no over ↦ absurd (later (omega arith)) ]
  where
    later : l < smallest leeway (strings_of p) → ⊥
    later over =
        let beyond : All (λ s. l < leeway s) (strings_of p) =
        all_map (λ s. smallest leeway (strings_of p) ≤ leeway s) (λ s. l < leeway s) (λ s least. omega arith) (strings_of p)
        (smallest-le leeway (strings_of p)) in
        omega (arith, smallest-above leeway l (strings_of q) left (beyond-eased l easier beyond))

-- ---- A blocking that the eased plan allows

module _ (p q : Plan) (l b : ℕ) (easier : EasedPlan p q) (some : 1 ≤ b) (under : b ≤ block_limit q l) where
  -- the old plan allowed it, where a string of it blocks for as long
  pub limit-before : b ≤ largest (blocker_hold p l) (strings_of p) → b ≤ block_limit p l
  limit-before blocks =
      let now = limit-blocks q l b some under in
      let blocker = largest-some (blocker_hold q l) 0 (strings_of q) no_string (omega arith) in
      let left : 0 < length (strings_of q) = omega (arith, blocker.1) in
      let from = leeway_min-eased p q l easier left (limit-from q l b some under) in
      limit-reaches p l b some from (omega (arith, block_limit-interval q l)) blocks
