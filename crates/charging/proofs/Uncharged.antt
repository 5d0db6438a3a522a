-- The plan without the costs that nobody can be charged: it is lawful, the same releases are lawful, no E is larger, and its runs are those
-- of the plan, since no payer's cost was taken off.
use Rattle.base.proofs.Prelude.{ℕ, zero, suc, ◌+◌, ◌-◌, ◌≤◌, ◌<◌, ◌≡◌, refl, sym, ap, ◌∙◌, Bool, true, false, List, [], ◌∷◌, map, take, arith, length, get_or, length-map, zero-mul, get_or-map}
use Rattle.rules.specs.{declared.BatteryString.BatteryString, declared.Plan.Plan, declared.Release.Release, Plan.{strings_of, string_at, no_string, multiple_of}, Release.{release_lawful, unlawful_from, first_unlawful}, Demand.{moving_cost, hold_of}}
use Rattle.base.proofs.Lists.{by_bool, all-at, all-by}
use Rattle.laws.proofs.{Lawful.{LawfulString, LawfulPlan, multiple_of-pos, multiple_of-common, multiple_of-least, common_multiple-whole}, ReleaseList.str}
use Rattle.exact.specs.Missing.{moved_freely, freely}
use Rattle.exact.proofs.Freely.{freely-strings, freely-multiple, freely-lawful}
use Rattle.charging.specs.{Payable.{chargeable, cost_if, costs_where, uncharged}, RunsAlike.RunsAlike}
use Rattle.charging.proofs.{Payers.payer-chargeable, CostsAlone.{freely-at, costs-alone-alike}}

-- ---- Strings

module _ (f : ℕ → Bool) where
  costs-take : (n k : ℕ) (ss : List BatteryString) → take n (costs_where f k ss) ≡ costs_where f k (take n ss)
  unfolding costs_where
  costs-take zero k ss = refl
  costs-take (suc n) k [] = refl
  costs-take (suc n) k (s ∷ ss) = ap (λ rest. cost_if (f k) s ∷ rest) (costs-take n (suc k) ss)

  pub costs-length : (k : ℕ) (ss : List BatteryString) → length (costs_where f k ss) ≡ length ss
  unfolding costs_where
  costs-length k [] = refl
  costs-length k (s ∷ ss) = ap suc (costs-length (suc k) ss)

  costs-at : (k j : ℕ) (ss : List BatteryString) → get_or (costs_where f k ss) j no_string ≡ cost_if (f (k + j)) (get_or ss j no_string)
  unfolding costs_where
  costs-at k j [] = by_bool (f (k + j)) (λ t. rw t) (λ e. rw e)
  costs-at k zero (s ∷ ss) =
      let here : k ≡ k + 0 = omega arith in
      ap (λ i. cost_if (f i) s) here
  costs-at k (suc j) (s ∷ ss) =
      let shift : suc k + j ≡ k + suc j = omega arith in
      costs-at (suc k) j ss ∙ ap (λ i. cost_if (f i) (get_or ss j no_string)) shift

  costs-freely : (k : ℕ) (ss : List BatteryString) → map moved_freely (costs_where f k ss) ≡ map moved_freely ss
  unfolding costs_where
  costs-freely k [] = refl
  costs-freely k (s ∷ ss) =
      let rest = costs-freely (suc k) ss in
      by_bool (f k) (λ t. rw (t, rest)) (λ e. rw (e, rest))

-- ---- The plan

-- what moving costs plays no part in which releases are lawful
module _ (p : Plan) where
  release-freely : (seen : List Release) (r : Release) → release_lawful (freely p) seen r ≡ release_lawful p seen r
  unfolding release_lawful
  release-freely seen r = rw (freely-at p r.place)

  unlawful-freely : (seen : List Release) (k : ℕ) (rs : List Release) → unlawful_from (freely p) seen k rs ≡ unlawful_from p seen k rs
  unfolding unlawful_from
  unlawful-freely seen k [] = refl
  unlawful-freely seen k (r ∷ rs) = rw (release-freely seen r, unlawful-freely (r ∷ seen) (suc k) rs)

  freely-listed : (rs : List Release) → first_unlawful (freely p) rs ≡ first_unlawful p rs
  unfolding first_unlawful
  freely-listed rs = unlawful-freely [] 1 rs

module _ (p : Plan) where
  pub uncharged-freely : freely (uncharged p) ≡ freely p
  uncharged-freely = ap (λ ss. record { n = p.n; run = p.run; strings = ss }) (costs-freely (chargeable p) 1 p.strings)

  uncharged-str : (j : ℕ) → str (uncharged p) j ≡ cost_if (chargeable p (suc j)) (str p j)
  uncharged-str j =
      let place : 1 + j ≡ suc j = omega arith in
      rw (costs-take (chargeable p) p.n 1 p.strings, costs-at (chargeable p) 1 j (strings_of p), place)

  pub uncharged-length : length (strings_of (uncharged p)) ≡ length (strings_of p)
  uncharged-length = rw (costs-take (chargeable p) p.n 1 p.strings) (costs-length (chargeable p) 1 (strings_of p))

  -- a string that is chargeable is as it was, any other pays nothing
  pub uncharged-kept : (j : ℕ) → chargeable p (suc j) ≡ true → str (uncharged p) j ≡ str p j
  uncharged-kept j t = uncharged-str j ∙ rw t

  pub uncharged-freed : (j : ℕ) → chargeable p (suc j) ≡ false → str (uncharged p) j ≡ moved_freely (str p j)
  uncharged-freed j f = uncharged-str j ∙ rw f

  -- no E is larger
  pub uncharged-hold : (i : ℕ) → hold_of (uncharged p) (string_at (uncharged p) i) ≤ hold_of p (string_at p i)
  unfolding hold_of moving_cost
  uncharged-hold i =
      let j = i - 1 in
      by_bool (chargeable p (suc j))
      (λ t. rw (uncharged-kept j t) (omega arith))
      (λ f. rw (uncharged-freed j f) (omega (arith, zero-mul (str p j).x)))

  uncharged-multiple : multiple_of (uncharged p) ≡ multiple_of p
  uncharged-multiple = sym (freely-multiple (uncharged p)) ∙ ap multiple_of uncharged-freely ∙ freely-multiple p

  pub uncharged-listed : (rs : List Release) → first_unlawful (uncharged p) rs ≡ first_unlawful p rs
  uncharged-listed rs =
      sym (freely-listed (uncharged p) rs) ∙ ap (λ q. first_unlawful q rs) uncharged-freely ∙ freely-listed p rs

  module _ (ok : LawfulPlan p) where
    freed-lawful : (j : ℕ) → j < length (strings_of p) → LawfulString (moved_freely (str p j))
    freed-lawful j h =
        let moved = (freely-lawful p ok).each in
        let same : str (freely p) j ≡ moved_freely (str p j) = rw (freely-strings p) (get_or-map moved_freely (strings_of p) j no_string) in
        let there : j < length (strings_of (freely p)) = rw (freely-strings p) (omega (arith, length-map (strings_of p) moved_freely)) in
        rw same at (all-at LawfulString (strings_of (freely p)) no_string moved j there)

    uncharged-each : (j : ℕ) → j < length (strings_of (uncharged p)) → LawfulString (str (uncharged p) j)
    uncharged-each j h =
        let there : j < length (strings_of p) = omega (arith, uncharged-length) in
        by_bool (chargeable p (suc j))
        (λ t. rw (uncharged-kept j t) (all-at LawfulString (strings_of p) no_string ok.each j there))
        (λ f. rw (uncharged-freed j f) (freed-lawful j there))

    pub uncharged-lawful : LawfulPlan (uncharged p)
    uncharged-lawful =
        let low : multiple_of (uncharged p) ≤ 100000 = rw uncharged-multiple ok.h_max in
        record {
          n_pos = ok.n_pos;
          n_max = ok.n_max;
          run_pos = ok.run_pos;
          run_max = ok.run_max;
          each = all-by LawfulString (strings_of (uncharged p)) no_string uncharged-each;
          h_pos = multiple_of-pos (uncharged p);
          h_max = low;
          h_whole = common_multiple-whole (strings_of (uncharged p)) (multiple_of (uncharged p)) (multiple_of-common (uncharged p) low);
          h_least = multiple_of-least (uncharged p);
        }

    -- every run is the same, day by day
    pub uncharged-alike : (rs : List Release) → first_unlawful p rs ≡ 0 → RunsAlike (uncharged p) p rs
    unfolding moving_cost
    uncharged-alike rs listed =
        costs-alone-alike p (uncharged p) uncharged-freely rs ok listed uncharged-lawful (uncharged-listed rs ∙ listed)
        (λ t k so_far pays. ap (λ s. s.a.0) (uncharged-kept k (payer-chargeable p rs ok listed t k so_far pays)))
