-- E by place, string after string: the array holds E of the strings passed, and zeros behind them.
--     holds_to p i           the same where the first i strings are passed
use Rattle.base.proofs.Prelude.{ℕ, ◌+◌, ◌≤◌, ◌<◌, ◌≡◌, sym, ap, ◌∙◌, List, [], ◌∷◌, map, map-append, arith, add-one, length, take, get_or, set, length-map, take-suc, take_all, length-take-le}
use Rattle.base.specs.Count.{filled}
use Rattle.base.proofs.Filling.{filled-set}
use Rattle.rules.specs.{declared.BatteryString.BatteryString, declared.Plan.Plan, Plan.{strings_of, no_string}, Demand.hold_of, Figures.holds_of}
use Rattle.verdict.specs.inner.Asked.{Ready}
use Rattle.verdict.proofs.StringSums.{strings-count}

abbrev pub holds_to : Plan → ℕ → List ℕ
holds_to p i = filled 10 0 (map (hold_of p) (take i (strings_of p)))

module _ (p : Plan) (ready : Ready p) (ss : List BatteryString) (all : ss ≡ strings_of p) (i : ℕ) where
  -- the next string is passed
  pub holds_more : i < length ss → (e : ℕ) → e ≡ hold_of p (get_or ss i no_string) → set (holds_to p i) i e ≡ holds_to p (i + 1)
  holds_more h e is =
      let passed = take i (strings_of p) in
      let few = ready.lawful.n_max in
      let count = strings-count p ready in
      let inside : i < length (strings_of p) = omega (arith, ap length all) in
      let many : length (map (hold_of p) passed) ≡ i = length-map passed (hold_of p) ∙ length-take-le i (strings_of p) (omega arith) in
      rw (
        is,
        ap (λ ts. get_or ts i no_string) all,
        add-one i,
        take-suc (strings_of p) i no_string inside,
        map-append (hold_of p) passed (get_or (strings_of p) i no_string ∷ []),
      )
      (ap (λ k. set (holds_to p i) k (hold_of p (get_or (strings_of p) i no_string))) (sym many)
      ∙ filled-set 10 0 (hold_of p (get_or (strings_of p) i no_string)) (map (hold_of p) passed) (omega arith))

  -- all strings are passed
  pub holds-all : length ss ≤ i → holds_to p i ≡ holds_of p
  unfolding holds_of
  holds-all h = ap (λ ts. filled 10 0 (map (hold_of p) ts)) (take_all i (strings_of p) (omega (arith, ap length all)))
