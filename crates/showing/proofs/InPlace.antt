-- Lines of a list by place: which stands there, and where none does. The string and the release at a place, as the code finds them.
use Rattle.base.proofs.Prelude.{ℕ, ◌-◌, ◌≤◌, ◌<◌, ◌≡◌, sym, ap, ◌∙◌, List, [], map, arith, length, get_or, replicate, length-map, length-take, get_or-map, get_or-take}
use lib.ListN.{get_or-append}
use Rattle.faults.proofs.Checks.{in_bounds-yes, in_bounds-not}
use Rattle.rules.specs.{declared.Plan.Plan, declared.Releases.Releases, Plan.{strings_of, no_string}, Demand.{moving_cost, hold_of}, Figures.holds_of, Release.{releases_of, no_release}}
use Rattle.lines.specs.{Shown.{string_line, release_line}}
use Rattle.showing.specs.Shown.{in_place, string_words, release_shown}

module _ {A : Type 0} (line : ℕ → A → List ℕ) (z : A) (xs : List A) (k : ℕ) where
  pub in_place-there : 1 ≤ k → k ≤ length xs → in_place line z xs k ≡ line k (get_or xs (k - 1) z)
  unfolding in_place
  in_place-there low high = rw (in_bounds-yes 1 k (length xs) low high)

  pub in_place-none : (1 ≤ k → k ≤ length xs → ⊥) → in_place line z xs k ≡ []
  unfolding in_place
  in_place-none out = rw (in_bounds-not 1 k (length xs) out)

module _ (p : Plan) (i : ℕ) where
  pub string-none : (1 ≤ i → i ≤ p.n → i ≤ length p.strings → ⊥) → in_place (string_words p) no_string (strings_of p) i ≡ []
  string-none out =
      let many = length-take p.n p.strings in
      in_place-none (string_words p) no_string (strings_of p) i (λ low high. out low (omega arith) (omega arith))

  -- E of the string before place i + 1
  hold_at : i < p.n → i < length p.strings → get_or (holds_of p) i 0 ≡ hold_of p (get_or (strings_of p) i no_string)
  unfolding holds_of hold_of moving_cost
  hold_at h room =
      let holds = map (hold_of p) (strings_of p) in
      let many = length-take p.n p.strings in
      let inside : i < length holds = omega (arith, length-map (strings_of p) (hold_of p)) in
      get_or-append holds (replicate (10 - length holds) 0) 0 i inside ∙ get_or-map (hold_of p) (strings_of p) i no_string

pub string-there : (p : Plan) (i : ℕ) → 1 ≤ i → i ≤ p.n → i ≤ length p.strings
    → string_line i (get_or p.strings (i - 1) no_string) (get_or (holds_of p) (i - 1) 0)
    ≡ in_place (string_words p) no_string (strings_of p) i
string-there p i low high room =
    let many = length-take p.n p.strings in
    let string = get_or-take p.n p.strings (i - 1) no_string (omega arith) in
    let hold = hold_at p (i - 1) (omega arith) (omega arith) in
    ap (λ s. string_line i s (get_or (holds_of p) (i - 1) 0)) (sym string)
    ∙ ap (string_line i (get_or (strings_of p) (i - 1) no_string)) hold
    ∙ sym (in_place-there (string_words p) no_string (strings_of p) i low (omega arith))

module _ (rs : Releases) (k : ℕ) where
  pub release-none : (1 ≤ k → k ≤ rs.count → k ≤ length rs.list → ⊥) → release_shown rs k ≡ []
  unfolding release_shown
  release-none out =
      let many = length-take rs.count rs.list in
      in_place-none release_line no_release (releases_of rs) k (λ low high. out low (omega arith) (omega arith))

  pub release-there : 1 ≤ k → k ≤ rs.count → k ≤ length rs.list → release_line k (get_or rs.list (k - 1) no_release) ≡ release_shown rs k
  unfolding release_shown
  release-there low high room =
      let many = length-take rs.count rs.list in
      let release = get_or-take rs.count rs.list (k - 1) no_release (omega arith) in
      ap (release_line k) (sym release) ∙ sym (in_place-there release_line no_release (releases_of rs) k low (omega arith))
