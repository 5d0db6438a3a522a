-- The places in a set, from the first on, and the words for them.
use Rattle.base.proofs.Prelude.{ℕ, zero, suc, ◌+◌, ◌-◌, ◌≤◌, ◌≡◌, refl, sym, ap, ◌∙◌, true, false, List, [], ◌∷◌, ◌++◌, append_assoc, append-nil, arith, length}
use Rattle.std.proofs.Common.{add-zero, Bool}
use Rattle.std.specs.List.{filter, range_with_len}
use Rattle.base.proofs.Lists.{by_bool}
use Rattle.base.specs.Count.{up_from, keep}
use Rattle.base.proofs.Order.{keep-yes, keep-no, keep_append}
use Rattle.rules.specs.Lines.{bytes_of, decimal}
use Rattle.lines.specs.{Same.places_text, Sets.{in_set, takers_of, takers_words}}
use Rattle.lines.proofs.PlacesText.{places-behind}

up_from-last : (k n : ℕ) → up_from k (suc n) ≡ up_from k n ++ ((k + n) ∷ [])
unfolding up_from
up_from-last k zero = ap (λ i. i ∷ []) (sym (add-zero k))
up_from-last k (suc n) =
    let next : suc k + n ≡ k + suc n = omega arith in
    ap (λ is. k ∷ is) (up_from-last (suc k) n ∙ ap (λ i. up_from (suc k) n ++ (i ∷ [])) next)

-- the places in a set up to a place
abbrev pub takers_to : ℕ → ℕ → List ℕ
takers_to m i = keep (in_set m) (up_from 1 (i - 1))

module _ (m i : ℕ) (some : 1 ≤ i) where
  next-is : takers_to m (i + 1) ≡ takers_to m i ++ keep (in_set m) (i ∷ [])
  next-is =
      let more : i + 1 - 1 ≡ suc (i - 1) = omega arith in
      let place : 1 + (i - 1) ≡ i = omega arith in
      rw (more, up_from-last 1 (i - 1), place) (keep_append (in_set m) (up_from 1 (i - 1)) (i ∷ []))

  pub taker-in : (text : List ℕ) → in_set m i ≡ true
      → (text ++ places_text (takers_to m i)) ++ (bytes_of " " ++ decimal i) ≡ text ++ places_text (takers_to m (i + 1))
  unfolding keep
  taker-in text is =
      append_assoc text (places_text (takers_to m i)) (bytes_of " " ++ decimal i)
      ∙ ap (λ more. text ++ more) (sym (places-behind (takers_to m i) i)
      ∙ ap places_text (ap (λ ps. takers_to m i ++ ps) (sym (keep-yes (in_set m) i [] is)) ∙ sym next-is))

  pub taker-out : (text : List ℕ) → in_set m i ≡ false
      → text ++ places_text (takers_to m i) ≡ text ++ places_text (takers_to m (i + 1))
  unfolding keep
  taker-out text is =
      ap (λ ps. text ++ places_text ps) (sym (append-nil (takers_to m i))
      ∙ ap (λ ps. takers_to m i ++ ps) (sym (keep-no (in_set m) i [] is)) ∙ sym next-is)

-- those that pass a test, in std's word and in ours
kept-is : (f : ℕ → Bool) (xs : List ℕ) → filter f xs ≡ keep f xs
unfolding keep
kept-is f [] = refl
kept-is f (x ∷ xs) =
    by_bool (f x) (λ t. rw t (ap (λ rest. x ∷ rest) (kept-is f xs))) (λ e. rw e (kept-is f xs))

pub takers_filtered : (m : ℕ) → filter (in_set m) (range_with_len 1 10) ≡ takers_of m
unfolding takers_of up_from
takers_filtered m = kept-is (in_set m) (range_with_len 1 10)

-- ---- The words

pub worded-none : (ps : List ℕ) → length ps ≡ 0 → takers_words ps ≡ bytes_of " nobody"
unfolding takers_words
worded-none [] h = refl
worded-none (p ∷ ps) h = absurd (omega arith)

pub worded-one : (ps : List ℕ) → length ps ≡ 1 → takers_words ps ≡ bytes_of " string" ++ places_text ps
unfolding takers_words
worded-one [] h = absurd (omega arith)
worded-one (p ∷ []) h = refl
worded-one (p ∷ q ∷ ps) h = absurd (omega arith)

pub worded-more : (ps : List ℕ) → (length ps ≡ 0 → ⊥) → (length ps ≡ 1 → ⊥) → takers_words ps ≡ bytes_of " strings" ++ places_text ps
unfolding takers_words
worded-more [] h g = absurd (h refl)
worded-more (p ∷ []) h g = absurd (g refl)
worded-more (p ∷ q ∷ ps) h g = refl
