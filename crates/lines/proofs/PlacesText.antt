-- Places in decimal, one after the other.
use Rattle.base.proofs.Prelude.{ℕ, ◌+◌, ◌<◌, ◌≡◌, sym, ap, ◌∙◌, min, List, [], ◌∷◌, ◌++◌, append-nil, append_assoc, arith, add-one, dec_le, length, take, get_or, take-suc, take_all}
use Rattle.rules.specs.Lines.{bytes_of, decimal}
use Rattle.lines.specs.Same.{places_text}

pub places-behind : (ps : List ℕ) (p : ℕ) → places_text (ps ++ (p ∷ [])) ≡ places_text ps ++ (bytes_of " " ++ decimal p)
unfolding places_text
places-behind [] p = append-nil (bytes_of " " ++ decimal p)
places-behind (q ∷ ps) p =
    ap (λ text. bytes_of " " ++ decimal q ++ text) (places-behind ps p)
    ∙ sym (append_assoc (bytes_of " " ++ decimal q) (places_text ps) (bytes_of " " ++ decimal p))

pub places-none : (text : List ℕ) → text ≡ text ++ places_text []
unfolding places_text
places-none text = sym (append-nil text)

-- one more place
pub placed : (text : List ℕ) (ps : List ℕ) (i : ℕ) → i < length ps
    → (text ++ places_text (take i ps)) ++ (bytes_of " " ++ decimal (get_or ps i 0)) ≡ text ++ places_text (take (i + 1) ps)
placed text ps i h =
    append_assoc text (places_text (take i ps)) (bytes_of " " ++ decimal (get_or ps i 0))
    ∙ ap (λ more. text ++ more) (sym (ap (λ n. places_text (take n ps)) (add-one i) ∙ ap places_text (take-suc ps i 0 h)
    ∙ places-behind (take i ps) (get_or ps i 0)))

-- of n elements, as many as count are those up to the smaller of k and n
pub lines_take_min {ℓ} : {A : Type ℓ} (k n : ℕ) (xs : List A) → length xs ≡ n → take (min k n) xs ≡ take k xs
lines_take_min k n xs e =
    elim (dec_le k n) [
      | yes few ↦
          let least : min k n ≡ k = omega arith in
          rw least
      | no many ↦
          let least : min k n ≡ n = omega arith in
          rw least (take_all n xs (omega arith) ∙ sym (take_all k xs (omega arith)))
    ]
