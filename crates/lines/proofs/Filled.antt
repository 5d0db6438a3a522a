-- Templates, a byte at a time: the next byte of a template, in front of what the rest of it gives.
use Rattle.base.proofs.Prelude.{ℕ, suc, ◌+◌, ◌≡◌, ◌<◌, ◌≤◌, refl, sym, ap, ◌∙◌, List, [], ◌∷◌, ◌++◌, map, append_assoc, append-nil, arith, add-one, eq-eqb, ne_eqb, length, get_or, drop, drop-cons, drop_of_length-le}
use Rattle.rules.specs.Lines.{decimal, mark, worded_in}

-- at a mark stands the next number; any other byte stands for itself, and so does a mark for which there is no number
mark-next : (b n : ℕ) (bs ns : List ℕ) → b ≡ mark
    → worded_in (b ∷ bs) (map decimal (n ∷ ns)) ≡ decimal n ++ worded_in bs (map decimal ns)
unfolding worded_in
mark-next b n bs ns is = rw (eq-eqb b mark is)

none-next : (b : ℕ) (bs : List ℕ) → worded_in (b ∷ bs) [] ≡ (b ∷ []) ++ worded_in bs []
unfolding worded_in
none-next b [] = refl
none-next b (c ∷ bs) = refl

plain-next : (b : ℕ) (bs ns : List ℕ) → (b ≡ mark → ⊥)
    → worded_in (b ∷ bs) (map decimal ns) ≡ (b ∷ []) ++ worded_in bs (map decimal ns)
unfolding worded_in
plain-next b bs [] other = none-next b bs
plain-next b bs (n ∷ ns) other = rw (ne_eqb b mark other)

-- a page that holds what is written so far, with what is left, is the whole
module _ (bs : List ℕ) (i : ℕ) (h : i < length bs) where
  at_next : (ns : List ℕ) → worded_in (drop i bs) (map decimal ns) ≡ worded_in (get_or bs i 0 ∷ drop (suc i) bs) (map decimal ns)
  at_next ns = ap (λ left. worded_in left (map decimal ns)) (drop-cons bs i 0 h)

  pub marked : (so_far : List ℕ) (ns : List ℕ) → 1 ≤ length ns → get_or bs i 0 ≡ mark
      → (so_far ++ decimal (get_or ns 0 0)) ++ worded_in (drop (i + 1) bs) (map decimal (drop 1 ns))
      ≡ so_far ++ worded_in (drop i bs) (map decimal ns)
  marked so_far [] some is = absurd (omega arith)
  marked so_far (n ∷ ns) some is =
      rw (add-one i) (append_assoc so_far (decimal n) (worded_in (drop (suc i) bs) (map decimal ns))
      ∙ ap (λ text. so_far ++ text) (sym (at_next (n ∷ ns) ∙ mark-next (get_or bs i 0) n (drop (suc i) bs) ns is)))

  pub plain : (so_far : List ℕ) (ns : List ℕ) → (get_or bs i 0 ≡ mark → ⊥)
      → (so_far ++ (get_or bs i 0 ∷ [])) ++ worded_in (drop (i + 1) bs) (map decimal ns)
      ≡ so_far ++ worded_in (drop i bs) (map decimal ns)
  plain so_far ns other =
      rw (add-one i) (append_assoc so_far (get_or bs i 0 ∷ []) (worded_in (drop (suc i) bs) (map decimal ns))
      ∙ ap (λ text. so_far ++ text) (sym (at_next ns ∙ plain-next (get_or bs i 0) (drop (suc i) bs) ns other)))

  pub used_up : (so_far : List ℕ) (ns : List ℕ) → length ns < 1
      → (so_far ++ (get_or bs i 0 ∷ [])) ++ worded_in (drop (i + 1) bs) (map decimal ns)
      ≡ so_far ++ worded_in (drop i bs) (map decimal ns)
  used_up so_far [] none =
      rw (add-one i) (append_assoc so_far (get_or bs i 0 ∷ []) (worded_in (drop (suc i) bs) [])
      ∙ ap (λ text. so_far ++ text) (sym (at_next [] ∙ none-next (get_or bs i 0) (drop (suc i) bs))))
  used_up so_far (n ∷ ns) none = absurd (omega arith)

-- the template is at its end
pub ended : (bs ns : List ℕ) (i : ℕ) (so_far : List ℕ) → length bs ≤ i → so_far ++ worded_in (drop i bs) (map decimal ns) ≡ so_far
unfolding worded_in
ended bs ns i so_far h = rw (drop_of_length-le bs h) (append-nil so_far)
