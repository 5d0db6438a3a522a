-- Arrays filled by place, and how many strings a row of numbers has room for.
use Rattle.base.proofs.Prelude.{ℕ, zero, suc, ◌+◌, ◌*◌, ◌/◌, ◌%◌, ◌-◌, ◌≤◌, ◌<◌, ◌≡◌, refl, sym, ap, ◌∙◌, List, [], ◌∷◌, ◌++◌, map, map-append, arith, add-one, dec_le, ℕ_discrete, eq-eqb, ne_eqb, le-leb, lt-leb, length, set, length-map}
use Rattle.base.specs.Count.{up_from, filled}
use Rattle.base.proofs.Filling.{filled-set}
use Rattle.entries.specs.Given.{string_count}

-- ---- By place

pub up_from-length : (k n : ℕ) → length (up_from k n) ≡ n
unfolding up_from
up_from-length k zero = refl
up_from-length k (suc n) = ap suc (up_from-length (suc k) n)

up_from-last : (k n : ℕ) → up_from k (suc n) ≡ up_from k n ++ ((k + n) ∷ [])
unfolding up_from
up_from-last k zero =
    let here : k + 0 ≡ k = omega arith in
    rw here
up_from-last k (suc n) =
    let there : suc k + n ≡ k + suc n = omega arith in
    ap (λ ns. k ∷ ns) (up_from-last (suc k) n ∙ ap (λ m. up_from (suc k) n ++ (m ∷ [])) there)

pub given-none {ℓ} : {A : Type ℓ} (room : ℕ) (z : A) (f : ℕ → A) → filled room z [] ≡ filled room z (map f (up_from 0 0))
unfolding up_from
given-none room z f = refl

-- one more is stored
pub given-more {ℓ} : {A : Type ℓ} (room : ℕ) (z : A) (f : ℕ → A) (i : ℕ) (list : List A) (x : A) → i < room
    → list ≡ filled room z (map f (up_from 0 i)) → x ≡ f i → set list i x ≡ filled room z (map f (up_from 0 (i + 1)))
given-more room z f i list x h e same =
    let many : length (map f (up_from 0 i)) ≡ i = length-map (up_from 0 i) f ∙ up_from-length 0 i in
    let here : 0 + i ≡ i = omega arith in
    rw (e, same, add-one i, up_from-last 0 i, here, map-append f (up_from 0 i) (i ∷ []))
    (ap (λ k. set (filled room z (map f (up_from 0 i))) k (f i)) (sym many)
    ∙ filled-set room z (f i) (map f (up_from 0 i)) (omega arith))

-- ---- How many strings

module _ (ns : List ℕ) where
  pub no-sixes : (length ns % 6 ≡ 1 → ⊥) → 0 ≡ string_count ns
  unfolding string_count
  no-sixes h = rw (ne_eqb (length ns % 6) 1 h)

  module _ (sixes : length ns % 6 ≡ 1) where
    pub too_many : 10 < length ns / 6 → 0 ≡ string_count ns
    unfolding string_count
    too_many h = rw (eq-eqb (length ns % 6) 1 sixes, lt-leb (length ns / 6) 10 h)

    pub as_many : length ns / 6 ≤ 10 → length ns / 6 ≡ string_count ns
    unfolding string_count
    as_many h = rw (eq-eqb (length ns % 6) 1 sixes, le-leb (length ns / 6) 10 h)

  -- ten at most, and each has its six numbers behind N
  pub strings-fit : (n : ℕ) → n ≡ string_count ns → (n ≤ 10) × (n * 6 ≤ length ns - 1)
  strings-fit n e =
      elim (ℕ_discrete (length ns % 6) 1) [
        | yes sixes ↦
            elim (dec_le (length ns / 6) 10) [
              | yes few ↦ (omega (arith, as_many sixes few), omega (arith, as_many sixes few))
              | no many ↦ (omega (arith, too_many sixes (omega arith)), omega (arith, too_many sixes (omega arith)))
            ]
        | no other ↦ (omega (arith, no-sixes other), omega (arith, no-sixes other))
      ]
