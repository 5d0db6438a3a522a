-- Arrays filled from the front: what is stored so far, and the filler behind it.
use Rattle.base.proofs.Prelude.{ℕ, suc, ◌+◌, ◌-◌, ◌<◌, ◌≡◌, refl, sym, ◌∙◌, List, [], ◌∷◌, ◌++◌, append_assoc, arith, ℕ_discrete, length, get_or, set, replicate, length-append, get_or-set_same, get_or-set_other}
use lib.Seq.{set_at}
use Rattle.base.specs.Count.{filled}

pub filled-set {ℓ} : {A : Type ℓ} (k : ℕ) (z v : A) (xs : List A) → length xs < k
    → set (filled k z xs) (length xs) v ≡ filled k z (xs ++ (v ∷ []))
filled-set k z v xs h =
    let room : k - length xs ≡ suc (k - suc (length xs)) = omega arith in
    let longer : k - length (xs ++ (v ∷ [])) ≡ k - suc (length xs) = omega (arith, length-append xs (v ∷ [])) in
    rw (room, longer)
    (set_at xs z (replicate (k - suc (length xs)) z) v (length xs) refl
    ∙ sym (append_assoc xs (v ∷ []) (replicate (k - suc (length xs)) z)))

-- what holds at each place below i, and of what is stored at i, holds at each place below i + 1
pub below_set {ℓ} : {A : Type ℓ} (P : ℕ → A → Type 0) (xs : List A) (i : ℕ) (v z : A) → i < length xs
    → ((j : ℕ) → j < i → P j (get_or xs j z)) → P i v → (j : ℕ) → j < i + 1 → P j (get_or (set xs i v) j z)
below_set P xs i v z inside below here j h =
    elim (ℕ_discrete j i) [
      | yes same ↦ rw (same, get_or-set_same xs i v z inside) here
      | no other ↦ rw (get_or-set_other xs i j v z other) (below j (omega arith))
    ]
