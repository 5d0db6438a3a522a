-- Columns: spaces that are cut from a longer row of them, and a text that fills its columns.
use Rattle.base.proofs.Prelude.{ℕ, zero, suc, ◌-◌, ◌≤◌, ◌≡◌, refl, ap, ◌∷◌, List, append-nil, arith, length, take, replicate}
use Rattle.lines.specs.Why.{padded}

pub replicate-cut : (k n x : ℕ) → k ≤ n → take k (replicate n x) ≡ replicate k x
replicate-cut zero n x h = refl
replicate-cut (suc k) zero x h = absurd (omega arith)
replicate-cut (suc k) (suc n) x h = ap (λ xs. x ∷ xs) (replicate-cut k n x (omega arith))

pub padded-full : (w : ℕ) (text : List ℕ) → w ≤ length text → padded w text ≡ text
unfolding padded
padded-full w text h =
    let none : w - length text ≡ 0 = omega arith in
    rw none (append-nil text)
