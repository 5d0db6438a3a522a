-- Parts of lists: a part of a part, and elements put in place of others.
use Rattle.base.proofs.Prelude.{ℕ, zero, suc, ◌+◌, ◌≤◌, ◌≡◌, refl, ap, ◌∙◌, List, [], ◌∷◌, ◌++◌, arith, length, take, drop, take-append_seam, drop_at, length-take-le}
use lib.Seq.{take-take}
use Rattle.base.specs.Count.{put_at}

-- m elements after k are the same in a front that holds them
pub take-drop-take {ℓ} : {A : Type ℓ} (m k n : ℕ) (xs : List A) → k + m ≤ n → take m (drop k (take n xs)) ≡ take m (drop k xs)
take-drop-take m zero n xs h = take-take m n xs (omega arith)
take-drop-take m (suc k) zero xs h = absurd (omega arith)
take-drop-take m (suc k) (suc n) [] h = refl
take-drop-take m (suc k) (suc n) (x ∷ xs) h = take-drop-take m k n xs (omega arith)

-- what was put stands there from its place on
pub put_at-stands {ℓ} : {A : Type ℓ} (i : ℕ) (ys xs : List A) → i ≤ length xs → take (length ys) (drop i (put_at i ys xs)) ≡ ys
put_at-stands i ys xs inside =
    let rest = drop (i + length ys) xs in
    ap (take (length ys)) (drop_at (take i xs) (ys ++ rest) i (length-take-le i xs inside)) ∙ take-append_seam ys rest
