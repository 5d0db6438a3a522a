-- Spaces at the end of a row, one at a time from its end.
use Rattle.base.proofs.Prelude.{ℕ, suc, ◌-◌, ◌≤◌, ◌<◌, ◌≡◌, refl, sym, ap, ◌∙◌, List, [], ◌∷◌, ◌++◌, arith, eq-eqb, ne_eqb, length, take, get_or, take-suc, take_all}
use Rattle.lines.specs.Bars.{ahead_of_kept, trimmed}

-- a byte that is no space keeps all before it
ends-kept : (cs : List ℕ) (c : ℕ) → (c ≡ 0x20 → ⊥) → trimmed (cs ++ (c ∷ [])) ≡ cs ++ (c ∷ [])
unfolding trimmed ahead_of_kept
ends-kept [] c other = rw (ne_eqb c 0x20 other)
ends-kept (b ∷ []) c other = ap (ahead_of_kept b) (ends-kept [] c other)
ends-kept (b ∷ d ∷ cs) c other = ap (ahead_of_kept b) (ends-kept (d ∷ cs) c other)

-- a space at the end goes
space-goes : (cs : List ℕ) (c : ℕ) → c ≡ 0x20 → trimmed (cs ++ (c ∷ [])) ≡ trimmed cs
unfolding trimmed ahead_of_kept
space-goes [] c is = rw (eq-eqb c 0x20 is)
space-goes (b ∷ cs) c is = ap (ahead_of_kept b) (space-goes cs c is)

last_of : (cs : List ℕ) → 1 ≤ length cs → cs ≡ take (length cs - 1) cs ++ (get_or cs (length cs - 1) 0 ∷ [])
last_of cs some =
    let last : suc (length cs - 1) ≡ length cs = omega arith in
    sym (take_all (length cs) cs (omega arith)) ∙ ap (λ n. take n cs) (sym last) ∙ take-suc cs (length cs - 1) 0 (omega arith)

-- a row that ends in a space is trimmed as the row without it, and any other row stays
pub space_off : (cs : List ℕ) → 1 ≤ length cs → get_or cs (length cs - 1) 0 ≡ 0x20 → trimmed (take (length cs - 1) cs) ≡ trimmed cs
space_off cs some is =
    sym (ap trimmed (last_of cs some) ∙ space-goes (take (length cs - 1) cs) (get_or cs (length cs - 1) 0) is)

pub stays : (cs : List ℕ) → 1 ≤ length cs → (get_or cs (length cs - 1) 0 ≡ 0x20 → ⊥) → cs ≡ trimmed cs
stays cs some other =
    let whole = last_of cs some in
    whole ∙ sym (ends-kept (take (length cs - 1) cs) (get_or cs (length cs - 1) 0) other) ∙ ap trimmed (sym whole)

pub none_stays : (cs : List ℕ) → length cs < 1 → cs ≡ trimmed cs
unfolding trimmed
none_stays [] none = refl
none_stays (c ∷ cs) none = absurd (omega arith)
