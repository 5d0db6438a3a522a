-- Fields with commas between them, and the fields of such a text: each says the other.
--     commaed fields tail    the fields, a comma between each two, and what stands behind them
use Rattle.base.proofs.Prelude.{ℕ, suc, ◌+◌, ◌*◌, ◌≤◌, ◌≡◌, refl, sym, ap, ◌∙◌, false, List, [], ◌∷◌, ◌++◌, append_assoc, arith, eqb-true, eqb, length, length-append}
use Rattle.base.specs.Count.{All}
use Rattle.base.proofs.{Lists.by_bool, Order.all_append}
use Rattle.register.specs.Table.{comma, in_front, fields_of}
use Rattle.register.proofs.Numbers.{fields-some}

abbrev pub commaed : List (List ℕ) → List ℕ → List ℕ
commaed [] tail = tail
commaed (f ∷ []) tail = f ++ tail
commaed (f ∷ g ∷ fields) tail = f ++ (comma ∷ commaed (g ∷ fields) tail)

pub commaed-tail : (fields : List (List ℕ)) (xs ys : List ℕ) → commaed fields (xs ++ ys) ≡ commaed fields xs ++ ys
commaed-tail [] xs ys = refl
commaed-tail (f ∷ []) xs ys = sym (append_assoc f xs ys)
commaed-tail (f ∷ g ∷ fields) xs ys =
    ap (λ rest. f ++ (comma ∷ rest)) (commaed-tail (g ∷ fields) xs ys)
    ∙ sym (append_assoc f (comma ∷ commaed (g ∷ fields) xs) ys)

-- ---- Joined, then taken apart

abbrev pub NoComma : List ℕ → Type 0
NoComma field = All (λ b. eqb b comma ≡ false) field

-- a field with no comma in it
field-alone : (f : List ℕ) → NoComma f → fields_of (f ++ []) ≡ f ∷ []
unfolding fields_of in_front
field-alone [] h = refl
field-alone (b ∷ f) h = rw (h.0, field-alone f h.1)

field-first : (f rest : List ℕ) → NoComma f → fields_of (f ++ (comma ∷ rest)) ≡ f ∷ fields_of rest
unfolding fields_of in_front
field-first [] rest h = refl
field-first (b ∷ f) rest h = rw (h.0, field-first f rest h.1)

pub fields-commaed : (f : List ℕ) (fields : List (List ℕ)) → NoComma f → All NoComma fields
    → fields_of (commaed (f ∷ fields) []) ≡ f ∷ fields
fields-commaed f [] h all = field-alone f h
fields-commaed f (g ∷ fields) h all =
    field-first f (commaed (g ∷ fields) []) h ∙ ap (λ rest. f ∷ rest) (fields-commaed g fields all.0 all.1)

-- ---- Taken apart, then commaed

front-commaed : (b : ℕ) (fields : List (List ℕ)) (tail : List ℕ) → 1 ≤ length fields
    → commaed (in_front b fields) tail ≡ b ∷ commaed fields tail
unfolding in_front
front-commaed b [] tail some = absurd (omega arith)
front-commaed b (f ∷ []) tail some = refl
front-commaed b (f ∷ g ∷ fields) tail some = refl

empty-commaed : (fields : List (List ℕ)) → 1 ≤ length fields → commaed ([] ∷ fields) [] ≡ comma ∷ commaed fields []
empty-commaed [] some = absurd (omega arith)
empty-commaed (g ∷ fields) some = refl

pub commaed-fields : (xs : List ℕ) → commaed (fields_of xs) [] ≡ xs
unfolding fields_of
commaed-fields [] = refl
commaed-fields (b ∷ xs) =
    by_bool (eqb b comma)
    (λ t. rw t (empty-commaed (fields_of xs) (fields-some xs) ∙ ap (λ rest. comma ∷ rest) (commaed-fields xs)
    ∙ ap (λ c. c ∷ xs) (sym (eqb-true b comma t))))
    (λ e. rw e (front-commaed b (fields_of xs) [] (fields-some xs) ∙ ap (λ rest. b ∷ rest) (commaed-fields xs)))

-- ---- Each byte, and how many

pub commaed-all : (P : ℕ → Type 0) → P comma → (fields : List (List ℕ)) → All (λ f. All P f) fields → (tail : List ℕ) → All P tail
    → All P (commaed fields tail)
commaed-all P c [] each tail h = h
commaed-all P c (f ∷ []) each tail h = all_append P f tail each.0 h
commaed-all P c (f ∷ g ∷ fields) each tail h =
    all_append P f (comma ∷ commaed (g ∷ fields) tail) each.0 (c, commaed-all P c (g ∷ fields) each.1 tail h)

-- fields of so many bytes at most
pub commaed-long : (most : ℕ) (fields : List (List ℕ)) → All (λ f. length f ≤ most) fields → (tail : List ℕ)
    → length (commaed fields tail) ≤ length fields * suc most + length tail
commaed-long most [] h tail = omega arith
commaed-long most (f ∷ []) h tail = omega (arith, h.0, length-append f tail)
commaed-long most (f ∷ g ∷ fields) h tail =
    omega (
      arith,
      h.0,
      length-append f (comma ∷ commaed (g ∷ fields) tail),
      commaed-long most (g ∷ fields) h.1 tail,
    )
