-- For the proofs inside this crate: rows as the code walks them.
--     bytes_ahead stop bytes how many bytes stand ahead of the first `stop`; all of them where there is none
--     lead field            the first digit is no zero, or the only one
--     register_number_in most field   the number of a field that is one
--     numbers_in count most fields     the numbers of fields that are so many
--     fields_left left       the fields of what stands behind a comma, where one does
use Rattle.std.specs.Prelude.{ℕ, suc, Bool, not, cond, ◌||◌, List, [], ◌∷◌, map, eqb, length, get_or, Option, Some, None}
use denote.Ref.{Bor}
use Rattle.base.specs.Digits.{decimal_in}
use Rattle.register.specs.Table.{fields_of, plain_number, numbers_formed}

unfoldable pub bytes_ahead : ℕ → List ℕ → ℕ
bytes_ahead stop [] = 0
bytes_ahead stop (b ∷ bs) = cond (eqb b stop) 0 (suc (bytes_ahead stop bs))

abbrev pub lead : List ℕ → Bool
lead field = eqb (length field) 1 || not (eqb (get_or field 0 0) 0x30)

unfoldable pub register_number_in : ℕ → List ℕ → Option ℕ
register_number_in most field = cond (plain_number most field) (Some (decimal_in field)) None

unfoldable pub numbers_in : ℕ → ℕ → List (List ℕ) → Option (List ℕ)
numbers_in count most fields = cond (numbers_formed count most fields) (Some (map decimal_in fields)) None

abbrev pub fields_left : Option (Bor (List ℕ)) → List (List ℕ)
fields_left None = []
fields_left (Some xs) = fields_of xs.now
