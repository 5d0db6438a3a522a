-- The line that is made of five numbers beside their limits.
use Rattle.base.proofs.Prelude.{ℕ, ◌≡◌, List, [], ◌∷◌, ◌++◌, append_assoc, append-nil}
use Rattle.rules.specs.{declared.BatteryString.BatteryString, Lines.{bytes_of, decimal, worded_in, worded}}
use Rattle.lines.specs.declared.limits.Limits.{Limits}
use Rattle.lines.specs.Limits.{Limit, limit_text, limits_line}

-- the number n behind its label, and its limit l
abbrev beside : List ℕ → ℕ → Limit → List ℕ
beside label n l = label ++ decimal n ++ bytes_of " limit " ++ limit_text l

-- five numbers beside their limits, w standing for the word between
five-beside :
    (h i w a₁ b₁ c₁ a₂ b₂ c₂ a₃ b₃ c₃ a₄ b₄ c₄ a₅ b₅ c₅ e : List ℕ)
    → ((((((h ++ (i ++ [])) ++ (a₁ ++ b₁ ++ w ++ c₁)) ++ (a₂ ++ b₂ ++ w ++ c₂)) ++ (a₃ ++ b₃ ++ w ++ c₃)) ++ (a₄ ++ b₄ ++ w ++ c₄))
    ++ (a₅ ++ b₅ ++ w ++ c₅)) ++ e
    ≡ h ++ (i ++ (a₁ ++ (b₁ ++ (w ++ (c₁ ++ (a₂ ++ (b₂ ++ (w ++ (c₂ ++ (a₃ ++ (b₃ ++ (w ++ (c₃ ++
    (a₄ ++ (b₄ ++ (w ++ (c₄ ++ (a₅ ++ (b₅ ++ (w ++ (c₅ ++ (e))))))))))))))))))))))
five-beside h i w a₁ b₁ c₁ a₂ b₂ c₂ a₃ b₃ c₃ a₄ b₄ c₄ a₅ b₅ c₅ e = simp (append-nil, append_assoc)

pub limits-beside : (i : ℕ) (s : BatteryString) (ls : Limits)
    → (((((worded "string #" (decimal i ∷ []) ++ beside (bytes_of " C ") s.c.0 ls.c) ++ beside (bytes_of " D ") s.d.0 ls.d)
    ++ beside (bytes_of " T ") s.t.0 ls.t) ++ beside (bytes_of " moving ") s.a.0 ls.a)
    ++ beside (bytes_of " late ") s.j.0 ls.j)
    ++ bytes_of "\n"
    ≡ limits_line i s ls
unfolding bytes_of worded_in limits_line
limits-beside i s ls =
    five-beside (bytes_of "string ") (decimal i) (bytes_of " limit ")
    (bytes_of " C ") (decimal s.c.0) (limit_text ls.c)
    (bytes_of " D ") (decimal s.d.0) (limit_text ls.d)
    (bytes_of " T ") (decimal s.t.0) (limit_text ls.t)
    (bytes_of " moving ") (decimal s.a.0) (limit_text ls.a)
    (bytes_of " late ") (decimal s.j.0) (limit_text ls.j)
    (bytes_of "\n")
