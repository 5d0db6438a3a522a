-- What the bank did, behind the days of a stint.
--     used_words u            idle | place i work release k | place i move release k, behind a space
use Rattle.std.specs.Prelude.{List, ℕ, [], ◌∷◌}
use Rattle.rules.specs.declared.Use.{Use}
use Rattle.rules.specs.declared.Use.TheVariants.{Idle, Work, Move}
use Rattle.rules.specs.Lines.{bytes_of, decimal, worded}

unfoldable pub used_words : Use → List ℕ
used_words Idle = bytes_of " idle\n"
used_words (Work i k) = worded " place # work release #\n" (decimal i ∷ decimal k ∷ [])
used_words (Move i k) = worded " place # move release #\n" (decimal i ∷ decimal k ∷ [])
