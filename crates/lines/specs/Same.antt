-- The lines on two plans that may hold the same strings in another order, as bytes. Each ends by one byte 0a.
--     places_text ps         each place in decimal, behind a space
--     same_line ps           same p p ..: by place, the place in the second plan of each string of the first
--     alone_line i           differ string i: the string at place i has no partner
--     counts_line m n        differ strings m and n: the numbers of strings
use Rattle.std.specs.Prelude.{ℕ, List, [], ◌∷◌, ◌++◌}
use Rattle.rules.specs.Lines.{bytes_of, decimal, worded}

unfoldable pub places_text : List ℕ → List ℕ
places_text [] = []
places_text (p ∷ ps) = bytes_of " " ++ decimal p ++ places_text ps

unfoldable pub same_line : List ℕ → List ℕ
same_line ps = bytes_of "same" ++ places_text ps ++ bytes_of "\n"

unfoldable pub alone_line : ℕ → List ℕ
alone_line i = worded "differ string #\n" (decimal i ∷ [])

unfoldable pub counts_line : ℕ → ℕ → List ℕ
counts_line m n = worded "differ strings # and #\n" (decimal m ∷ decimal n ∷ [])
