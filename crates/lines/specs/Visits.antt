-- A visit of the contractor's list as a line (document 02, W-211).
--     visit_line k t n       release,first day,length in decimal, ended by CR LF
use Rattle.std.specs.Prelude.{ℕ, List, [], ◌∷◌}
use Rattle.rules.specs.Lines.{decimal, worded}

unfoldable pub visit_line : ℕ → ℕ → ℕ → List ℕ
visit_line k t n = worded "#,#,#\r\n" (decimal k ∷ decimal t ∷ decimal n ∷ [])
