-- Parts of the lines of the crew's board (document 02, W-214), as bytes: what stands behind a date and its weekday, and a refusal.
--     used_line u            what the bank did: idle | place work | place move
--     missed_line i          miss place
--     number_line f          the bare number of a refusal
use Rattle.std.specs.Prelude.{ℕ, List, [], ◌∷◌}
use Rattle.faults.specs.declared.Fault.{Fault}
use Rattle.faults.specs.Checks.{fault_number}
use Rattle.rules.specs.declared.Use.{Use}
use Rattle.rules.specs.declared.Use.TheVariants.{Idle, Work, Move}
use Rattle.rules.specs.Lines.{worded, decimal}

unfoldable pub used_line : Use → List ℕ
used_line Idle = worded "idle\n" []
used_line (Work i k) = worded "# work\n" (decimal i ∷ [])
used_line (Move i k) = worded "# move\n" (decimal i ∷ [])

unfoldable pub missed_line : ℕ → List ℕ
missed_line i = worded "miss #\n" (decimal i ∷ [])

unfoldable pub number_line : Fault → List ℕ
number_line f = worded "#\n" (decimal (fault_number f) ∷ [])
