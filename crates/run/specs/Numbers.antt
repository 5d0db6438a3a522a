-- A stint read back from a list of numbers, five for each (rules/specs/Stints.antt).
--     use_in kind i k        what the bank did, by its kind, place and release: 1 work, 2 moving; any other number stands for idle
--     stint_at numbers k     the stint with index k, from 0; one of no days, idle, where the list has no five numbers for it
use Rattle.std.specs.Prelude.{ℕ, ◌+◌, ◌*◌, ◌/◌, cond, List, ltb, eqb, length, get_or}
use Rattle.rules.specs.declared.Use.{Use}
use Rattle.rules.specs.declared.Use.TheVariants.{Idle, Work, Move}
use Rattle.rules.specs.declared.Stint.{Stint}
use Rattle.rules.specs.Stints.{stint}

abbrev pub use_in : ℕ → ℕ → ℕ → Use
use_in kind i k = cond (eqb kind 1) (Work i k) (cond (eqb kind 2) (Move i k) Idle)

unfoldable pub stint_at : List ℕ → ℕ → Stint
stint_at numbers k =
    let at = 5 * k in
    cond (ltb k (length numbers / 5))
    (stint (get_or numbers at 0) (get_or numbers (at + 1) 0)
    (use_in (get_or numbers (at + 2) 0) (get_or numbers (at + 3) 0) (get_or numbers (at + 4) 0)))
    (stint 0 0 Idle)
