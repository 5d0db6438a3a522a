-- `board_end` meets its contract: only a miss has a line.
use Rattle.base.proofs.Prelude.{rules}
use Rattle.boards.proofs.{Ending.end_clean, paging.board_end.Statement.statement}
use Rattle.boards.proofs.paging.board_end.Tie as tie

returns : tie.Need-returns-in-Miss
returns c =
    let w = c.before.before in
    rw w.in-Miss.is (w.put_miss.ensures.0, w.put_miss.ensures.1)

returns-2 : tie.Need-returns-in-Clean
returns-2 c = end_clean _ _ _ _ _ _ c.in-Clean.is

pub board_end_spec : {M : Type 1} → statement M
board_end_spec =
    tie.close (tie.spec
    (λ c. search rules) (λ c κs. search rules) (λ c. search rules) (λ c. search rules) returns returns-2)
