-- The run as bars, of what the code answered: the lines put together are the whole text.
use Rattle.base.proofs.Prelude.{ℕ, ◌≡◌, ◌++◌}
use Rattle.faults.specs.Checks.{Lawful}
use mathlib.Core.List.{flat_map}
use Rattle.base.specs.Count.{up_from}
use Rattle.rules.specs.{declared.Plan.Plan, declared.Releases.Releases, Refusal.run_check}
use Rattle.lines.specs.{declared.Page.Page, Pages.text_of}
use Rattle.lines.proofs.Growing.{text-is}
use Rattle.lines.proofs.marks_line.Reads as marks-line
use Rattle.bars.specs.Bars.{row_shown, idle_shown, bars_text}
use Rattle.bars.proofs.Whole.{bars-whole}
use Rattle.bars.proofs.head_shown.Reads as head-shown
use Rattle.bars.proofs.row_shown.Reads as row-shown
use Rattle.bars.proofs.idle_shown.Reads as idle-shown
use Rattle.bars.proofs.cut_shown.Reads as cut-shown
use Rattle.promise.proofs.Whiteboard.{pages-same}
use contract.Lifetimes.{Lfts}

-- the pages of the bars are the whole text: the days, the rows by place, what the marks mean, the shared columns, the end
module _ (κs : Lfts 0) (p : Plan) (rs : Releases) (head marks cut : Page) (rows idle : ℕ → Page) (c d e : _) (f g : ℕ → _)
    (headed : head-shown.Learnt κs (p, (rs, tt)) head c) (placed : (i : ℕ) → row-shown.Learnt κs (p, (rs, (i, tt))) (rows i) (f i))
    (marked : marks-line.Learnt κs tt marks d) (shared : (k : ℕ) → idle-shown.Learnt κs (p, (rs, (k, tt))) (idle k) (g k))
    (ended : cut-shown.Learnt κs (p, (rs, tt)) cut e) where
  pub draws-bars : run_check p rs ≡ Lawful
      → text_of head
      ++ flat_map (λ i. text_of (rows i)) (up_from 1 p.n)
      ++ text_of marks
      ++ flat_map (λ k. text_of (idle k)) (up_from 1 70)
      ++ text_of cut
      ≡ bars_text p rs
  draws-bars lawful =
      let by_place = pages-same rows (row_shown p rs) (λ i. text-is (rows i) _ (placed i)) (up_from 1 p.n) in
      let by-column = pages-same idle (idle_shown p rs) (λ k. text-is (idle k) _ (shared k)) (up_from 1 70) in
      rw (text-is head _ headed, by_place, text-is marks _ marked, by-column, text-is cut _ ended) (bars-whole p rs lawful)
