-- The crew's board, of what the code answered: the number of `board_read`'s refusal, or the pages of `board_page` in a row and the line of
-- `board_end`, are all that is to be written for a plan file and an input.
use Rattle.base.proofs.Prelude.{ℕ, ◌≤◌, ◌≡◌, refl, sym, ap, ◌∙◌, subst, List, ◌++◌, length, take, take_at}
use Rattle.std.specs.Prelude.{Result, Ok, Err}
use Rattle.faults.specs.Checks.{Refused, Lawful, Checked}
use Rattle.faults.specs.declared.Refusal.{Refusal}
use Rattle.faults.proofs.Checks.{err-not-ok}
use contract.Lifetimes.{Lfts}
use Rattle.faults.specs.Checks.{then, or_refused}
use Rattle.calendar.specs.Numbers.{last_day}
use Rattle.rules.specs.Text.{reading_of}
use Rattle.lines.specs.Board.{number_line}
use Rattle.lines.proofs.Putting.{room}
use Rattle.boards.specs.{declared.Board.Board, declared.Filled.Filled, Input.input_reading, Paging.{page_text, page_filled, pages_from}, Whole.{Given, board_in, board_reading, board_text, end_text}}
use Rattle.boards.proofs.InPages.{only-these, board-in-pages, end_fits}
use Rattle.boards.proofs.board_read.Reads as board-read
use Rattle.boards.proofs.board_page.Reads as board-page
use Rattle.boards.proofs.board_end.Reads as board-end

-- what is to be written: the number of a refusal, or what is made of the board
pub written_for : Result Board Refusal → (Board → List ℕ) → List ℕ
written_for (Ok b) made = made b
written_for (Err e) made = number_line e.fault

-- why there is no board
abbrev pub refusal_of : Result Board Refusal → Checked
refusal_of (Ok b) = Lawful
refusal_of (Err e) = Err e

written-given : (g : Given) (made : Board → List ℕ)
    → written_for (board_in g) made ≡ or_refused (λ f at. number_line f) g.checked (made g.board)
unfolding written_for
written-given g made = go g.checked
  where
    go : (c : Checked) → written_for (or_refused Refused c (Ok g.board)) made ≡ or_refused (λ f at. number_line f) c (made g.board)
    go (Ok _) = refl
    go (Err e) = refl

refusal-given : (g : Given) → refusal_of (board_in g) ≡ g.checked
refusal-given g = go g.checked
  where
    go : (c : Checked) → refusal_of (or_refused Refused c (Ok g.board)) ≡ c
    go (Ok _) = refl
    go (Err e) = refl

board-given : (g : Given) (b : Board) → board_in g ≡ Ok b → (g.checked ≡ Lawful) × (g.board ≡ b)
board-given g b h = go g.checked h
  where
    go : (c : Checked) → or_refused Refused c (Ok g.board) ≡ Ok b → (c ≡ Lawful) × (g.board ≡ b)
    go (Ok _) e = (refl, cc)
    go (Err f) e = absurd (err-not-ok f b e)

module _ (κs : Lfts 3) (a : _) (e : _) (r : Result Board Refusal) (h : board-read.Learnt κs a r e) (enough : 15005 ≤ length a.1.1.0.now)
  where
    abbrev given : Given
    given = board_reading a.0.now a.1.0.now (length a.1.1.0.now)

    pub board-all-written : (room n : ℕ) → 600 ≤ room → last_day ≤ n
        → written_for r (λ b. pages_from n b e.1.1.0.now room 0 ++ end_text b.start.0 b.outcome)
        ≡ board_text a.0.now a.1.0.now
    board-all-written room n large many =
        rw (h.0, h.1.0, written-given given)
        (board-in-pages a.0.now a.1.0.now a.1.1.0.now enough room n large many)

    -- nothing but the plan and the input is refused
    pub board-refused-by : refusal_of r
        ≡ then (reading_of a.0.now).checked (input_reading (reading_of a.0.now).plan.run.0 a.1.0.now).checked
    board-refused-by = ap refusal_of h.0 ∙ refusal-given given ∙ only-these a.0.now a.1.0.now a.1.1.0.now enough

    pub board-end-short : (b : Board) → r ≡ Ok b → length (end_text b.start.0 b.outcome) ≤ 600
    board-end-short b is =
        let parts = board-given given b (sym h.0 ∙ is) in
        subst (λ (x : Board). length (end_text x.start.0 x.outcome) ≤ 600) parts.1
        (end_fits a.0.now a.1.0.now a.1.1.0.now enough parts.0)

-- what a page holds
pub page-holds : (κs : Lfts 2) (a : _) (e : _) (r : Filled) → board-page.Learnt κs a r e
    → (r.days ≡ (page_filled a.0 a.1.0.now a.1.1.0.0 (length a.1.1.1.0.now)).days)
    × (take r.length e.1.1.1.0.now ≡ page_text a.0 a.1.0.now a.1.1.0.0 (length a.1.1.1.0.now))
unfolding page_filled
page-holds κs a e r h =
    let text = page_text a.0 a.1.0.now a.1.1.0.0 (length a.1.1.1.0.now) in (
      ap (λ (f : Filled). f.days) h.0,
      ap (take r.length) h.1.0 ∙ take_at text _ r.length (sym (ap (λ (f : Filled). f.length) h.0)),
    )

-- and behind the last
pub end-holds : (κs : Lfts 1) (a : _) (e : _) (r : ℕ) → board-end.Learnt κs a r e
    → length (end_text a.0.start.0 a.0.outcome) ≤ length a.1.0.now
    → take r e.1.0.now ≡ end_text a.0.start.0 a.0.outcome
end-holds κs a e r h fits =
    let text = end_text a.0.start.0 a.0.outcome in
    let told = room text a.1.0.now fits in
    let long : length text ≡ r = told.0 ∙ sym h.0 in
    ap (take r) (h.1 ∙ sym told.1) ∙ take_at text _ r long
