-- What a page holds lies within its room, and its days within the calendar.
use Rattle.base.proofs.Prelude.{ℕ, ◌-◌, ◌≤◌, ◌≡◌, ap, List, ◌++◌, arith, ltb, length, drop, length-append}
use Rattle.base.proofs.Lists.{by_bool}
use Rattle.boards.specs.{declared.Board.Board, declared.Filled.Filled, Paging.{page_text, page_filled}}
use Rattle.boards.proofs.Rows.{page-days}
use Rattle.lines.specs.Pages.{length_told, page_told}

pub inside : (b : Board) (list rest after : List ℕ) (t room : ℕ) (f : Filled) → f ≡ page_filled b list t room
    → after ≡ page_text b list t room ++ rest → f.length ≤ length after
unfolding page_filled
inside b list rest after t room f said is =
    omega (arith, ap (λ (g : Filled). g.length) said, ap length is, length-append (page_text b list t room) rest)

pub days_left : (b : Board) (list : List ℕ) (room t : ℕ) (f : Filled) → f ≡ page_filled b list t room → f.days ≤ 146097 - t
days_left b list room t f said = omega (arith, ap (λ (g : Filled). g.days) said, page-days b list room t)

pub told_inside : (text page after : List ℕ) (n : ℕ) → n ≡ length_told text page → after ≡ page_told text page → n ≤ length after
unfolding length_told page_told
told_inside text page after n long is =
    rw (long, is)
    (by_bool (ltb (length page) (length text))
    (λ t. rw t (omega arith))
    (λ f. rw f (omega (arith, length-append text (drop (length text) page)))))
