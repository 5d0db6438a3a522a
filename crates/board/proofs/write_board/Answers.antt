use Rattle.std.proofs.Common.{sym, length-take-le, arith}
use Rattle.board.proofs.Pages.{inside, days_left, told_inside}
use Rattle.board.proofs.write_board.Goals as goal

pub slice_bounds-page-end : goal.slice_bounds-page-end
slice_bounds-page-end c = inside _ _ _ _ _ _ _ c.board_page-filled.ensures.exact c.board_page-filled.ensures.page

pub slice_bounds-write-end : goal.slice_bounds-write-end
slice_bounds-write-end c =
    sym (length-take-le _ _ (inside _ _ _ _ _ _ _ c.board_page-filled.ensures.exact c.board_page-filled.ensures.page))

pub overflow_cast-from : goal.overflow_cast-from
overflow_cast-from c = omega (arith, days_left _ _ _ _ _ c.board_page-filled.ensures.exact)

pub overflow_add-from : goal.overflow_add-from
overflow_add-from c = omega (arith, days_left _ _ _ _ _ c.board_page-filled.ensures.exact, c.loop-from-test.true)

pub loop-from-preserved : goal.loop-from-preserved
loop-from-preserved c = omega (arith, days_left _ _ _ _ _ c.board_page-filled.ensures.exact, c.loop-from-test.true)

pub slice_bounds-page-end-2 : goal.slice_bounds-page-end-2
slice_bounds-page-end-2 c = told_inside _ _ _ _ c.board_end-n.ensures.exact c.board_end-n.ensures.page

pub slice_bounds-write-end-2 : goal.slice_bounds-write-end-2
slice_bounds-write-end-2 c = sym (length-take-le _ _ (told_inside _ _ _ _ c.board_end-n.ensures.exact c.board_end-n.ensures.page))
