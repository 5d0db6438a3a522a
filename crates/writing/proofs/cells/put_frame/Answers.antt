-- There is room for the next cell and for the end, and what is written stands behind what stands already.
use Rattle.base.proofs.Prelude.{◌*◌, arith, length-drop}
use Rattle.writing.proofs.{Texts.{lent-part}, Frames.{stands-first, next-room, next-stands, end-stands, line-is}}
use Rattle.writing.proofs.cells.put_frame.Goals as goal

pub loop-cell-init : goal.loop-cell-init
loop-cell-init c = stands-first c.args.part.now c.args.cells.now

pub overflow_mul-at : goal.overflow_mul-at
overflow_mul-at c = let l = c.loop-cell in omega (arith, next-room _ _ _ _ _ l.invariant c.requires (omega arith))

pub slice_bounds-put_number-count : goal.slice_bounds-put_number-count
slice_bounds-put_number-count c = let l = c.loop-cell in omega (arith, next-room _ _ _ _ _ l.invariant c.requires (omega arith))

pub slice_bounds-put_number-start : goal.slice_bounds-put_number-start
slice_bounds-put_number-start c = let l = c.loop-cell in omega (arith, next-room _ _ _ _ _ l.invariant c.requires (omega arith))

pub put_number-requires-clause-room : goal.put_number-requires-clause-room
put_number-requires-clause-room c =
    let l = c.loop-cell in
    rw (lent-part (l.at * 2) l.part)
    (omega (arith, next-room _ _ _ _ _ l.invariant c.requires (omega arith), length-drop (l.at * 2) l.part))

pub overflow_add-at : goal.overflow_add-at
overflow_add-at c = let l = c.loop-cell in omega (arith, next-room _ _ _ _ _ l.invariant c.requires (omega arith))

pub loop-cell-preserved : goal.loop-cell-preserved
loop-cell-preserved c =
    next-stands _ _ _ _ _ c.loop-cell.invariant c.requires _ (omega arith) c.put_number.ensures.exact

pub returns : goal.returns
returns c =
    let l = c.loop-cell in
    let ended = end-stands _ _ _ _ _ l.invariant c.requires (omega arith) _ c.put_end.ensures.exact in
    record { exact = line-is _ _ _ _ _ l.invariant c.requires _ ended }
