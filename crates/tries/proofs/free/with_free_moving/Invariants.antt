-- the strings done, with those left as they will be, are the whole
use Rattle.std.proofs.Common.{map}
use Rattle.exact.specs.Missing.{moved_freely}
use Rattle.tries.proofs.Freed.{Changing}
use Rattle.tries.proofs.free.with_free_moving.Given as goal

abbrev pub invariant-loop-s : goal.invariant-loop-s
invariant-loop-s l = Changing 10 (λ i ss. map moved_freely ss) l.s-items (map moved_freely l.fn.p.strings) l.s-index
