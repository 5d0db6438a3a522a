-- The strings done, with those left as what is left of the number permits them, are the whole.
use Rattle.base.proofs.Prelude.{◌≡◌, ◌++◌, length, take, drop}
use Rattle.rules.specs.Search.{permit}
use Rattle.verdict.proofs.permissions.with_set.Given as goal

abbrev pub invariant-loop-s : goal.invariant-loop-s
invariant-loop-s l = record {
  size : length l.s-items ≡ 10;
  left : drop l.s-index l.s-items ≡ drop l.s-index l.fn.p.strings;
  done : take l.s-index l.s-items ++ permit l.rest (drop l.s-index l.fn.p.strings) ≡ permit l.fn.set l.fn.p.strings;
}
