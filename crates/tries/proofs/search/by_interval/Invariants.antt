-- the first that misses of the intervals left is the first of all
use Rattle.std.proofs.Common.{◌≡◌, ◌+◌, [], ◌∷◌}
use Rattle.rules.specs.Plan.{strings_of, string_at}
use Rattle.tries.specs.{Tries.misses_on, inner.Openings.try_of}
use Rattle.tries.proofs.Searching.{Left}
use Rattle.tries.proofs.search.by_interval.Given as goal

abbrev pub invariant-loop-s : goal.invariant-loop-s
invariant-loop-s l =
    record {
      counted : l.s-items ≡ strings_of l.fn.p;
      left : Left (misses_on l.fn.p) (λ j. try_of l.fn.o (string_at l.fn.p j).d.0 ∷ []) l.fn.p.n (l.s-index + 1);
    }
