-- the first place left that breaks the rule is the first of all
use Rattle.std.proofs.Common.{◌≡◌, ◌+◌, [], ◌∷◌}
use Rattle.rules.specs.Plan.{strings_of}
use Rattle.tries.specs.Tries.{break_at, is_broken}
use Rattle.tries.proofs.Searching.{Left}
use Rattle.tries.proofs.breaks.blocker_at.Given as goal

abbrev pub invariant-loop-i : goal.invariant-loop-i
invariant-loop-i l =
    record {
      counted : l.s-items ≡ strings_of l.fn.p;
      left : Left (is_broken l.fn.p) (λ q. break_at l.l l.b q ∷ []) l.fn.p.n (l.i + 1);
    }
