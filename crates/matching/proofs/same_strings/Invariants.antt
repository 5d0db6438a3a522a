-- the strings passed have their partners' places
use Rattle.matching.proofs.Passed.{Passed}
use Rattle.matching.proofs.same_strings.Given as goal

abbrev pub invariant-loop-i : goal.invariant-loop-i
invariant-loop-i l = Passed l.firsts l.seconds l.places l.i
