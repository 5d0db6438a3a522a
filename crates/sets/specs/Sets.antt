-- The permission sets of a plan in the search's order, and what is said of each: the text of `clerk sets`, and each of its lines as it is
-- asked for.
--     found_note a m         of a set m that passes, where the search found a: whether it is the one
--     miss_note k            of a plan that does not pass, where k is what `clerk miss` finds for it: a list misses, none does, or nothing
--                           is known
--     note_of p a m v        what stands behind the verdict v on p with the set m
--     asked_words p a m v    the line of the set m, where v is answered for it: the refusal's, or that of the set
--     set_words p a m        the same with what `quick_with` answers
--     set_shown p a k        the line of the k-th set, from 1; nothing where there is none
--     sets_text p            the whole text: every set of p, once, in the search's order, with what the search finds
use Rattle.std.specs.Prelude.{ℕ, cond, List, eqb}
use Rattle.faults.specs.declared.Refusal.{Refusal}
use Rattle.std.specs.Prelude.{Ok, Err, Result, Some, None}
use Rattle.rules.specs.Found.{Assign}
use Rattle.rules.specs.declared.Plan.{Plan}
use Rattle.rules.specs.declared.Verdict.{Verdict}
use Rattle.rules.specs.Verdict.{is_pass}
use Rattle.rules.specs.Search.{with_set, ordered, search_of}
use Rattle.rules.specs.Refusal.{plan_check}
use Rattle.rules.specs.Lines.{refused_line}
use Rattle.demand.specs.Quick.{quick_set_answer}
use Rattle.tries.specs.declared.Missing.{Missing}
use Rattle.tries.specs.declared.Missing.TheVariants as missing
use Rattle.tries.specs.Tries.{missing_answer}
use Rattle.lines.specs.declared.sets.SetNote.{SetNote}
use Rattle.lines.specs.declared.sets.SetNote.TheVariants.{Nothing, FewestTakers, Misses, NeverMisses}
use Rattle.lines.specs.Sets.{set_line}
use Rattle.showing.specs.Shown.{in_place, in_order, on_text}

unfoldable pub found_note : Assign → ℕ → SetNote
found_note (Some best) m = cond (eqb best m) FewestTakers Nothing
found_note None m = Nothing

unfoldable pub miss_note : Result Missing Refusal → SetNote
miss_note (Err e) = Nothing
miss_note (Ok missing.Passes) = Nothing
miss_note (Ok missing.Never) = NeverMisses
miss_note (Ok missing.NoneFound) = Nothing
miss_note (Ok missing.TooMany) = Misses
miss_note (Ok (missing.Found n rs)) = Misses

unfoldable pub note_of : Plan → Assign → ℕ → Verdict → SetNote
note_of p a m v =
    let beyond = miss_note (missing_answer (with_set p m)) in
    cond (is_pass v) (found_note a m) beyond

unfoldable pub asked_words : Plan → Assign → ℕ → Result Verdict Refusal → List ℕ
asked_words p a m (Err e) = refused_line e.fault e.at
asked_words p a m (Ok v) = set_line m v (note_of p a m v)

unfoldable pub set_words : Plan → Assign → ℕ → List ℕ
set_words p a m = asked_words p a m (quick_set_answer p m)

unfoldable pub set_shown : Plan → Assign → ℕ → List ℕ
set_shown p a k = on_text (plan_check p) (in_place (λ i m. set_words p a m) 0 (ordered p.n) k)

unfoldable pub sets_text : Plan → List ℕ
sets_text p = on_text (plan_check p) (in_order (λ i m. set_words p (search_of p) m) 1 (ordered p.n))
