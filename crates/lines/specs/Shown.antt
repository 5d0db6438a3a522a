-- The lines of a plan that is shown, in decimal words, as bytes. Each ends by one byte 0a. Letters are document 01's.
--     plan_line n run        plan strings n run N
--     permission x          whether a string's jobs may take the bank
--     late_words j           late j, for a string's late days; nothing where it has none
--     string_line i s e      string i may take T t C c D d late j moving a E e; `may not take` where X of s is not 1. i is its place,
--                           from 1
--     load_line h load       H h load l of h
--     due_words t d          due d, for a release's due day; nothing where it is the release day t
--     release_line k r       release k day t due d string i need w; k is its place in the list, from 1
use Rattle.std.specs.Prelude.{ℕ, cond, List, [], ◌∷◌, ◌++◌, eqb}
use Rattle.rules.specs.declared.BatteryString.{BatteryString}
use Rattle.rules.specs.declared.Release.{Release}
use Rattle.rules.specs.Lines.{bytes_of, decimal, worded}

unfoldable pub plan_line : ℕ → ℕ → List ℕ
plan_line n run = worded "plan strings # run #\n" (decimal n ∷ decimal run ∷ [])

unfoldable pub permission : ℕ → List ℕ
permission x = cond (eqb x 1) (bytes_of "may take") (bytes_of "may not take")

unfoldable pub late_words : ℕ → List ℕ
late_words j = cond (eqb j 0) [] (bytes_of " late " ++ decimal j)

unfoldable pub string_line : ℕ → BatteryString → ℕ → List ℕ
string_line i s e =
    worded "string # # T # C # D ## moving # E #\n"
    (decimal i ∷ permission s.x ∷ decimal s.t.0 ∷ decimal s.c.0 ∷ decimal s.d.0 ∷ late_words s.j.0 ∷ decimal s.a.0
    ∷ decimal e ∷ [])

unfoldable pub load_line : ℕ → ℕ → List ℕ
load_line h load = worded "H # load # of #\n" (decimal h ∷ decimal load ∷ decimal h ∷ [])

unfoldable pub due_words : ℕ → ℕ → List ℕ
due_words t d = cond (eqb d t) [] (bytes_of " due " ++ decimal d)

unfoldable pub release_line : ℕ → Release → List ℕ
release_line k r =
    worded "release # day ## string # need #\n"
    (decimal k ∷ decimal r.day.0 ∷ due_words r.day.0 r.due.0 ∷ decimal r.place ∷ decimal r.need.0 ∷ [])
