-- The search (document 01, "The search"). A permission set is a number: place 1 is worth 1, place 2 is worth 2, place 3 is worth 4.
--     permit m ss           the strings ss with X from the number m: its lowest binary digit goes to the first, and so on
--     with_set p m           p with the permissions of the set m
--     set_passes p m         p passes with the set m
--     sets_of n k            the sets of n places with k ones, rising
--     ordered n             all 2^n sets: fewer ones first, among equals the smaller number first
--     search_of p            the first set of that order that passes
-- The X of the plan plays no part in the answer.
use Rattle.std.specs.Prelude.{ℕ, suc, ◌/◌, ◌%◌, ◌^◌, Bool, eqb}
use Rattle.std.specs.Prelude.{Some, None}
use Rattle.rules.specs.Found.{Assign}
use mathlib.Core.List.{List, [], ◌∷◌, flat_map}
use Rattle.std.proofs.Math.Option.{Option, none, some}
use Rattle.std.specs.Int.Count.{ones}
use Rattle.rules.specs.declared.BatteryString.{BatteryString}
use Rattle.rules.specs.declared.Plan.{Plan}
use Rattle.base.specs.Count.{up_from, keep, first_of}
use Rattle.rules.specs.Verdict.{verdict_of, is_pass}

unfoldable pub permit : ℕ → List BatteryString → List BatteryString
permit m [] = []
permit m (s ∷ ss) = record { t = s.t; c = s.c; d = s.d; x = m % 2; a = s.a; j = s.j } ∷ permit (m / 2) ss

unfoldable pub with_set : Plan → ℕ → Plan
with_set p m = record { n = p.n; run = p.run; strings = permit m p.strings }

unfoldable pub set_passes : Plan → ℕ → Bool
set_passes p m = is_pass (verdict_of (with_set p m))

unfoldable pub sets_of : ℕ → ℕ → List ℕ
sets_of n k = keep (λ m. eqb (ones m) k) (up_from 0 (2 ^ n))

unfoldable pub ordered : ℕ → List ℕ
ordered n = flat_map (sets_of n) (up_from 0 (suc n))

-- what is answered where a set is found, and where none is
abbrev pub assigned : Option ℕ → Assign
assigned none = None
assigned (some m) = Some m

abbrev pub first_passing : Plan → List ℕ → Assign
first_passing p ms = assigned (first_of (set_passes p) ms)

unfoldable pub search_of : Plan → Assign
search_of p = first_passing p (ordered p.n)
