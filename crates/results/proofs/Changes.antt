-- A change of one string alone is an easing: a string eased at its place, or dropped, and the others as they were.
use Rattle.base.proofs.Prelude.{ℕ, zero, suc, ◌≡◌, refl, List, [], ◌∷◌, ◌++◌, arith, le_refl, get_or, take, drop, set}
use Rattle.rules.specs.{declared.BatteryString.BatteryString, declared.Plan.Plan, Plan.{strings_of, no_string}}
use Rattle.results.specs.Easing.{Eased, EasedStrings, end, eased, dropped, EasedPlan}

-- ---- Strings

same_string : (s : BatteryString) → Eased s s
same_string s =
    record {
      work = le_refl s.c.0;
      apart = le_refl s.t.0;
      due = le_refl s.d.0;
      late = le_refl s.j.0;
      grown = λ more. absurd (omega arith);
      moving = le_refl s.a.0;
      permission = refl;
    }

same-strings : (ss : List BatteryString) → EasedStrings ss ss
same-strings [] = end
same-strings (s ∷ ss) = eased (same_string s) (same-strings ss)

-- one string changed, at place i from 0
eased-at : (ss : List BatteryString) (i : ℕ) (z new : BatteryString) → Eased (get_or ss i z) new → EasedStrings ss (set ss i new)
eased-at [] i z new easier = end
eased-at (s ∷ ss) zero z new easier = eased easier (same-strings ss)
eased-at (s ∷ ss) (suc i) z new easier = eased (same_string s) (eased-at ss i z new easier)

-- one string dropped
dropped-at : (ss : List BatteryString) (i : ℕ) → EasedStrings ss (take i ss ++ drop (suc i) ss)
dropped-at [] zero = end
dropped-at [] (suc i) = end
dropped-at (s ∷ ss) zero = dropped (same-strings ss)
dropped-at (s ∷ ss) (suc i) = eased (same_string s) (dropped-at ss i)

-- ---- Plans

module _ (p q : Plan) (i : ℕ) where
  -- q is p with the string at place i + 1 eased
  pub one-eased : (new : BatteryString) → Eased (get_or (strings_of p) i no_string) new → strings_of q ≡ set (strings_of p) i new
      → EasedPlan p q
  one-eased new easier changed = rw changed (eased-at (strings_of p) i no_string new easier)

  -- q is p without it
  pub one-dropped : strings_of q ≡ take i (strings_of p) ++ drop (suc i) (strings_of p) → EasedPlan p q
  one-dropped left = rw left (dropped-at (strings_of p) i)
