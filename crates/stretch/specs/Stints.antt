-- What a list of stints is, said without making it.
--     spelled ss            the uses of the days of ss, day by day
--     Following t ss        each stint has a day at least and starts where the one before it ended, the first on day t
--     Differing ss          of two stints that follow each other, the bank did another thing in the second
--     LiesIn t s            day t is one of the days of the stint s
--     InOne ss t u          day t lies in exactly one stint of ss, and the bank did u in it
use Rattle.std.specs.Prelude.{ℕ, ◌+◌, ◌≤◌, ◌<◌, ◌≡◌, length, get_or, replicate}
use mathlib.Core.List.{List, [], ◌∷◌, flat_map}
use Rattle.rules.specs.declared.Use.{Use}
use Rattle.rules.specs.declared.Use.TheVariants.{Idle}
use Rattle.rules.specs.declared.Stint.{Stint}
use Rattle.rules.specs.Stints.{stint}

unfoldable pub spelled : List Stint → List Use
spelled ss = flat_map (λ s. replicate s.length.0 s.used) ss

abbrev pub Following : ℕ → List Stint → Type 0
Following t [] = Unit {0}
Following t (s ∷ ss) = (s.first.0 ≡ t) × (1 ≤ s.length.0) × Following (t + s.length.0) ss

abbrev pub Differing : List Stint → Type 0
Differing [] = Unit {0}
Differing (s ∷ []) = Unit {0}
Differing (s ∷ r ∷ ss) = (s.used ≡ r.used → ⊥) × Differing (r ∷ ss)

pub record LiesIn (t : ℕ) (s : Stint) : Type 0 where
  pub since : s.first.0 ≤ t
  pub before : t < s.first.0 + s.length.0

abbrev pub no_stint : Stint
no_stint = stint 0 0 Idle

pub record InOne (ss : List Stint) (t : ℕ) (u : Use) : Type 0 where
  pub index : ℕ
  pub within : index < length ss
  pub lies : LiesIn t (get_or ss index no_stint)
  pub did : (get_or ss index no_stint).used ≡ u
  pub only : (i : ℕ) → i < length ss → LiesIn t (get_or ss i no_stint) → i ≡ index
