-- What wrong programs say (document 01, "What the promises have to say").
--     Refuses s             a refusal, whatever its number and place
--     SaysPass s            pass, whatever the pair count
--     SaysFail s            fail or overload, whatever the values
--     WorksAtMost d s       a run that works on at most d days, and reports a miss, whatever its day and place, or ends clean
use Rattle.std.specs.Prelude.{ℕ, ◌≤◌, ◌≡◌}
use Rattle.rules.specs.Said.{Said, refused, overload, fail, pass, miss, clean}

abbrev pub Refuses : Said → Type 0
Refuses s = (number : ℕ) × ((at : ℕ) × (s ≡ refused number at))

abbrev pub SaysPass : Said → Type 0
SaysPass s = (pairs : ℕ) × (s ≡ pass pairs)

pub data SaysFail : Said → Type 0 where
  fails : (l b d k : ℕ) → SaysFail (fail l b d k)
  overloads : (k : ℕ) → SaysFail (overload k)

pub data WorksAtMost (d : ℕ) : Said → Type 0 where
  misses : (t i : ℕ) → WorksAtMost d (miss t i)
  ends : (w m i : ℕ) → w ≤ d → WorksAtMost d (clean w m i)
