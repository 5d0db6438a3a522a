-- Strings in another order (document 02, W-209), as the theory needs it, and what it is for two searches to agree. The same by places, as a
-- reader would say it, is in Places.
--     Permuted xs ys        ys are the elements of xs in another order: neighbours have changed places, any number of times
--     Reordered p q         q has the strings of p in another order, each with its own permission; N is each plan's own
--     CarriedSet p q m      a set of q under which each string has the permission that the set m of p gives it, and so as many takers
--     SameFault a b         the checks a and b both find nothing, or both find the same fault, perhaps at another place
--     AsManyTakers a b      neither search a nor b is refused: both say "none", or both find a set, with as many takers
use Rattle.std.specs.Prelude.{ℕ, ◌^◌, ◌<◌, ◌≡◌, List, ◌∷◌}
use Rattle.faults.specs.Checks.{Refused, Lawful, Checked}
use Rattle.faults.specs.declared.Refusal.{Refusal}
use Rattle.std.specs.Prelude.{Ok, Result, Some, None}
use Rattle.rules.specs.Found.{Assign}
use Rattle.std.specs.Int.Count.{ones}
use Rattle.faults.specs.declared.Fault.{Fault}
use Rattle.rules.specs.declared.Plan.{Plan}
use Rattle.rules.specs.Plan.{strings_of}
use Rattle.rules.specs.Search.{with_set}

module _ {ℓ} {A : Type ℓ} where
  pub data Permuted : List A → List A → Type ℓ where
    -- none has moved
    same : {xs : List A} → Permuted xs xs
    -- the first stays where it is
    skip : (x : A) {xs ys : List A} → Permuted xs ys → Permuted (x ∷ xs) (x ∷ ys)
    -- the first two have changed places
    swap : (x y : A) (xs : List A) → Permuted (x ∷ y ∷ xs) (y ∷ x ∷ xs)
    -- one change after another
    chain : {xs ys zs : List A} → Permuted xs ys → Permuted ys zs → Permuted xs zs

pub record Reordered (p q : Plan) : Type 0 where
  pub same_n : q.n ≡ p.n
  pub strings : Permuted (strings_of p) (strings_of q)

pub record CarriedSet (p q : Plan) (m : ℕ) : Type 0 where
  pub set : ℕ
  pub below : set < 2 ^ q.n
  pub as_many : ones set ≡ ones m
  pub order : Reordered (with_set p m) (with_set q set)

pub data AsManyTakers : Result Assign Refusal → Result Assign Refusal → Type 0 where
  nobody_both : AsManyTakers (Ok None) (Ok None)
  takers_both : (m k : ℕ) → ones k ≡ ones m → AsManyTakers (Ok (Some m)) (Ok (Some k))

pub data SameFault : Checked → Checked → Type 0 where
  both_lawful : SameFault Lawful Lawful
  both_refused : (f : Fault) (i j : ℕ) → SameFault (Refused f i) (Refused f j)
