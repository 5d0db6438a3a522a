-- What the bank did day by day, from the stints that a list of numbers says, one after the other.
--     stints_left list n i   the stints of the list from that with index i on, of n in all
use Rattle.base.proofs.Prelude.{ℕ, zero, suc, ◌+◌, ◌-◌, ◌≤◌, ◌<◌, ◌≡◌, refl, sym, ap, ◌∙◌, Bool, true, false, cond, List, [], ◌∷◌, ◌++◌, map, arith, add-one, min, length, length-replicate, get_or, take, replicate}
use mathlib.Core.List.{flat_map}
use lib.ListN.{get_or-append, get_or-replicate}
use lib.Seq.{get_or-append-add}
use Rattle.base.specs.Count.{count_of, up_from}
use Rattle.base.proofs.Lists.{by_bool}
use Rattle.rules.specs.{declared.Use.Use, declared.Use.TheVariants.Idle, declared.Stint.Stint}
use Rattle.stretch.specs.Stints.{spelled}
use Rattle.run.specs.Numbers.{stint_at}

unfoldable pub stints_left : List ℕ → ℕ → ℕ → List Stint
stints_left list n i = map (stint_at list) (up_from i (n - i))

pub stints-all : (list : List ℕ) (n : ℕ) → stints_left list n 0 ≡ map (stint_at list) (up_from 0 n)
unfolding stints_left
stints-all list n =
    let all : n - 0 ≡ n = omega arith in
    rw all

pub stints-none : (list : List ℕ) (n i : ℕ) → n ≤ i → spelled (stints_left list n i) ≡ []
unfolding stints_left up_from spelled flat_map
stints-none list n i h =
    let none : n - i ≡ 0 = omega arith in
    rw none

pub stints-next : (list : List ℕ) (n i : ℕ) → i < n
    → spelled (stints_left list n i) ≡ replicate (stint_at list i).length.0 (stint_at list i).used ++ spelled (stints_left list n (i + 1))
unfolding stints_left up_from spelled flat_map
stints-next list n i h =
    let one : n - i ≡ suc (n - suc i) = omega arith in
    rw (one, add-one i)

-- ---- The use of a day

module _ (n k : ℕ) (u : Use) (us : List Use) where
  pub day-within : k < n → get_or (replicate n u ++ us) k Idle ≡ u
  day-within h =
      get_or-append (replicate n u) us Idle k (omega (arith, length-replicate n u)) ∙ get_or-replicate n k u Idle h

  pub day-behind : n ≤ k → get_or (replicate n u ++ us) k Idle ≡ get_or us (k - n) Idle
  day-behind h =
      let behind : length (replicate n u) + (k - n) ≡ k = omega (arith, length-replicate n u) in
      ap (λ i. get_or (replicate n u ++ us) i Idle) (sym behind) ∙ get_or-append-add (replicate n u) us (k - n) Idle

-- ---- The days of a kind

count_none : (f : Use → Bool) (us : List Use) → count_of f (take 0 us) ≡ 0
unfolding count_of
count_none f [] = refl
count_none f (u ∷ us) = refl

pub count-stretch : (f : Use → Bool) (n k : ℕ) (u : Use) (us : List Use)
    → count_of f (take k (replicate n u ++ us)) ≡ cond (f u) (min k n) 0 + count_of f (take (k - min k n) us)
unfolding count_of
count-stretch f zero k u us =
    let none : min k 0 ≡ 0 = omega arith in
    let all : k - 0 ≡ k = omega arith in
    by_bool (f u) (λ t. rw (t, none, all) (omega arith)) (λ e. rw (e, none, all) (omega arith))
count-stretch f (suc n) zero u us =
    let none : min 0 (suc n) ≡ 0 = omega arith in
    let nothing = count_none f us in
    by_bool (f u) (λ t. rw (t, none) (omega (arith, nothing))) (λ e. rw (e, none) (omega (arith, nothing)))
count-stretch f (suc n) (suc k) u us =
    let rest = count-stretch f n k u us in
    let less : min (suc k) (suc n) ≡ suc (min k n) = omega arith in
    let left : suc k - suc (min k n) ≡ k - min k n = omega arith in
    by_bool (f u)
    (λ t. rw (t, less, left) (omega (arith, rw t at rest)))
    (λ e. rw (e, less, left) (omega (arith, rw e at rest)))

pub count-nothing : (f : Use → Bool) (k : ℕ) → count_of f (take k []) ≡ 0
unfolding count_of
count-nothing f zero = refl
count-nothing f (suc k) = refl

-- a share of days is no more than they are
pub share-most : (b : Bool) (n : ℕ) → cond b n 0 ≤ n
share-most true n = omega arith
share-most false n = omega arith
