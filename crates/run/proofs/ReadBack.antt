-- The numbers of stints, read back, are the stints.
use Rattle.base.proofs.Prelude.{ℕ, zero, suc, ◌+◌, ◌*◌, ◌/◌, ◌≤◌, ◌<◌, ◌≡◌, refl, sym, ap, ◌∙◌, List, [], ◌∷◌, ◌++◌, map, arith, not-suc-le-zero, le_of_suc-le-suc, lt-ltb, length, get_or, length-append}
use mathlib.Core.List.{flat_map}
use native.Mathlib.Nat.{le-div_iff_mul-le}
use lib.ListN.{get_or-append}
use lib.Seq.{get_or-append-add}
use Rattle.rules.specs.{declared.Use.Use, declared.Use.TheVariants.{Idle, Work, Move}, declared.Stint.Stint, Stints.{stint, kind_of, place_used, release_used, stint_numbers, stints_numbers}}
use Rattle.base.specs.Count.{up_from}
use Rattle.run.specs.Numbers.{use_in, stint_at}
use Rattle.run.proofs.Booking.{numbers-length}

use-back : (u : Use) → use_in (kind_of u) (place_used u) (release_used u) ≡ u
use-back Idle = refl
use-back (Work i k) = refl
use-back (Move i k) = refl

-- the numbers of the stint with index i
number_at : (ss : List Stint) (rest : List ℕ) (i j : ℕ) → i < length ss → j < 5
    → get_or (stints_numbers ss ++ rest) (5 * i + j) 0 ≡ get_or (stint_numbers (get_or ss i (stint 0 0 Idle))) j 0
unfolding stints_numbers flat_map
number_at [] rest i j h k = absurd (not-suc-le-zero h)
number_at (s ∷ ss) rest zero j h k =
    let at : 5 * 0 + j ≡ j = omega arith in
    ap (λ n. get_or (stint_numbers s ++ (stints_numbers ss ++ rest)) n 0) at
    ∙ get_or-append (stint_numbers s) (stints_numbers ss ++ rest) 0 j k
number_at (s ∷ ss) rest (suc i) j h k =
    let at : 5 * suc i + j ≡ 5 + (5 * i + j) = omega arith in
    ap (λ n. get_or (stint_numbers s ++ (stints_numbers ss ++ rest)) n 0) at
    ∙ get_or-append-add (stint_numbers s) (stints_numbers ss ++ rest) (5 * i + j) 0
    ∙ number_at ss rest i j (le_of_suc-le-suc h) k

pub read_back : (ss : List Stint) (rest : List ℕ) (i : ℕ) → i < length ss
    → stint_at (stints_numbers ss ++ rest) i ≡ get_or ss i (stint 0 0 Idle)
unfolding stint_at
read_back ss rest i h =
    let numbers = stints_numbers ss ++ rest in
    let s = get_or ss i (stint 0 0 Idle) in
    let room : suc i * 5 ≤ length numbers = omega (arith, length-append (stints_numbers ss) rest, numbers-length ss) in
    let five : 0 < 5 = omega arith in
    let inside : i < length numbers / 5 = (le-div_iff_mul-le {k = 5} {x = suc i} {y = length numbers} five).1 room in
    let first : 5 * i ≡ 5 * i + 0 = omega arith in
    let zeroth = ap (λ n. get_or numbers n 0) first ∙ number_at ss rest i 0 h (omega arith) in
    rw (
      lt-ltb i (length numbers / 5) inside,
      zeroth,
      number_at ss rest i 1 h (omega arith),
      number_at ss rest i 2 h (omega arith),
      number_at ss rest i 3 h (omega arith),
      number_at ss rest i 4 h (omega arith),
    )
    (ap (stint s.first.0 s.length.0) (use-back s.used))

-- all of them
all_from : (ss : List Stint) (f : ℕ → Stint) (k : ℕ) → ((i : ℕ) → i < length ss → f (k + i) ≡ get_or ss i (stint 0 0 Idle))
    → map f (up_from k (length ss)) ≡ ss
unfolding up_from
all_from [] f k h = refl
all_from (s ∷ ss) f k h =
    let here : k + 0 ≡ k = omega arith in
    rw (ap f (sym here) ∙ h 0 (omega arith), all_from ss f (suc k) (λ i l. ap f (shift i) ∙ h (suc i) (omega arith)))
  where
    shift : (i : ℕ) → suc k + i ≡ k + suc i
    shift i = omega arith

pub all-read-back : (ss : List Stint) (rest : List ℕ) → map (stint_at (stints_numbers ss ++ rest)) (up_from 0 (length ss)) ≡ ss
all-read-back ss rest =
    all_from ss (stint_at (stints_numbers ss ++ rest)) 0 (λ i h.
    ap (stint_at (stints_numbers ss ++ rest)) (same i) ∙ read_back ss rest i h)
  where
    same : (i : ℕ) → 0 + i ≡ i
    same i = omega arith
