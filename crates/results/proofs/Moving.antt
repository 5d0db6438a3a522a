-- A permission set goes along with its strings: where two strings change places, so do their binary digits. The number that comes out has
-- as many ones, and the strings with it are those with the old set, in the other order.
--     Moved n m xs ys       a set of n places under which the strings ys are xs under the set m, in another order
--     crossed m             the set m with its two lowest digits in each other's place
use Rattle.base.proofs.Prelude.{ℕ, zero, suc, ◌+◌, ◌*◌, ◌/◌, ◌%◌, ◌^◌, ◌≤◌, ◌<◌, ◌≡◌, refl, sym, ap, ◌∙◌, List, ◌∷◌, arith, pow-suc, mod-eq_of_lt, ones, length, length-take}
use mathlib.Core.Path.{ap₂}
use native.Mathlib.Nat.{zero-add, add_left_comm, div-eq_of_lt, add-mul-div_left, add-mul-mod_self_left}
use lib.Count.{ones_step}
use Rattle.rules.specs.{declared.BatteryString.BatteryString, declared.Plan.Plan, Plan.strings_of, Search.{permit, with_set}}
use Rattle.demand.proofs.Sets.{permitted, with_set-strings}
use Rattle.results.specs.Order.{Permuted, same, skip, swap, chain, Reordered, CarriedSet}
use Rattle.results.proofs.Permuted.{length-permuted}

-- ---- The lowest digit

pub digit-le : (m : ℕ) → m % 2 ≤ 1
digit-le m = omega arith

half-below : (n m : ℕ) → m < 2 ^ suc n → m / 2 < 2 ^ n
half-below n m h = omega (arith, pow-suc 2 n)

pub permit-first : (m : ℕ) (s : BatteryString) (ss : List BatteryString) → permit m (s ∷ ss) ≡ permitted s (m % 2) ∷ permit (m / 2) ss
unfolding permit
permit-first m s ss = refl

-- the digit x below those of k
module _ (x k : ℕ) (digit : x ≤ 1) where
  pub lowest : (x + 2 * k) % 2 ≡ x
  lowest =
      let small : x < 2 = omega arith in
      add-mul-mod_self_left x 2 k ∙ mod-eq_of_lt small

  pub higher : (x + 2 * k) / 2 ≡ k
  higher =
      let small : x < 2 = omega arith in
      let two : 0 < 2 = omega arith in
      add-mul-div_left x k two ∙ ap (λ n. n + k) (div-eq_of_lt small) ∙ zero-add k

  pub joined-below : (n : ℕ) → k < 2 ^ n → x + 2 * k < 2 ^ suc n
  joined-below n h = omega (arith, pow-suc 2 n)

  joined-ones : ones (x + 2 * k) ≡ x + ones k
  joined-ones = ones_step (x + 2 * k) ∙ ap₂ (λ a b. a + ones b) lowest higher

  pub joined-permit : (s : BatteryString) (ss : List BatteryString) → permit (x + 2 * k) (s ∷ ss) ≡ permitted s x ∷ permit k ss
  joined-permit s ss = permit-first (x + 2 * k) s ss ∙ ap₂ (λ a b. permitted s a ∷ permit b ss) lowest higher

-- ---- The two lowest digits

abbrev crossed : ℕ → ℕ
crossed m = m / 2 % 2 + 2 * (m % 2 + 2 * (m / 2 / 2))

crossed-below : (n m : ℕ) → m < 2 ^ suc (suc n) → crossed m < 2 ^ suc (suc n)
crossed-below n m h =
    joined-below (m / 2 % 2) (m % 2 + 2 * (m / 2 / 2)) (digit-le (m / 2)) (suc n)
    (joined-below (m % 2) (m / 2 / 2) (digit-le m) n (half-below n (m / 2) (half-below (suc n) m h)))

crossed-ones : (m : ℕ) → ones (crossed m) ≡ ones m
crossed-ones m =
    joined-ones (m / 2 % 2) (m % 2 + 2 * (m / 2 / 2)) (digit-le (m / 2))
    ∙ ap (λ k. m / 2 % 2 + k) (joined-ones (m % 2) (m / 2 / 2) (digit-le m))
    ∙ add_left_comm (m / 2 % 2) (m % 2) (ones (m / 2 / 2))
    ∙ sym (ones_step m ∙ ap (λ k. m % 2 + k) (ones_step (m / 2)))

module _ (m : ℕ) (s t : BatteryString) (ss : List BatteryString) where
  permit-two : permit m (s ∷ t ∷ ss) ≡ permitted s (m % 2) ∷ permitted t (m / 2 % 2) ∷ permit (m / 2 / 2) ss
  permit-two = permit-first m s (t ∷ ss) ∙ ap (λ rest. permitted s (m % 2) ∷ rest) (permit-first (m / 2) t ss)

  permit-crossed : permit (crossed m) (t ∷ s ∷ ss) ≡ permitted t (m / 2 % 2) ∷ permitted s (m % 2) ∷ permit (m / 2 / 2) ss
  permit-crossed =
      joined-permit (m / 2 % 2) (m % 2 + 2 * (m / 2 / 2)) (digit-le (m / 2)) t (s ∷ ss)
      ∙ ap (λ rest. permitted t (m / 2 % 2) ∷ rest) (joined-permit (m % 2) (m / 2 / 2) (digit-le m) s ss)

-- ---- A set moved

record Moved (n m : ℕ) (xs ys : List BatteryString) : Type 0 where
  number : ℕ
  below : number < 2 ^ n
  as_many : ones number ≡ ones m
  strings : Permuted (permit m xs) (permit number ys)

skip-moved : (s : BatteryString) (xs ys : List BatteryString) (n m : ℕ) → Moved n (m / 2) xs ys → Moved (suc n) m (s ∷ xs) (s ∷ ys)
skip-moved s xs ys n m rest =
    record {
      number = m % 2 + 2 * rest.number;
      below = joined-below (m % 2) rest.number (digit-le m) n rest.below;
      as_many = joined-ones (m % 2) rest.number (digit-le m) ∙ ap (λ k. m % 2 + k) rest.as_many ∙ sym (ones_step m);
      strings = rw (permit-first m s xs, joined-permit (m % 2) rest.number (digit-le m) s ys)
          (skip (permitted s (m % 2)) rest.strings);
    }

swap-moved : (s t : BatteryString) (ss : List BatteryString) (n m : ℕ) → m < 2 ^ suc (suc n)
    → Moved (suc (suc n)) m (s ∷ t ∷ ss) (t ∷ s ∷ ss)
swap-moved s t ss n m h =
    record {
      number = crossed m;
      below = crossed-below n m h;
      as_many = crossed-ones m;
      strings = rw (permit-two m s t ss, permit-crossed m s t ss)
          (swap (permitted s (m % 2)) (permitted t (m / 2 % 2)) (permit (m / 2 / 2) ss));
    }

moved : {xs ys : List BatteryString} → Permuted xs ys → (n m : ℕ) → length xs ≤ n → m < 2 ^ n → Moved n m xs ys
moved same n m fits h = record { number = m; below = h; as_many = refl; strings = same }
moved (skip s r) zero m fits h = absurd (omega arith)
moved (skip s {xs = xs} {ys = ys} r) (suc n) m fits h = skip-moved s xs ys n m (moved r n (m / 2) (omega arith) (half-below n m h))
moved (swap s t ss) zero m fits h = absurd (omega arith)
moved (swap s t ss) (suc zero) m fits h = absurd (omega arith)
moved (swap s t ss) (suc (suc n)) m fits h = swap-moved s t ss n m h
moved (chain r s) n m fits h =
    let first = moved r n m fits h in
    let second = moved s n first.number (omega (arith, length-permuted r)) first.below in
    record {
      number = second.number;
      below = second.below;
      as_many = second.as_many ∙ first.as_many;
      strings = chain first.strings second.strings;
    }

-- ---- The plan with a set

module _ (p q : Plan) (r : Reordered p q) where
  -- strings that are the same under two sets, but for their order, make plans that are
  reordered-with : (m k : ℕ) → Permuted (permit m (strings_of p)) (permit k (strings_of q)) → Reordered (with_set p m) (with_set q k)
  unfolding with_set
  reordered-with m k move =
      record { same_n = r.same_n; strings = rw (with_set-strings p m, with_set-strings q k) move }

  -- every set is carried along to the other order
  pub carry-set : (m : ℕ) → m < 2 ^ p.n → CarriedSet p q m
  carry-set m h =
      let there = moved r.strings p.n m (omega (arith, length-take p.n p.strings)) h in
      let sets : 2 ^ q.n ≡ 2 ^ p.n = ap (λ n. 2 ^ n) r.same_n in
      record {
        set = there.number;
        below = omega (arith, there.below);
        as_many = there.as_many;
        order = reordered-with m there.number there.strings;
      }
