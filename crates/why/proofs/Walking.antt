-- A lawful plan, string after string: what the loops remember.
--     WhyAsked p l b sum i       what the first i strings ask, and the blocking, is the sum
--     Longest p l most i      no job of the first i strings blocks for longer than `most`, and one for as long
--     WhyBehind p l most i       none of the first i strings blocks for `most`
use Rattle.base.proofs.Prelude.{ℕ, zero, suc, ◌+◌, ◌*◌, ◌≤◌, ◌<◌, ◌≡◌, max, refl, sym, ap, ◌∙◌, List, [], ◌∷◌, arith, add-one, dec_le, not-suc-le-zero, le_of_suc-le-suc, length, take, take_all, get_or, get_or-take, length-take-le}
use Rattle.base.specs.Count.{sum_of, largest}
use Rattle.base.proofs.Lists.{all-at, sum_of-take-suc}
use Rattle.rules.specs.{declared.BatteryString.BatteryString, Plan.{strings_of, no_string}, Demand.{need, demand, blocker_hold}}
use Rattle.laws.proofs.Lawful.{PlanString, plan-strings, plan_check-lawful}
use Rattle.verdict.specs.inner.Asked.{Ready}
use Rattle.why.specs.{declared.checked.CheckedPlan.CheckedPlan, Shares.blocker_place}
use Rattle.why.proofs.{Shares.share-small, LongestBlock.{place_found, place_none}}

pub ready : (c : CheckedPlan) → Ready c.plan
ready c = record { lawful = plan_check-lawful c.plan c.lawful; ten = c.ten }

largest-take : (f : BatteryString → ℕ) (ss : List BatteryString) (i : ℕ) → i < length ss
    → largest f (take (suc i) ss) ≡ max (f (get_or ss i no_string)) (largest f (take i ss))
unfolding largest
largest-take f [] i h = absurd (not-suc-le-zero h)
largest-take f (s ∷ ss) zero h = omega arith
largest-take f (s ∷ ss) (suc i) h =
    let rest = largest-take f ss i (le_of_suc-le-suc h) in
    omega arith

module _ (c : CheckedPlan) where
  abbrev ss : List BatteryString
  ss = strings_of c.plan

  pub why-strings-few : length (strings_of c.plan) ≤ 10
  why-strings-few = omega
      (arith, length-take-le c.plan.n c.plan.strings (omega (arith, c.ten, (ready c).lawful.n_max)), (ready c).lawful.n_max)

  pub strings-all : length (strings_of c.plan) ≡ c.plan.n
  strings-all = length-take-le c.plan.n c.plan.strings (omega (arith, c.ten, (ready c).lawful.n_max))

  pub why-string-there : (i : ℕ) → i < length (strings_of c.plan) → PlanString c.plan (get_or (strings_of c.plan) i no_string)
  why-string-there i h = all-at (PlanString c.plan) ss no_string (plan-strings c.plan (ready c).lawful) i h

  -- ---- The demand

  pub record WhyAsked (l b sum i : ℕ) : Type 0 where
    pub within : i ≤ length (strings_of c.plan)
    pub so_far : sum ≡ b + sum_of (need c.plan l b) (take i (strings_of c.plan))
    pub small : sum ≤ b + 8589934590000 * i

  pub why-asked-none : (l b : ℕ) → WhyAsked l b b 0
  unfolding sum_of
  why-asked-none l b = record { within = omega arith; so_far = omega arith; small = omega arith }

  pub ask-small : (l b i asks : ℕ) → i < length (strings_of c.plan) → l ≤ 4294967295
      → asks ≡ need c.plan l b (get_or (strings_of c.plan) i no_string) → asks ≤ 8589934590000
  ask-small l b i asks inside few is = omega (arith, share-small c.plan l b _ (why-string-there i inside) few)

  pub why-asked-next : (l b sum i asks : ℕ) → WhyAsked l b sum i → i < length (strings_of c.plan) → l ≤ 4294967295
      → asks ≡ need c.plan l b (get_or (strings_of c.plan) i no_string) → WhyAsked l b (sum + asks) (i + 1)
  why-asked-next l b sum i asks w inside few is =
      record {
        within = omega arith;
        so_far = omega (
          arith,
          w.so_far,
          ap (λ k. sum_of (need c.plan l b) (take k ss)) (add-one i),
          sum_of-take-suc (need c.plan l b) ss no_string i inside,
        );
        small = omega (arith, w.small, ask-small l b i asks inside few is);
      }

  pub asked-all : (l b sum i : ℕ) → WhyAsked l b sum i → length (strings_of c.plan) ≤ i → sum ≡ demand c.plan l b
  unfolding demand
  asked-all l b sum i w past = w.so_far ∙ ap (λ xs. b + sum_of (need c.plan l b) xs) (take_all i ss past)

  -- ---- The longest blocking

  pub record Longest (l most i : ℕ) : Type 0 where
    pub within : i ≤ length (strings_of c.plan)
    pub so_far : most ≡ largest (blocker_hold c.plan l) (take i (strings_of c.plan))

  pub longest-none : (l : ℕ) → Longest l 0 0
  unfolding largest
  longest-none l = record { within = omega arith; so_far = refl }

  pub longest-next : (l most i hold next : ℕ) → Longest l most i → i < length (strings_of c.plan)
      → hold ≡ blocker_hold c.plan l (get_or (strings_of c.plan) i no_string) → next ≡ max hold most → Longest l next (i + 1)
  longest-next l most i hold next w inside is larger =
      record {
        within = omega arith;
        so_far = omega (
          arith,
          w.so_far,
          ap (λ k. largest (blocker_hold c.plan l) (take k ss)) (add-one i),
          largest-take (blocker_hold c.plan l) ss i inside,
        );
      }

  pub longest-all : (l most i : ℕ) → Longest l most i → length (strings_of c.plan) ≤ i → most
      ≡ largest (blocker_hold c.plan l) (strings_of c.plan)
  longest-all l most i w past = w.so_far ∙ ap (largest (blocker_hold c.plan l)) (take_all i ss past)

  -- ---- The first that blocks for longest

  abbrev most_of : ℕ → ℕ
  most_of l = largest (blocker_hold c.plan l) (strings_of c.plan)

  pub record WhyBehind (l most i : ℕ) : Type 0 where
    pub is : most ≡ largest (blocker_hold c.plan l) (strings_of c.plan)
    pub before : (j : ℕ) → j < i → blocker_hold c.plan l (get_or (strings_of c.plan) j no_string) ≡ most → ⊥

  pub behind-none : (l most : ℕ) → most ≡ largest (blocker_hold c.plan l) (strings_of c.plan) → WhyBehind l most 0
  behind-none l most e = record { is = e; before = λ j h. absurd (omega arith) }

  pub behind-next : (l most i hold : ℕ) → WhyBehind l most i → hold ≡ blocker_hold c.plan l (get_or (strings_of c.plan) i no_string)
      → (hold ≡ most → ⊥) → WhyBehind l most (i + 1)
  behind-next l most i hold w is other =
      record {
        is = w.is;
        before = λ j h same. elim (dec_le i j) [
          | yes here ↦
              let at : j ≡ i = omega arith in
              other (is ∙ ap (λ k. blocker_hold c.plan l (get_or ss k no_string)) (sym at) ∙ same)
          | no earlier ↦ w.before j (omega arith) same
        ];
      }

  in_row : (l i : ℕ) → i < c.plan.n
      → blocker_hold c.plan l (get_or ss i no_string) ≡ blocker_hold c.plan l (get_or c.plan.strings i no_string)
  in_row l i h = ap (blocker_hold c.plan l) (get_or-take c.plan.n c.plan.strings i no_string h)

  pub behind-found : (l most i hold : ℕ) → WhyBehind l most i → i < length (strings_of c.plan)
      → hold ≡ blocker_hold c.plan l (get_or (strings_of c.plan) i no_string) → hold ≡ most → i + 1 ≡ blocker_place c.plan l
  behind-found l most i hold w inside is same =
      place_found c.plan (ready c) l i (omega (arith, strings-all)) (sym (in_row l i (omega (arith, strings-all))) ∙ sym is ∙ same ∙ w.is)
      (λ j h e. w.before j h (in_row l j (omega (arith, strings-all)) ∙ e ∙ sym w.is))

  pub behind-all : (l most i : ℕ) → WhyBehind l most i → length (strings_of c.plan) ≤ i → c.plan.n + 1 ≡ blocker_place c.plan l
  behind-all l most i w past =
      place_none c.plan (ready c) l (λ j h e. w.before j (omega (arith, strings-all)) (in_row l j h ∙ e ∙ sym w.is))
