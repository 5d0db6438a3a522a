-- Which strings can be charged, place by place, as the code asks it.
use Rattle.base.proofs.Prelude.{ℕ, zero, suc, ◌+◌, ◌-◌, ◌≤◌, ◌<◌, ◌≡◌, refl, sym, ap, ◌∙◌, subst, Bool, List, true, false, ◌&&◌, ◌∷◌, arith, eq-eqb, ne_eqb, leb, add-one, length, length-take, get_or, get_or-take, get_or-eq_default}
use Rattle.base.specs.Count.{any, up_from}
use Rattle.rules.specs.{declared.BatteryString.BatteryString, declared.Plan.Plan, Plan.{strings_of, string_at, no_string}, Demand.hold_of}
use Rattle.verdict.specs.inner.Asked.{Ready}
use Rattle.verdict.proofs.StringSums.{strings-count}
use Rattle.charging.specs.Payable.{least_due, least_hold, can_lose, chargeable, cost_if, costs_where, uncharged, rounds, payable}
use Rattle.charging.proofs.{Uncharged.{costs-length, uncharged-lawful}, Payable.payable-lawful}
use Rattle.tries.proofs.Places.{from, from-all, from_next, from-end}

-- ---- The places that are left

pub record TriesAsked (f : ℕ → Bool) (n k : ℕ) (said : Bool) : Type 0 where
  pub rest : any f (from k n) ≡ said

module _ {f : ℕ → Bool} {n k : ℕ} {said : Bool} (a : TriesAsked f n k said) where
  pub asked_here : k < n + 1 → f k ≡ true → true ≡ said
  unfolding any
  asked_here h t = sym (ap (any f) (from_next k n h) ∙ rw t) ∙ a.rest

  pub asked-next : k < n + 1 → f k ≡ false → TriesAsked f n (k + 1) said
  unfolding any
  asked-next h e = record { rest = sym (ap (any f) (from_next k n h) ∙ rw e) ∙ a.rest }

  pub tries-asked-none : n + 1 ≤ k → false ≡ said
  unfolding any
  tries-asked-none h = sym (ap (any f) (from-end k n h)) ∙ a.rest

-- ---- One place

module _ (p : Plan) (i : ℕ) where
  pub cannot-lose-own : (j : ℕ) → j ≡ i → can_lose p i j ≡ false
  unfolding can_lose
  cannot-lose-own j own = rw (eq-eqb j i own)

  pub can-lose-other : (j : ℕ) → (j ≡ i → ⊥)
      → can_lose p i j ≡ leb (least_due (string_at p i)) (string_at p j).d.0 && leb least_hold (hold_of p (string_at p j))
  unfolding can_lose
  can-lose-other j other = rw (ne_eqb j i other)

  -- no string stands there
  pub no-string-charged : p.n < i → chargeable p i ≡ false
  unfolding chargeable
  no-string-charged h =
      let none : string_at p i ≡ no_string =
      get_or-eq_default (strings_of p) no_string (omega (arith, length-take p.n p.strings)) in
      rw none

  pub keeper-charged : ((string_at p i).x ≡ 1 → ⊥) → chargeable p i ≡ false
  unfolding chargeable
  keeper-charged h = rw (ne_eqb (string_at p i).x 1 h)

  pub taker-charged : Ready p → (string_at p i).x ≡ 1 → TriesAsked (can_lose p i) p.n 1 (chargeable p i)
  unfolding chargeable
  taker-charged ready h =
      record {
        rest = ap (any (can_lose p i)) (from-all p.n)
            ∙ rw (eq-eqb (string_at p i).x 1 h, strings-count p ready);
      }

  -- the string at a place
  pub string-of : 1 ≤ i → i ≤ p.n → string_at p i ≡ get_or p.strings (i - 1) no_string
  string-of low high = get_or-take p.n p.strings (i - 1) no_string (omega arith)

-- ---- The costs, one after the other

pub costs-here : (f : ℕ → Bool) (i : ℕ) (s : BatteryString) (ss : List BatteryString)
    → costs_where f (i + 1) (s ∷ ss) ≡ cost_if (f (i + 1)) s ∷ costs_where f (i + 1 + 1) ss
unfolding costs_where
costs-here f i s ss = rw (add-one (i + 1))

-- ---- Round by round

-- the plan after a round is ready too
uncharged-ready : (p : Plan) → Ready p → Ready (uncharged p)
uncharged-ready p ready =
    record { lawful = uncharged-lawful p ready.lawful; ten = costs-length (chargeable p) 1 p.strings ∙ ready.ten }

-- so many rounds of n are done: those that are left make the payable plan
pub record Rounds (p left : Plan) (i : ℕ) : Type 0 where
  pub ready : Ready left
  pub made : rounds (p.n - i) left ≡ payable p

pub rounds_start : (p : Plan) → Ready p → Rounds p p 0
unfolding payable
rounds_start p ready =
    let all : p.n - 0 ≡ p.n = omega arith in
    record { ready = ready; made = rw all }

module _ {p left : Plan} {i : ℕ} (r : Rounds p left i) where
  pub rounds-next : i < p.n → (next : Plan) → next ≡ uncharged left → Rounds p next (i + 1)
  unfolding rounds
  rounds-next h next is =
      let more : p.n - i ≡ suc (p.n - (i + 1)) = omega arith in
      record {
        ready = subst Ready (sym is) (uncharged-ready left r.ready);
        made = ap (rounds (p.n - (i + 1))) is ∙ sym (ap (λ m. rounds m left) more) ∙ r.made;
      }

  pub rounds-end : p.n ≤ i → left ≡ payable p
  unfolding rounds
  rounds-end h =
      let none_left : p.n - i ≡ 0 = omega arith in
      sym (ap (λ m. rounds m left) none_left) ∙ r.made

rounds-ten : (k : ℕ) (p : Plan) → length p.strings ≡ 10 → length (rounds k p).strings ≡ 10
unfolding rounds
rounds-ten zero p ten = ten
rounds-ten (suc k) p ten = rounds-ten k (uncharged p) (costs-length (chargeable p) 1 p.strings ∙ ten)

pub payable-ready : (p : Plan) → Ready p → Ready (payable p)
unfolding payable
payable-ready p ready = record { lawful = payable-lawful p ready.lawful; ten = rounds-ten p.n p ready.ten }
