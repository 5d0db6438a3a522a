-- A plan that passes sharply has a payable plan that passes sharply: nothing but costs has changed, and no E is larger. So the payable plan
-- is all that has to be asked about.
use Rattle.base.proofs.Prelude.{ℕ, zero, suc, ◌-◌, ◌*◌, ◌≤◌, ◌≡◌, ap, ◌∙◌, arith, ℕ_discrete, mul-le-mul, le_refl, zero-le, eqb, length}
use Rattle.base.specs.Count.{up_from}
use Rattle.base.proofs.{Lists.{by_bool, sum_of-le}, Order.all_of}
use Rattle.rules.specs.{declared.BatteryString.BatteryString, declared.Plan.Plan, Plan.{strings_of, string_at}, Demand.{moving_cost, hold_of, jobs, need}}
use Rattle.laws.proofs.{Demand.{hold_of-work, need-taker, need-keeper}, ReleaseList.str}
use Rattle.sound.specs.Sharp.{need_but, demand_but, CanBlock, SharplyPasses}
use Rattle.exact.specs.Missing.{moved_freely}
use Rattle.exact.proofs.{Freely.{freely-hold, freely-jobs}, Exact.demand_but-nobody}
use Rattle.charging.specs.Payable.{chargeable, uncharged, rounds, payable}
use Rattle.charging.proofs.Uncharged.{uncharged-length, uncharged-kept, uncharged-freed, uncharged-hold}

-- with free moving a string asks for no more
freed-need : (q p : Plan) (l b : ℕ) (s : BatteryString) → need q l b (moved_freely s) ≤ need p l b s
freed-need q p l b s =
    elim (ℕ_discrete s.x 1) [
      | yes e ↦
          let less = mul-le-mul (le_refl (jobs s (l - b))) (hold_of-work p s) in
          let free : need q l b (moved_freely s) ≡ jobs s (l - b) * s.c.0 =
          need-taker q l b (moved_freely s) e ∙ rw (freely-hold q s, freely-jobs s (l - b)) in
          omega (arith, need-taker p l b s e)
      | no e ↦
          let free : need q l b (moved_freely s) ≡ jobs s l * s.c.0 =
          need-keeper q l b (moved_freely s) e ∙ rw (freely-jobs s l) in
          omega (arith, need-keeper p l b s e)
    ]

module _ (p : Plan) where
  round-need : (l b j : ℕ) → need (uncharged p) l b (str (uncharged p) j) ≤ need p l b (str p j)
  unfolding need hold_of moving_cost
  round-need l b j =
      by_bool (chargeable p (suc j))
      (λ t. rw (uncharged-kept p j t) (le_refl _))
      (λ f. rw (uncharged-freed p j f) (freed-need (uncharged p) p l b (str p j)))

  round-but : (l b q : ℕ) → demand_but (uncharged p) l b q ≤ demand_but p l b q
  unfolding demand_but need_but
  round-but l b q =
      let places = up_from 1 (length (strings_of p)) in
      let each =
      sum_of-le (need_but (uncharged p) l b q) (need_but p l b q) places
      (all_of (λ i. need_but (uncharged p) l b q i ≤ need_but p l b q i)
      (λ i.
      by_bool (eqb i q) (λ t. rw t zero-le) (λ f. rw f (round-need l b (i - 1)))) places) in
      rw (uncharged-length p) (omega arith)

  round-can : (l b q : ℕ) → CanBlock (uncharged p) l b q → CanBlock p l b q
  round-can l b q can =
      let due : (string_at (uncharged p) q).d.0 ≡ (string_at p q).d.0 =
      by_bool (chargeable p (suc (q - 1)))
      (λ t. ap (λ s. s.d.0) (uncharged-kept p (q - 1) t))
      (λ f. ap (λ s. s.d.0) (uncharged-freed p (q - 1) f)) in
      record {
        low = can.low;
        high = omega (arith, can.high, uncharged-length p);
        some = can.some;
        within = can.within;
        far = omega (arith, can.far);
        less = omega (arith, can.less, uncharged-hold p q);
      }

  round-sharply : SharplyPasses p → SharplyPasses (uncharged p)
  round-sharply sharp =
      record {
        unblocked = λ l pos.
            omega (
              arith,
              demand_but-nobody (uncharged p) l 0,
              demand_but-nobody p l 0,
              round-but l 0 0,
              sharp.unblocked l pos,
            );
        blocked = λ l b q can. omega (arith, round-but l b q, sharp.blocked l b q (round-can l b q can));
      }

rounds-sharply : (k : ℕ) (p : Plan) → SharplyPasses p → SharplyPasses (rounds k p)
unfolding rounds
rounds-sharply zero p sharp = sharp
rounds-sharply (suc k) p sharp = rounds-sharply k (uncharged p) (round-sharply p sharp)

pub payable-sharply : (p : Plan) → SharplyPasses p → SharplyPasses (payable p)
unfolding payable
payable-sharply p = rounds-sharply p.n p
