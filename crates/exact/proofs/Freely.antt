-- The plan with free moving. Its demand: the blocking, and of each string C for every job in the days that are its own. A lawful plan stays
-- lawful; and where moving is free already, the rule is the plan's own.
use Rattle.base.proofs.Prelude.{ℕ, zero, suc, ◌+◌, ◌-◌, ◌*◌, ◌≤◌, min, ◌≡◌, refl, ap, ◌∙◌, sym, fun_ext, map, List, [], ◌∷◌, cond, ◌&&◌, arith, ℕ_discrete, zero-mul, eq-eqb, ne_eqb, leb, ltb, length, get_or, length-map}
use Rattle.days.specs.Days.{days}
use Rattle.rules.specs.{declared.BatteryString.BatteryString, declared.Plan.Plan, Plan.{strings_of, string_at, no_string, leeway, common_multiple, multiple_of, leeway_min, d_max}, Demand.{moving_cost, hold_of, jobs, need, demand, blocker_hold, block_limit, Passes}}
use Rattle.base.specs.Count.{sum_of, largest, smallest, every, least_from}
use Rattle.base.proofs.{Lists.{sum_of-eq, All, all_map}, Order.{all_of, take-map, all-mapped}, Adding.sum_of-mapped}
use Rattle.laws.proofs.{Demand.{need-taker, need-keeper}, Lawful.{LawfulString, LawfulPlan, multiple_of-pos, multiple_of-common, multiple_of-least, common_multiple-whole}}
use Rattle.exact.specs.Missing.{moved_freely, freely, delay_of, FreeMoving}

-- ---- The days that are not its own

pub delay_of-taker : (b : ℕ) (s : BatteryString) → s.x ≡ 1 → delay_of b s ≡ b
unfolding delay_of
delay_of-taker b s e = rw (eq-eqb s.x 1 e)

pub delay_of-keeper : (b : ℕ) (s : BatteryString) → (s.x ≡ 1 → ⊥) → delay_of b s ≡ 0
unfolding delay_of
delay_of-keeper b s e = rw (ne_eqb s.x 1 e)

pub delay_of-le : (b : ℕ) (s : BatteryString) → delay_of b s ≤ b
delay_of-le b s =
    elim (ℕ_discrete s.x 1) [ yes e ↦ omega (arith, delay_of-taker b s e) | no e ↦ omega (arith, delay_of-keeper b s e) ]

-- ---- The plan

pub freely-strings : (p : Plan) → strings_of (freely p) ≡ map moved_freely (strings_of p)
freely-strings p = take-map moved_freely p.n p.strings

pub freely-many : (p : Plan) → length (strings_of (freely p)) ≡ length (strings_of p)
freely-many p = ap length (freely-strings p) ∙ length-map (strings_of p) moved_freely

-- by place
pub freely-string : (p : Plan) (i : ℕ) → string_at (freely p) i ≡ moved_freely (string_at p i)
freely-string p i = ap (λ ss. get_or ss (i - 1) no_string) (freely-strings p) ∙ mapped (strings_of p) (i - 1)
  where
    mapped : (ss : List BatteryString) (k : ℕ) → get_or (map moved_freely ss) k no_string ≡ moved_freely (get_or ss k no_string)
    mapped [] k = refl
    mapped (s ∷ ss) zero = refl
    mapped (s ∷ ss) (suc k) = mapped ss k

pub freely-hold : (q : Plan) (s : BatteryString) → hold_of q (moved_freely s) ≡ s.c.0
unfolding hold_of moving_cost
freely-hold q s = omega (arith, zero-mul s.x)

pub freely-jobs : (s : BatteryString) (w : ℕ) → jobs (moved_freely s) w ≡ jobs s w
unfolding jobs
freely-jobs s w = refl

-- what s asks of an interval l, where moving is free
abbrev pub asks_of : ℕ → ℕ → BatteryString → ℕ
asks_of l b s = jobs s (l - delay_of b s) * s.c.0

pub freely-need : (q : Plan) (l b : ℕ) (s : BatteryString) → need q l b (moved_freely s) ≡ asks_of l b s
freely-need q l b s =
    elim (ℕ_discrete s.x 1) [
      | yes e ↦
          need-taker q l b (moved_freely s) e
          ∙ rw (freely-hold q s, freely-jobs s (l - b), delay_of-taker b s e)
      | no e ↦
          let all-days : l - 0 ≡ l = omega arith in
          need-keeper q l b (moved_freely s) e
          ∙ rw (freely-jobs s l, delay_of-keeper b s e, all-days)
    ]

pub freely-demand : (p : Plan) (l b : ℕ) → demand (freely p) l b ≡ b + sum_of (asks_of l b) (strings_of p)
unfolding demand
freely-demand p l b =
    let q = freely p in
    let strings = ap (sum_of (need q l b)) (freely-strings p) in
    let each = sum_of-mapped (need q l b) moved_freely (strings_of p) in
    let same =
    sum_of-eq (λ s. need q l b (moved_freely s)) (asks_of l b) (strings_of p)
    (all_of (λ s. need q l b (moved_freely s) ≡ asks_of l b s) (freely-need q l b) (strings_of p)) in
    omega arith

-- ---- A lawful plan stays lawful

-- T stays
common-mapped : (h : ℕ) (ss : List BatteryString) → common_multiple (map moved_freely ss) h ≡ common_multiple ss h
unfolding common_multiple every
common-mapped h [] = refl
common-mapped h (s ∷ ss) = rw (common-mapped h ss)

module _ (p : Plan) where
  pub freely-multiple : multiple_of (freely p) ≡ multiple_of p
  unfolding multiple_of
  freely-multiple =
      let same : common_multiple (strings_of (freely p)) ≡ common_multiple (strings_of p) =
      ap common_multiple (freely-strings p) ∙ fun_ext (λ h. common-mapped h (strings_of p)) in
      ap (λ f. least_from f 1 100000) same

  moved_freely-lawful : (s : BatteryString) → LawfulString s → LawfulString (moved_freely s)
  moved_freely-lawful s ok =
      record {
        t_pos = ok.t_pos;
        t_max = ok.t_max;
        d_pos = ok.d_pos;
        d_max = ok.d_max;
        j_max = ok.j_max;
        c_pos = ok.c_pos;
        c_max = ok.c_max;
        x_max = ok.x_max;
        a_max = omega arith;
      }

  -- a lawful plan is lawful with free moving
  pub freely-lawful : LawfulPlan p → LawfulPlan (freely p)
  freely-lawful ok =
      let low : multiple_of (freely p) ≤ 100000 = rw freely-multiple ok.h_max in
      let moved =
      all-mapped LawfulString moved_freely (strings_of p)
      (all_map LawfulString (λ s. LawfulString (moved_freely s)) moved_freely-lawful (strings_of p) ok.each) in
      record {
        n_pos = ok.n_pos;
        n_max = ok.n_max;
        run_pos = ok.run_pos;
        run_max = ok.run_max;
        each = rw freely-strings moved;
        h_pos = multiple_of-pos (freely p);
        h_max = low;
        h_whole = common_multiple-whole (strings_of (freely p)) (multiple_of (freely p)) (multiple_of-common (freely p) low);
        h_least = multiple_of-least (freely p);
      }

-- ---- Where moving is free already, the rule is the plan's

free-strings : (q : Plan) (ss : List BatteryString) → All (λ s. moving_cost q s ≡ 0) ss → map moved_freely ss ≡ ss
unfolding moving_cost
free-strings q [] h = refl
free-strings q (s ∷ ss) h =
    let head : moved_freely s ≡ s = ap (λ a. record { t = s.t; c = s.c; d = s.d; x = s.x; a = days a; j = s.j }) (sym h.0) in
    rw (head, free-strings q ss h.1)

module _ (p : Plan) (free : FreeMoving p) where
  pub free-same : strings_of (freely p) ≡ strings_of p
  free-same = freely-strings p ∙ free-strings p (strings_of p) free

  pub free-demand : (l b : ℕ) → demand (freely p) l b ≡ demand p l b
  unfolding demand need hold_of moving_cost
  free-demand l b = ap (λ ss. b + sum_of (need p l b) ss) free-same

  pub free-limit : (l : ℕ) → block_limit (freely p) l ≡ block_limit p l
  unfolding block_limit leeway_min d_max blocker_hold hold_of moving_cost
  free-limit l =
      ap
      (λ ss. cond (leb (smallest leeway ss) l && ltb l (largest (λ s. s.d.0) ss)) (min l (largest (blocker_hold p l) ss)) 0)
      free-same

  pub free-passes : Passes (freely p) → Passes p
  free-passes rule l b pos allowed = rw (sym (free-demand l b)) (rule l b pos (rw (free-limit l) allowed))
