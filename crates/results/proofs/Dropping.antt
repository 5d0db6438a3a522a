-- A string dropped from a plan of two or more: the plan that is left is lawful, whatever string it was. Its H is no larger: the old one is
-- a common multiple of the periods that are left. And a permission set goes along: the strings behind the dropped one move up a place, and
-- so do their binary digits.
--     carried easier m      the set under which each string that is left has the permission that the set m gave it
use Rattle.base.proofs.Prelude.{ℕ, zero, suc, ◌+◌, ◌-◌, ◌*◌, ◌/◌, ◌%◌, ◌^◌, ◌≤◌, ◌<◌, ◌≡◌, refl, sym, ap, ◌∙◌, Bool, true, List, [], ◌∷◌, ◌++◌, arith, dec_le, length, take, drop, length-take, eqb}
use Rattle.faults.specs.Checks.{Lawful}
use lib.Pow.{pow_mono}
use Rattle.base.specs.Count.{All}
use Rattle.base.proofs.Lists.{true-not-false, all-of-every, every-of-all}
use Rattle.rules.specs.{declared.BatteryString.BatteryString, declared.Plan.Plan, Plan.{strings_of, common_multiple, multiple_of}, Search.{permit, with_set}, Refusal.plan_check}
use Rattle.laws.proofs.{Lawful.{LawfulString, LawfulPlan, plan_check-lawful, multiple_of-pos, multiple_of-common, multiple_of-least, common_multiple-whole}, LawfulChecked.lawful-checked}
use Rattle.demand.proofs.Sets.{permitted, with_set-strings}
use Rattle.results.specs.{Easing.{Eased, EasedStrings, end, eased, dropped, EasedPlan}, Change.Dropped}
use Rattle.results.proofs.{Changes.one-dropped, Moving.{joined-below, joined-permit, digit-le}}

-- ---- What is left is lawful

-- what holds of every string holds of those that are left
all_left : (P : BatteryString → Type 0) (i : ℕ) (ss : List BatteryString) → All P ss → All P (take i ss ++ drop (suc i) ss)
all_left P zero [] all = tt
all_left P zero (s ∷ ss) all = all.1
all_left P (suc i) [] all = tt
all_left P (suc i) (s ∷ ss) all = (all.0, all_left P i ss all.1)

-- the place counted from 0
others-left : (p q : Plan) (i : ℕ) → Dropped p q i → strings_of q ≡ take (i - 1) (strings_of p) ++ drop (suc (i - 1)) (strings_of p)
others-left p q i without =
    let place : i ≡ suc (i - 1) = omega (arith, without.place) in
    without.others ∙ ap (λ j. take (i - 1) (strings_of p) ++ drop j (strings_of p)) place

module _ (p q : Plan) (i : ℕ) (without : Dropped p q i) where
  module _ (ok : LawfulPlan p) where
    -- a common multiple of all periods is one of those that are left
    multiple-left : common_multiple (strings_of q) (multiple_of p) ≡ true
    unfolding common_multiple
    multiple-left =
        let whole : BatteryString → Bool = λ s. eqb (multiple_of p % s.t.0) 0 in
        let all = all-of-every whole (strings_of p) (multiple_of-common p ok.h_max) in
        every-of-all whole (strings_of q)
        (rw (others-left p q i without) (all_left (λ s. whole s ≡ true) (i - 1) (strings_of p) all))

    multiple-no-larger : multiple_of q ≤ multiple_of p
    multiple-no-larger =
        elim (dec_le (multiple_of q) (multiple_of p)) [
          | yes within ↦ within
          | no over ↦ absurd (true-not-false (sym multiple-left ∙ multiple_of-least q (multiple_of p) ok.h_pos (omega arith)))
        ]

    left-lawful : LawfulPlan q
    left-lawful =
        let low : multiple_of q ≤ 100000 = omega (arith, multiple-no-larger, ok.h_max) in
        record {
          n_pos = omega (arith, without.two_or_more, without.one_less);
          n_max = omega (arith, ok.n_max, without.one_less);
          run_pos = rw without.same_run ok.run_pos;
          run_max = rw without.same_run ok.run_max;
          each = rw (others-left p q i without) (all_left LawfulString (i - 1) (strings_of p) ok.each);
          h_pos = multiple_of-pos q;
          h_max = low;
          h_whole = common_multiple-whole (strings_of q) (multiple_of q) (multiple_of-common q low);
          h_least = multiple_of-least q;
        }

  pub dropped-lawful : plan_check p ≡ Lawful → plan_check q ≡ Lawful
  dropped-lawful ok = lawful-checked q (left-lawful (plan_check-lawful p ok))

  pub dropped-eases : EasedPlan p q
  dropped-eases = one-dropped p q (i - 1) (others-left p q i without)

-- ---- A set goes along

carried : {olds news : List BatteryString} → EasedStrings olds news → ℕ → ℕ
carried end m = 0
carried (eased easier rest) m = m % 2 + 2 * carried rest (m / 2)
carried (dropped rest) m = carried rest (m / 2)

carried-below : {olds news : List BatteryString} (easier : EasedStrings olds news) (m : ℕ) → carried easier m < 2 ^ length news
unfolding carried
carried-below end m = omega arith
carried-below (eased {news = news} easier rest) m =
    joined-below (m % 2) (carried rest (m / 2)) (digit-le m) (length news) (carried-below rest (m / 2))
carried-below (dropped rest) m = carried-below rest (m / 2)

-- a string is eased whatever permission both are given
permitted-eased : (old new : BatteryString) (x : ℕ) → Eased old new → Eased (permitted old x) (permitted new x)
permitted-eased old new x easier =
    record {
      work = easier.work;
      apart = easier.apart;
      due = easier.due;
      late = easier.late;
      grown = easier.grown;
      moving = easier.moving;
      permission = refl;
    }

carried-eased : {olds news : List BatteryString} (easier : EasedStrings olds news) (m : ℕ)
    → EasedStrings (permit m olds) (permit (carried easier m) news)
unfolding carried permit
carried-eased end m = end
carried-eased (eased {old = old} {new = new} {olds = olds} {news = news} easier rest) m =
    rw (joined-permit (m % 2) (carried rest (m / 2)) (digit-le m) new news)
    (eased (permitted-eased old new (m % 2) easier) (carried-eased rest (m / 2)))
carried-eased (dropped rest) m = dropped (carried-eased rest (m / 2))

-- every set of a plan is carried along to the eased one
pub set-carried : (p q : Plan) → EasedPlan p q → (m : ℕ) → (k : ℕ) × (k < 2 ^ q.n) × EasedPlan (with_set p m) (with_set q k)
set-carried p q easier m =
    let k = carried easier m in
    let few : length (strings_of q) ≤ q.n = omega (arith, length-take q.n q.strings) in
    let below : k < 2 ^ q.n = omega (arith, carried-below easier m, pow_mono few) in
    (k, below, rw (with_set-strings p m, with_set-strings q k) (carried-eased easier m))
