-- With which values a plan is lawful: where the changed string is within its bounds, and for T where H is too. No other number moves H.
use Rattle.base.proofs.Prelude.{ℕ, zero, suc, ◌-◌, ◌%◌, ◌≡◌, refl, sym, ap, ◌∙◌, fun_ext, Bool, true, false, cond, List, [], ◌∷◌, arith, eqb, ltb, get_or, set, get_or-take}
use Rattle.faults.specs.Checks.{Lawful}
use lib.Seq.{take-set-lt}
use Rattle.base.specs.Count.{every, least_from}
use Rattle.base.proofs.Lists.{by_bool, true-not-false}
use Rattle.faults.specs.declared.Fault.TheVariants.{MultipleOver}
use Rattle.faults.specs.Checks.{then, refuse_if}
use Rattle.faults.proofs.Checks.{then-first, then-second, then-lawful}
use Rattle.rules.specs.{declared.BatteryString.BatteryString, declared.Plan.Plan, Plan.{strings_of, no_string, string_lawful, common_multiple, multiple_of}, Refusal.{head_check, string_check, strings_check, multiple_check, plan_check}}
use Rattle.laws.proofs.Lawful.{string_lawful-yes}
use Rattle.slack.specs.{declared.Letter.Letter, Slack.{string_with, plan_with}, Beyond.LawfulWith, inner.Values.{HasPlace, leaves_multiple, lawful_with}}
use Rattle.slack.proofs.Easier.{lawful-with, with-lawful, changed-lawful}
use Rattle.slack.specs.declared.Letter.TheVariants as letter

every_set : (f : BatteryString → Bool) (ss : List BatteryString) (k : ℕ) (s z : BatteryString) → f s ≡ f (get_or ss k z)
    → every f (set ss k s) ≡ every f ss
unfolding every
every_set f [] k s z same = refl
every_set f (t ∷ ss) zero s z same = ap (λ b. cond b (every f ss) false) same
every_set f (t ∷ ss) (suc k) s z same = ap (λ rest. cond (f t) rest false) (every_set f ss k s z same)

strings-set : (at : ℕ) (ss : List BatteryString) (k : ℕ) (s : BatteryString) → string_lawful s ≡ true → strings_check at ss ≡ Lawful
    → strings_check at (set ss k s) ≡ Lawful
unfolding strings_check
strings-set at [] k s lawful h = h
strings-set at (t ∷ ss) zero s lawful h = rw lawful (then-second (string_check at t) (strings_check (suc at) ss) h)
strings-set at (t ∷ ss) (suc k) s lawful h =
    then-lawful (string_check at t) _ (then-first (string_check at t) (strings_check (suc at) ss) h)
    ∙ strings-set (suc at) ss k s lawful (then-second (string_check at t) (strings_check (suc at) ss) h)

same-period : (x : Letter) (v : ℕ) (s : BatteryString) → leaves_multiple x ≡ true → (string_with x v s).t ≡ s.t
same-period letter.C v s leaves = refl
same-period letter.D v s leaves = refl
same-period letter.T v s leaves = absurd (true-not-false (sym leaves))
same-period letter.A v s leaves = refl
same-period letter.J v s leaves = refl

module _ (p : Plan) (i : ℕ) (x : Letter) (v : ℕ) (placed : HasPlace p i) where
  abbrev here : BatteryString
  here = get_or p.strings (i - 1) no_string

  strings-are : strings_of (plan_with p i x v) ≡ set (strings_of p) (i - 1) (string_with x v here)
  unfolding plan_with
  strings-are = take-set-lt p.n p.strings (i - 1) (string_with x v here) (omega (arith, placed.low, placed.high))

  -- a string outside its bounds
  pub unlawful-string : string_lawful (string_with x v here) ≡ false → false ≡ lawful_with p i x v
  unlawful-string out =
      by_bool (lawful_with p i x v)
      (λ t.
      let ok = changed-lawful p i x placed.low placed.high (omega (arith, placed.few, placed.ten)) v (lawful-with p i x v t) in
      absurd (true-not-false (sym (string_lawful-yes (string_with x v here) ok) ∙ out)))
      (λ e. sym e)

  module _ (leaves : leaves_multiple x ≡ true) where
    same-common : (h : ℕ) → common_multiple (strings_of (plan_with p i x v)) h ≡ common_multiple (strings_of p) h
    unfolding common_multiple
    same-common h =
        let there = get_or-take p.n p.strings (i - 1) no_string (omega (arith, placed.low, placed.high)) in
        ap (every (λ s. eqb (h % s.t.0) 0)) strings-are
        ∙ every_set (λ s. eqb (h % s.t.0) 0) (strings_of p) (i - 1) (string_with x v here) no_string
        (ap (λ t. eqb (h % t.0) 0) (same-period x v here leaves) ∙ ap (λ s. eqb (h % s.t.0) 0) (sym there))

    same-multiple : multiple_of (plan_with p i x v) ≡ multiple_of p
    unfolding multiple_of
    same-multiple = ap (λ f. least_from f 1 100000) (fun_ext same-common)

    -- within its bounds the string leaves the plan lawful
    within-bounds : plan_check p ≡ Lawful → string_lawful (string_with x v here) ≡ true → LawfulWith p i x v
    unfolding plan_check plan_with multiple_check
    within-bounds ok lawful =
        let q = plan_with p i x v in
        let head = head_check 0 p.n p.run.0 in
        let strings = strings_check 1 (strings_of p) in
        let multiple = multiple_check 0 p in
        let body = then-second head (then strings multiple) ok in
        let each = ap (strings_check 1) strings-are ∙ strings-set 1 (strings_of p) (i - 1) _ lawful (then-first strings multiple body) in
        then-lawful head _ (then-first head (then strings multiple) ok)
        ∙ then-lawful (strings_check 1 (strings_of q)) _ each
        ∙ ap (λ h. refuse_if (ltb 100000 h) MultipleOver 0) same-multiple
        ∙ then-second strings multiple body

    pub lawful-string : plan_check p ≡ Lawful → string_lawful (string_with x v here) ≡ true → true ≡ lawful_with p i x v
    lawful-string ok lawful = sym (with-lawful p i x v (within-bounds ok lawful))
