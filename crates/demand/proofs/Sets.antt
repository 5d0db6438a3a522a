-- A plan with a permission set: all but X stays, so a lawful plan stays lawful, with the same H.
--     permitted s x         the string s with permission x
use Rattle.base.proofs.Prelude.{ℕ, zero, suc, ◌/◌, ◌%◌, ◌≤◌, ◌≡◌, refl, ap, ◌∙◌, fun_ext, Bool, List, [], ◌∷◌, arith, mod-lt, eqb, take}
use Rattle.rules.specs.{declared.BatteryString.BatteryString, declared.Plan.Plan, Plan.{strings_of, common_multiple, multiple_of}, Search.{permit, with_set}}
use Rattle.base.specs.Count.{sum_of, every, least_from}
use Rattle.base.proofs.Lists.{All}
use Rattle.laws.proofs.Lawful.{LawfulString, LawfulPlan, multiple_of-pos, multiple_of-common, multiple_of-least, common_multiple-whole}

abbrev pub permitted : BatteryString → ℕ → BatteryString
permitted s x = record { t = s.t; c = s.c; d = s.d; x = x; a = s.a; j = s.j }

-- ---- Strings with permissions

permission-le : (m : ℕ) → m % 2 ≤ 1
permission-le m = omega (arith, mod-lt m {m = 2} (omega arith))

permit-take : (n m : ℕ) (ss : List BatteryString) → take n (permit m ss) ≡ permit m (take n ss)
unfolding permit
permit-take zero m ss = refl
permit-take (suc n) m [] = refl
permit-take (suc n) m (s ∷ ss) = ap (λ rest. permitted s (m % 2) ∷ rest) (permit-take n (m / 2) ss)

permit-all :
    (P Q : BatteryString → Type 0) → ((s : BatteryString) (x : ℕ) → x ≤ 1 → P s → Q (permitted s x))
    → (m : ℕ) (ss : List BatteryString) → All P ss → All Q (permit m ss)
unfolding permit
permit-all P Q f m [] h = tt
permit-all P Q f m (s ∷ ss) h = (f s (m % 2) (permission-le m) h.0, permit-all P Q f (m / 2) ss h.1)

-- what does not look at X is the same of the strings with any set
module _ (f : BatteryString → ℕ) (blind : (s : BatteryString) (x : ℕ) → f (permitted s x) ≡ f s) where
  pub permit-sum_of : (m : ℕ) (ss : List BatteryString) → sum_of f (permit m ss) ≡ sum_of f ss
  unfolding permit sum_of
  permit-sum_of m [] = refl
  permit-sum_of m (s ∷ ss) = rw (blind s (m % 2), permit-sum_of (m / 2) ss)

permit-every :
    (f : BatteryString → Bool) → ((s : BatteryString) (x : ℕ) → f (permitted s x) ≡ f s)
    → (m : ℕ) (ss : List BatteryString) → every f (permit m ss) ≡ every f ss
unfolding permit every
permit-every f blind m [] = refl
permit-every f blind m (s ∷ ss) = rw (blind s (m % 2), permit-every f blind (m / 2) ss)

-- ---- The plan with a set

module _ (p : Plan) (m : ℕ) where
  pub with_set-strings : strings_of (with_set p m) ≡ permit m (strings_of p)
  unfolding with_set
  with_set-strings = permit-take p.n m p.strings

  pub with_set-multiple : multiple_of (with_set p m) ≡ multiple_of p
  unfolding multiple_of common_multiple
  with_set-multiple =
      let same : common_multiple (strings_of (with_set p m)) ≡ common_multiple (strings_of p) =
      ap common_multiple with_set-strings
      ∙ fun_ext (λ h. permit-every (λ s. eqb (h % s.t.0) 0) (λ s x. refl) m (strings_of p)) in
      ap (λ f. least_from f 1 100000) same

  permitted-lawful : (s : BatteryString) (x : ℕ) → x ≤ 1 → LawfulString s → LawfulString (permitted s x)
  permitted-lawful s x h ok =
      record {
        t_pos = ok.t_pos;
        t_max = ok.t_max;
        d_pos = ok.d_pos;
        d_max = ok.d_max;
        j_max = ok.j_max;
        c_pos = ok.c_pos;
        c_max = ok.c_max;
        x_max = h;
        a_max = ok.a_max;
      }

  -- a lawful plan is lawful with any set
  pub with_set-lawful : LawfulPlan p → LawfulPlan (with_set p m)
  unfolding with_set
  with_set-lawful ok =
      let low : multiple_of (with_set p m) ≤ 100000 = rw with_set-multiple ok.h_max in
      record {
        n_pos = ok.n_pos;
        n_max = ok.n_max;
        run_pos = ok.run_pos;
        run_max = ok.run_max;
        each = rw with_set-strings (permit-all LawfulString LawfulString permitted-lawful m (strings_of p) ok.each);
        h_pos = multiple_of-pos (with_set p m);
        h_max = low;
        h_whole = common_multiple-whole (strings_of (with_set p m)) (multiple_of (with_set p m)) (multiple_of-common (with_set p m) low);
        h_least = multiple_of-least (with_set p m);
      }
