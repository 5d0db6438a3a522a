-- Laws of a plan with a set, as a loop over the ten strings makes it: those done, and those left with what is left of the number.
use Rattle.base.proofs.Prelude.{ℕ, suc, ◌+◌, ◌/◌, ◌%◌, ◌≤◌, ◌<◌, ◌≡◌, refl, sym, ap, ◌∙◌, List, [], ◌∷◌, ◌++◌, append_assoc, append-nil, arith, add-one, length, take, drop, get_or, set, drop_of_length-le, drop-cons, drop-drop, take_all}
use lib.Seq.{drop-set-lt, take-suc-set}
use Rattle.rules.specs.{declared.BatteryString.BatteryString, declared.Plan.Plan, Plan.{strings_of, no_string, leeway, leeway_min, d_max}, Search.{permit, with_set}}
use Rattle.demand.proofs.Sets.{permitted, with_set-strings, with_set-lawful}
use Rattle.base.specs.Count.{largest, smallest, smallest_with}
use Rattle.verdict.specs.inner.Asked.{Ready}

permit-length : (m : ℕ) (ss : List BatteryString) → length (permit m ss) ≡ length ss
unfolding permit
permit-length m [] = refl
permit-length m (s ∷ ss) = ap suc (permit-length (m / 2) ss)

pub ready_with : (p : Plan) (m : ℕ) → Ready p → Ready (with_set p m)
unfolding with_set
ready_with p m ready = record { lawful = with_set-lawful p m ready.lawful; ten = permit-length m p.strings ∙ ready.ten }

permit-cons : (m : ℕ) (s : BatteryString) (ss : List BatteryString) → permit m (s ∷ ss) ≡ permitted s (m % 2) ∷ permit (m / 2) ss
unfolding permit
permit-cons m s ss = refl

permit-none : (m : ℕ) → permit m [] ≡ []
unfolding permit
permit-none m = refl

-- those after the next are still as they were
pub unpermitted-next :
    (all now : List BatteryString) (i : ℕ) (v : BatteryString) → drop i now ≡ drop i all
    → drop (i + 1) (set now i v) ≡ drop (i + 1) all
unpermitted-next all now i v same =
    let past : i < i + 1 = omega arith in
    drop-set-lt (i + 1) now i v past ∙ sym (drop-drop 1 i now) ∙ ap (drop 1) same ∙ drop-drop 1 i all

-- one more string has its permission
pub permitted-next :
    (all now : List BatteryString) (rest i : ℕ) (v : BatteryString)
    → i < length now → i < length all
    → drop i now ≡ drop i all
    → v ≡ permitted (get_or now i no_string) (rest % 2)
    → take (i + 1) (set now i v) ++ permit (rest / 2) (drop (i + 1) all) ≡ take i now ++ permit rest (drop i all)
permitted-next all now rest i v inside within same e =
    let after : drop (suc i) now ≡ drop (suc i) all =
    ap (λ k. drop k now) (sym (add-one i)) ∙ sym (drop-drop 1 i now) ∙ ap (drop 1) same ∙ drop-drop 1 i all
    ∙ ap (λ k. drop k all) (add-one i) in
    let whole : permit rest (drop i all) ≡ v ∷ permit (rest / 2) (drop (suc i) all) =
    ap (permit rest) (sym same ∙ drop-cons now i no_string inside)
    ∙ permit-cons rest (get_or now i no_string) (drop (suc i) now)
    ∙ ap (λ s. s ∷ permit (rest / 2) (drop (suc i) now)) (sym e)
    ∙ ap (λ ss. v ∷ permit (rest / 2) ss) after in
    ap (λ k. take k (set now i v) ++ permit (rest / 2) (drop k all)) (add-one i)
    ∙ ap (λ ss. ss ++ permit (rest / 2) (drop (suc i) all)) (take-suc-set now i v inside)
    ∙ append_assoc (take i now) (v ∷ []) (permit (rest / 2) (drop (suc i) all))
    ∙ ap (λ ss. take i now ++ ss) (sym whole)

-- where all are done, they are the strings with their permissions
pub done_all : (all now : List BatteryString) (rest i : ℕ) → length now ≤ i → length all ≤ i → take i now ++ permit rest (drop i all) ≡ now
done_all all now rest i h k =
    ap (λ ss. take i now ++ permit rest ss) (drop_of_length-le all k)
    ∙ ap (λ ss. take i now ++ ss) (permit-none rest)
    ∙ append-nil (take i now)
    ∙ take_all i now h

-- ---- What does not depend on the permissions

module _ (f : BatteryString → ℕ) (blind : (s : BatteryString) (x : ℕ) → f (permitted s x) ≡ f s) where
  permit-largest : (m : ℕ) (ss : List BatteryString) → largest f (permit m ss) ≡ largest f ss
  unfolding permit largest
  permit-largest m [] = refl
  permit-largest m (s ∷ ss) = rw (blind s (m % 2), permit-largest (m / 2) ss)

  permit-smallest_with : (k m : ℕ) (ss : List BatteryString) → smallest_with f k (permit m ss) ≡ smallest_with f k ss
  unfolding permit smallest_with
  permit-smallest_with k m [] = refl
  permit-smallest_with k m (s ∷ ss) = rw (blind s (m % 2), permit-smallest_with k (m / 2) ss)

  permit-smallest : (m : ℕ) (ss : List BatteryString) → smallest f (permit m ss) ≡ smallest f ss
  unfolding permit smallest
  permit-smallest m [] = refl
  permit-smallest m (s ∷ ss) = rw (blind s (m % 2), permit-smallest_with (f s) (m / 2) ss)

module _ (p : Plan) (m : ℕ) where
  pub with_set-leeway_min : leeway_min (with_set p m) ≡ leeway_min p
  unfolding leeway_min
  with_set-leeway_min = ap (smallest leeway) (with_set-strings p m) ∙ permit-smallest leeway (λ s x. refl) m (strings_of p)

  pub with_set-d_max : d_max (with_set p m) ≡ d_max p
  unfolding d_max
  with_set-d_max = ap (largest (λ s. s.d.0)) (with_set-strings p m) ∙ permit-largest (λ s. s.d.0) (λ s x. refl) m (strings_of p)
