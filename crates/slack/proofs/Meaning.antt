-- What a limit says to a planner: with it the plan passes, beyond it with no lawful value, and between it and the easy end with each, where
-- easing never hurts.
use Rattle.base.proofs.Prelude.{ℕ, ◌-◌, ◌≤◌, ◌<◌, ◌≡◌, refl, sym, ap, ◌∙◌, true, false, Option, none, some, ◌⊎◌, ⊎_elim, arith, length}
use Rattle.std.specs.Prelude.{Some, None}
use Rattle.base.specs.Count.{All, up_from, first_of}
use Rattle.base.proofs.{Lists.{true-not-false}, FirstOf.{first_of-none, first_of-passes, first_of-least}, Order.{each-of-mapped, each-of-up_from}}
use Rattle.rules.specs.declared.Plan.{Plan}
use Rattle.slack.specs.{declared.Letter.Letter, Slack.{value_at, hardest_first, passes_with, limit_from, limit_of}, Beyond.{Harder, LawfulWith, RuleWith, IsLimit, NoLimit}}
use Rattle.slack.proofs.{Easier.{passes-rule, rule-passes, lawful-small, easier-passes}, Limited.limit-there, Upward.hardest-rising}
use Rattle.slack.specs.declared.Letter.TheVariants as letter

-- ---- Every value up to 1,000 is among those that are tried

-- how many values are harder
rank : Letter → ℕ → ℕ
rank letter.C v = 1000 - v
rank letter.D v = v
rank letter.T v = v
rank letter.A v = 1000 - v
rank letter.J v = 1000 - v

ranked : (x : Letter) (v : ℕ) → v ≤ 1000 → (rank x v < 1001) × (value_at x (rank x v) ≡ v)
unfolding rank
ranked letter.C v h = (omega arith, omega arith)
ranked letter.D v h = (omega arith, refl)
ranked letter.T v h = (omega arith, refl)
ranked letter.A v h = (omega arith, omega arith)
ranked letter.J v h = (omega arith, omega arith)

of-all : (P : ℕ → Type 0) (x : Letter) → All P (hardest_first x) → (v : ℕ) → v ≤ 1000 → P v
unfolding hardest_first
of-all P x all v h =
    let place = ranked x v h in
    let here = each-of-up_from (λ k. P (value_at x k)) 0 1001 (each-of-mapped P (value_at x) (up_from 0 1001) all) (rank x v) (omega arith)
    (omega (arith, place.0)) in
    rw place.1 at here

-- ---- The limit

not-both : (x : Letter) (v w : ℕ) → Harder x w v → Harder x v w → ⊥
not-both letter.C v w h k = omega arith
not-both letter.D v w h k = omega arith
not-both letter.T v w h k = omega arith
not-both letter.A v w h k = omega arith
not-both letter.J v w h k = omega arith

not_itself : (x : Letter) (v w : ℕ) → Harder x w v → v ≡ w → ⊥
not_itself letter.C v w h same = omega arith
not_itself letter.D v w h same = omega arith
not_itself letter.T v w h same = omega arith
not_itself letter.A v w h same = omega arith
not_itself letter.J v w h same = omega arith

found : (o : Option ℕ) (v : ℕ) → limit_from o ≡ Some v → o ≡ some v
found none v h = absurd (omega (arith, apart))
  where
    apart : ◌≡◌ {A = ℕ} 0 1
    apart = cc
found (some w) v h =
    let same : w ≡ v = cc in
    ap some same

missing : (o : Option ℕ) → limit_from o ≡ None → o ≡ none
missing none h = refl
missing (some w) h = absurd (omega (arith, apart))
  where
    apart : ◌≡◌ {A = ℕ} 0 1
    apart = cc

module _ (p : Plan) (i : ℕ) (x : Letter) (low : 1 ≤ i) (high : i ≤ p.n) (room : p.n ≤ length p.strings) where
  module _ (v : ℕ) (is : limit_of p i x ≡ Some v) where
    first : first_of (passes_with p i x) (hardest_first x) ≡ some v
    first = found _ v (sym (limit-there p i x low high) ∙ is)

    here : LawfulWith p i x v × RuleWith p i x v
    here = passes-rule p i x v (first_of-passes (passes_with p i x) (hardest_first x) v first)

    none-beyond : (w : ℕ) → Harder x w v → LawfulWith p i x w → RuleWith p i x w → ⊥
    none-beyond w harder lawful rule =
        let passes = rule-passes p i x w lawful rule in
        let least = of-all (λ u. passes_with p i x u ≡ true → (v ≡ u) ⊎ Harder x v u) x
        (first_of-least (passes_with p i x) (Harder x) (hardest_first x) v (hardest-rising x) first) w
        (lawful-small p i x low high room w lawful) passes in
        ⊎_elim (not_itself x v w harder) (not-both x v w harder) least

    pub limit_is : IsLimit p i x v
    limit_is =
        record {
          lawful = here.0;
          passes = here.1;
          beyond = none-beyond;
          between = λ no_gaps w easier lawful. easier-passes p i x low high room no_gaps v w easier here.0 lawful here.1;
        }

  pub limit-none : limit_of p i x ≡ None → NoLimit p i x
  limit-none is w lawful rule =
      let nowhere = missing _ (sym (limit-there p i x low high) ∙ is) in
      let fails = of-all (λ u. passes_with p i x u ≡ false) x ((first_of-none (passes_with p i x) (hardest_first x)).0 nowhere) w
      (lawful-small p i x low high room w lawful) in
      true-not-false (sym (rule-passes p i x w lawful rule) ∙ fails)
