-- With every J 0 and every due day the release day, each rule says what it said before late access (document 02, W-213): the bounds of a
-- string, its jobs, the blocking limit, the demand, the deadline, and which release lists are lawful.
use Rattle.base.proofs.Prelude.{ℕ, suc, ◌+◌, ◌-◌, ◌≤◌, zero-le, min, ◌≡◌, refl, sym, ap, ◌∙◌, ◌↔◌, Bool, true, false, cond, ◌&&◌, List, [], ◌∷◌, arith, ltb, eqb}
use mathlib.Core.Path.{ap₂}
use Rattle.faults.proofs.Checks.{in_bounds-yes}
use Rattle.base.specs.Count.{smallest, smallest_with}
use Rattle.base.proofs.Lists.{All, all_map, sum_of-eq}
use Rattle.rules.specs.{declared.BatteryString.BatteryString, declared.Plan.Plan, declared.Release.Release, Plan.{strings_of, string_at, leeway, string_lawful, leeway_min}, Demand.{jobs, block_limit, need, demand, Passes}, Release.{deadline_of, too_close, release_lawful, unlawful_from, first_unlawful}}
use Rattle.laws.specs.Lawful.{OnTime}
use Rattle.results.specs.OnTime.{DueOnRelease, string_lawful_before, jobs_before, limit_before, need_before, demand_before, deadline_before, too_close_before, release_lawful_before, unlawful_before}

-- ---- A string

and-true : (a : Bool) → (a && true) ≡ a
and-true true = refl
and-true false = refl

module _ (s : BatteryString) (on-time : s.j.0 ≡ 0) where
  leeway-on-time : leeway s ≡ s.d.0
  leeway-on-time = omega arith

  pub bounds-on-time : string_lawful s ≡ string_lawful_before s
  unfolding string_lawful string_lawful_before
  bounds-on-time = rw (in_bounds-yes 0 s.j.0 (s.d.0 - 1) zero-le (omega arith), and-true, leeway-on-time)

  pub jobs-on-time : (w : ℕ) → jobs s w ≡ jobs_before s w
  unfolding jobs jobs_before
  jobs-on-time w =
      let same : w + s.j.0 ≡ w = omega arith in
      rw same

  need-on-time : (p : Plan) (l b : ℕ) → need p l b s ≡ need_before p l b s
  unfolding need need_before
  need-on-time p l b = rw (jobs-on-time (l - b), jobs-on-time l)

-- ---- The rule

least-on-time : (m : ℕ) (ss : List BatteryString) → All (λ s. s.j.0 ≡ 0) ss → smallest_with leeway m ss ≡ smallest_with (λ s. s.d.0) m ss
unfolding smallest_with
least-on-time m [] on-time = refl
least-on-time m (s ∷ ss) on-time = ap₂ min (leeway-on-time s on-time.0) (least-on-time m ss on-time.1)

smallest-on-time : (ss : List BatteryString) → All (λ s. s.j.0 ≡ 0) ss → smallest leeway ss ≡ smallest (λ s. s.d.0) ss
unfolding smallest
smallest-on-time [] on-time = refl
smallest-on-time (s ∷ ss) on-time =
    ap (λ m. smallest_with leeway m ss) (leeway-on-time s on-time.0) ∙ least-on-time s.d.0 ss on-time.1

module _ (p : Plan) (on-time : OnTime p) where
  pub limit-on-time : (l : ℕ) → block_limit p l ≡ limit_before p l
  unfolding block_limit limit_before leeway_min
  limit-on-time l = rw (smallest-on-time (strings_of p) on-time)

  pub demand-on-time : (l b : ℕ) → demand p l b ≡ demand_before p l b
  unfolding demand demand_before
  demand-on-time l b =
      ap (λ n. b + n)
      (sum_of-eq (need p l b) (need_before p l b) (strings_of p)
      (all_map (λ s. s.j.0 ≡ 0) (λ s. need p l b s ≡ need_before p l b s) (λ s late. need-on-time s late p l b) (strings_of p) on-time))

  pub passes-on-time : Passes p ↔ ((l b : ℕ) → 1 ≤ l → b ≤ limit_before p l → demand_before p l b ≤ l)
  passes-on-time = (
    λ rule l b pos limit. rw (sym (demand-on-time l b)) (rule l b pos (rw (limit-on-time l) limit)),
    λ rule l b pos limit. rw (demand-on-time l b) (rule l b pos (rw (sym (limit-on-time l)) limit)),
  )

-- ---- Releases

module _ (p : Plan) (r : Release) (due : r.due.0 ≡ r.day.0) where
  pub deadline-on-time : deadline_of p r ≡ deadline_before p r
  deadline-on-time = rw due

close-on-time : (t : ℕ) (r : Release) (seen : List Release) → r.due.0 ≡ r.day.0 → DueOnRelease seen
    → too_close t r seen ≡ too_close_before t r seen
unfolding too_close too_close_before
close-on-time t r [] due dues = refl
close-on-time t r (q ∷ seen) due dues =
    let here : ltb r.due.0 (q.due.0 + t) ≡ ltb r.day.0 (q.day.0 + t) = ap₂ (λ a b. ltb a (b + t)) due dues.0 in
    ap₂ (λ now earlier. cond (eqb q.place r.place) now earlier) here (close-on-time t r seen due dues.1)

module _ (p : Plan) where
  release-on-time : (seen : List Release) (r : Release) → r.due.0 ≡ r.day.0 → DueOnRelease seen
      → release_lawful p seen r ≡ release_lawful_before p seen r
  unfolding release_lawful release_lawful_before
  release-on-time seen r due dues =
      let low : r.due.0 ≤ r.day.0 = omega arith in
      let high : r.day.0 ≤ r.due.0 + (string_at p r.place).j.0 = omega arith in
      rw (
        in_bounds-yes r.due.0 r.day.0 (r.due.0 + (string_at p r.place).j.0) low high,
        and-true,
        close-on-time (string_at p r.place).t.0 r seen due dues,
      )

  unlawful-on-time : (seen : List Release) (k : ℕ) (rs : List Release) → DueOnRelease seen → DueOnRelease rs
      → unlawful_from p seen k rs ≡ unlawful_before p seen k rs
  unfolding unlawful_from unlawful_before
  unlawful-on-time seen k [] dues due = refl
  unlawful-on-time seen k (r ∷ rs) dues due =
      rw (release-on-time seen r due.0 dues, unlawful-on-time (r ∷ seen) (suc k) rs (due.0, dues) due.1)

  -- the same lists are lawful, and the same release is the first that is not
  pub listed-on-time : (rs : List Release) → DueOnRelease rs → first_unlawful p rs ≡ unlawful_before p [] 1 rs
  unfolding first_unlawful
  listed-on-time rs due = unlawful-on-time [] 1 rs tt due
