-- Laws of the check of a release list, and what it gives where it finds no fault.
use Rattle.base.proofs.Prelude.{ℕ, suc, ◌+◌, ◌≤◌, ◌<◌, List, [], ◌∷◌, length, ◌≡◌, arith, ltb, lt-ltb, le-ltb, ltb-false}
use Rattle.faults.specs.Checks.{Refused, Lawful}
use Rattle.rules.specs.{declared.Plan.Plan, declared.Release.Release, declared.Releases.Releases, Release.{releases_of, release_lawful, unlawful_from, first_unlawful}, Refusal.{plan_check, releases_check, run_check}}
use Rattle.faults.specs.declared.Fault.TheVariants.{ReleaseTooMany, ReleaseUnlawful}
use Rattle.faults.specs.Checks.{then, refuse_if}
use Rattle.faults.proofs.Checks.{then-first, then-second, refuse_if-not}
use Rattle.base.proofs.Lists.{by_bool}
use Rattle.laws.proofs.Lawful.{plan_check-lawful}
pub use Rattle.laws.specs.Lawful.{LawfulRun}

pub releases_check-many : (p : Plan) (rs : Releases) → 1000 < rs.count → releases_check p rs ≡ Refused ReleaseTooMany 1001
unfolding releases_check
releases_check-many p rs h = rw (lt-ltb 1000 rs.count h)

pub releases_check-bad : (p : Plan) (rs : Releases) (k : ℕ) → rs.count ≤ 1000 → first_unlawful p (releases_of rs) ≡ k → 0 < k
    → releases_check p rs ≡ Refused ReleaseUnlawful k
unfolding releases_check
releases_check-bad p rs k h e low = rw (le-ltb 1000 rs.count h, e, lt-ltb 0 k low)

pub releases_check-good : (p : Plan) (rs : Releases) → rs.count ≤ 1000 → first_unlawful p (releases_of rs) ≡ 0 → releases_check p rs
    ≡ Lawful
unfolding releases_check
releases_check-good p rs h e = rw (le-ltb 1000 rs.count h, e)

pub run_check-lawful : (p : Plan) (rs : Releases) → run_check p rs ≡ Lawful → LawfulRun p rs
unfolding run_check releases_check
run_check-lawful p rs h =
    let bad = first_unlawful p (releases_of rs) in
    let many = refuse_if (ltb 1000 rs.count) ReleaseTooMany 1001 in
    let unlawful = refuse_if (ltb 0 bad) ReleaseUnlawful bad in
    let list = then-second (plan_check p) (then many unlawful) h in
    let none : bad ≤ 0 = ltb-false 0 bad (refuse_if-not (ltb 0 bad) ReleaseUnlawful bad (then-second many unlawful list)) in
    record {
      plan = plan_check-lawful p (then-first (plan_check p) (then many unlawful) h);
      few = ltb-false 1000 rs.count (refuse_if-not (ltb 1000 rs.count) ReleaseTooMany 1001 (then-first many unlawful list));
      none_bad = omega arith;
    }

-- the place that a check names lies in the list
unlawful_from-le : (p : Plan) (seen : List Release) (k : ℕ) (rs : List Release) → unlawful_from p seen k rs ≤ k + length rs
unfolding unlawful_from
unlawful_from-le p seen k [] = omega arith
unlawful_from-le p seen k (r ∷ rs) =
    let later = unlawful_from-le p (r ∷ seen) (suc k) rs in
    by_bool (release_lawful p seen r) (λ t. rw t (omega arith)) (λ e. rw e (omega arith))

pub first_unlawful-le : (p : Plan) (rs : List Release) → first_unlawful p rs ≤ 1 + length rs
unfolding first_unlawful
first_unlawful-le p rs = unlawful_from-le p [] 1 rs
