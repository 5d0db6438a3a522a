-- A day of work is for one release at most. So where each release of a list has had its need by day e, the needs add up to at most e.
use Rattle.base.proofs.Prelude.{ℕ, zero, suc, ◌+◌, ◌≤◌, ◌<◌, ◌≡◌, zero-le, refl, List, arith, ℕ_discrete, eq-eqb, ne_eqb, eqb, length, get_or}
use Rattle.rules.specs.{declared.Plan.Plan, declared.Release.Release, declared.Use.Use, declared.Use.TheVariants.{Idle, Work, Move}, Release.no_release, Run.{history, use_on}}
use Rattle.base.specs.Count.{sum_of, count_of}
use Rattle.base.proofs.Sums.{sum_to, sum_to-none, sum_to-eq, sum_to-add, sum_of-sum_to}
use Rattle.laws.proofs.History.{history-next}
use Rattle.sound.specs.Served.{works_for}
use Rattle.sound.proofs.Parts.{counted_if}

-- ---- One day

-- a number is one of 1 to n at most once
named-once : (k n : ℕ) → sum_to n (λ m. counted_if (eqb k (suc m))) ≤ 1
unfolding sum_to
named-once k zero = zero-le
named-once k (suc n) =
    elim (ℕ_discrete k (suc n)) [
      | yes last ↦
          let before = sum_to-none n (λ m. counted_if (eqb k (suc m))) (λ m h. rw (ne_eqb k (suc m) (λ e. omega arith))) in
          rw (eq-eqb k (suc n) last) (omega arith)
      | no other ↦
          let before = named-once k n in
          rw (ne_eqb k (suc n) other) (omega arith)
    ]

day-shared : (u : Use) (n : ℕ) → sum_to n (λ m. counted_if (works_for (suc m) u)) ≤ 1
day-shared Idle n = omega (arith, sum_to-none n (λ m. 0) (λ m h. refl))
day-shared (Work i k) n = named-once k n
day-shared (Move i k) n = omega (arith, sum_to-none n (λ m. 0) (λ m h. refl))

-- ---- The days of a history

-- where nothing is released before day z, they fit into the days from z on
module _ (p : Plan) (rs : List Release) (z : ℕ) (none : (m : ℕ) → m < length rs → count_of (works_for (suc m)) (history p rs z) ≡ 0) where
  shared-from : (k : ℕ) → sum_to (length rs) (λ m. count_of (works_for (suc m)) (history p rs (z + k))) ≤ k
  shared-from zero =
      let now : z + 0 ≡ z = omega arith in
      rw now (omega (arith, sum_to-none (length rs) (λ m. count_of (works_for (suc m)) (history p rs z)) none))
  shared-from (suc k) =
      let next : z + suc k ≡ suc (z + k) = omega arith in
      let n = length rs in
      let u = use_on p rs (z + k) in
      let each = sum_to-eq n (λ m. count_of (works_for (suc m)) (history p rs (suc (z + k))))
      (λ m. count_of (works_for (suc m)) (history p rs (z + k)) + counted_if (works_for (suc m) u))
      (λ m h. history-next p rs (z + k) (works_for (suc m))) in
      let split = sum_to-add n (λ m. count_of (works_for (suc m)) (history p rs (z + k))) (λ m. counted_if (works_for (suc m) u)) in
      rw next (omega (arith, shared-from k, day-shared u n))

  pub needs-fit-from : (k : ℕ)
      → ((m : ℕ) → m < length rs → (get_or rs m no_release).need.0 ≤ count_of (works_for (suc m)) (history p rs (z + k)))
      → sum_of (λ r. r.need.0) rs ≤ k
  needs-fit-from k done =
      let most = sum_of-sum_to (λ m. count_of (works_for (suc m)) (history p rs (z + k))) (λ r. r.need.0) rs no_release done in
      omega (arith, shared-from k)
