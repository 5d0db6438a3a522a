-- Numbers that lack something are refused: a plan whose count is not 1 + 6 n, and a list whose last release lacks a number.
use Rattle.base.proofs.Prelude.{ℕ, zero, suc, le-ltb, ◌+◌, ◌-◌, ◌*◌, ◌/◌, ◌%◌, ◌≤◌, ◌<◌, min, ◌≡◌, sym, ap, ◌∙◌, List, map, arith, dec_le, ℕ_discrete, length, get_or, length-map, take_at}
use Rattle.faults.specs.Checks.{Refused, Lawful}
use Rattle.base.specs.Count.{up_from}
use Rattle.faults.specs.declared.Fault.TheVariants.{StringCount}
use Rattle.rules.specs.{declared.Plan.Plan, Release.{releases_of, no_release}, Refusal.{plan_check, count_check, run_check}}
use Rattle.laws.proofs.{Releases.run_check-lawful, ReleaseList.release-lawful}
use Rattle.entries.specs.Given.{string_count, plan_given, release_count, need_from, release_from, releases_given}
use Rattle.entries.proofs.Giving.{no-sixes, too_many, as_many, up_from-length}

-- ---- A plan

no-strings : (ns : List ℕ) → ((n : ℕ) → 1 ≤ n → n ≤ 10 → length ns ≡ 1 + n * 6 → ⊥) → string_count ns ≡ 0
no-strings ns other =
    elim (ℕ_discrete (length ns % 6) 1) [
      | yes sixes ↦
          elim (dec_le (length ns / 6) 10) [
            | yes few ↦
                elim (dec_le 1 (length ns / 6)) [
                  | yes some ↦ absurd (other (length ns / 6) some few (omega arith))
                  | no none ↦ omega (arith, as_many ns sixes few)
                ]
            | no many ↦ sym (too_many ns sixes (omega arith))
          ]
      | no rest ↦ sym (no-sixes ns rest)
    ]

-- 4 with 0 for any other count than 1 + 6 n with n 1 to 10
pub other-count-refused : (ns : List ℕ) → ((n : ℕ) → 1 ≤ n → n ≤ 10 → length ns ≡ 1 + n * 6 → ⊥)
    → plan_check (plan_given ns) ≡ Refused StringCount 0
unfolding plan_check count_check plan_given
other-count-refused ns other = rw (no-strings ns other)

-- ---- A list of releases

at_place {ℓ} : {A : Type ℓ} (f : ℕ → A) (z : A) (k n m : ℕ) → m < n → get_or (map f (up_from k n)) m z ≡ f (k + m)
unfolding up_from
at_place f z k zero m h = absurd (omega arith)
at_place f z k (suc n) zero h =
    let here : k ≡ k + 0 = omega arith in
    ap f here
at_place f z k (suc n) (suc m) h =
    let there : suc k + m ≡ k + suc m = omega arith in
    at_place f z (suc k) n m (omega arith) ∙ ap f there

listed : (ns : List ℕ) → release_count ns ≤ 1000
    → releases_of (releases_given ns) ≡ map (λ i. release_from ns (i * 4)) (up_from 0 (release_count ns))
unfolding releases_given
listed ns few =
    let all : min 1000 (release_count ns) ≡ release_count ns = omega arith in
    rw all (take_at _ _ (release_count ns) (length-map (up_from 0 (release_count ns)) _ ∙ up_from-length 0 (release_count ns)))

count-few : (ns : List ℕ) → (releases_given ns).count ≤ 1000 → release_count ns ≤ 1000
unfolding releases_given
count-few ns h = h

-- a release that lacks a number needs no day
need_from-lacks : (ns : List ℕ) (at : ℕ) → length ns ≤ at + 3 → need_from ns at ≡ 0
unfolding need_from
need_from-lacks ns at past = rw (le-ltb (at + 3) (length ns) past)

-- the last release, where a number is lacking, needs no day
last-lacks : (ns : List ℕ) → (length ns % 4 ≡ 0 → ⊥) → release_count ns ≤ 1000
    → (1 ≤ release_count ns) × ((get_or (releases_of (releases_given ns)) (release_count ns - 1) no_release).need.0 ≡ 0)
unfolding release_count
last-lacks ns lacks few =
    let m = (length ns + 3) / 4 - 1 in
    let past : length ns ≤ m * 4 + 3 = omega arith in
    let here : 0 + m ≡ m = omega arith in
    let placed = at_place (λ i. release_from ns (i * 4)) no_release 0 ((length ns + 3) / 4) m (omega arith) in
    let last = ap (λ rs. get_or rs m no_release) (listed ns few) ∙ placed in
    (omega arith, ap (λ r. r.need.0) last ∙ ap (λ i. need_from ns (i * 4)) here ∙ need_from-lacks ns (m * 4) past)

-- no plan has a lawful list in which a number is lacking
pub lacking-refused : (p : Plan) (ns : List ℕ) → (length ns % 4 ≡ 0 → ⊥) → run_check p (releases_given ns) ≡ Lawful → ⊥
lacking-refused p ns lacks lawful =
    let run_is = run_check-lawful p (releases_given ns) lawful in
    let few = count-few ns run_is.few in
    let last = last-lacks ns lacks few in
    let many = ap length (listed ns few) ∙ length-map (up_from 0 (release_count ns)) _ ∙ up_from-length 0 (release_count ns) in
    let lawful-last = release-lawful p (releases_of (releases_given ns)) run_is.none_bad (release_count ns - 1) (omega (arith, last.0)) in
    omega (arith, lawful-last.need_pos, last.1)
