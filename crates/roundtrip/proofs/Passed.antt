-- The lines of a lawful plan and its releases pass every check of the reader, in every version.
use Rattle.base.proofs.Prelude.{ℕ, suc, ◌+◌, ◌≤◌, ◌≡◌, refl, ap, true, List, [], ◌∷◌, ◌++◌, map, arith, le-ltb, eq-eqb, length, take_at}
use Rattle.faults.specs.Checks.{Lawful}
use Rattle.base.specs.Count.{All, least_from}
use Rattle.base.proofs.Lists.{by_bool}
use Rattle.rules.specs.{declared.BatteryString.BatteryString, declared.Plan.Plan, declared.Release.Release, Plan.{strings_of, common_multiple, multiple_of}, Release.{release_lawful, unlawful_from}, Layout.{held_to, header_frame, string_frame, release_frame}, Text.{Line, header_check, version_check, string_line_check, string_lines_check, release_line_check, release_lines_check}}
use Rattle.laws.specs.Lawful.{LawfulPlan}
use Rattle.laws.proofs.Lawful.{head_check-good, cost_check-good, string_lawful-yes}
use Rattle.writing.specs.Written.{header_says, string_says, release_says}
use Rattle.roundtrip.specs.OneText.{trimmed_plan}
use Rattle.roundtrip.proofs.{Framed.written-lawful, PlanLines.{header_line, line_of_string, line_of_release, Told, Stated, version-said, n-said, a_small, run-said, string-read-back, release-said}}

-- ---- The header and the strings

pub header-passes : (k : ℕ) (p : Plan) → LawfulPlan p → header_check (held_to k) (header_line (held_to k) p) ≡ Lawful
unfolding header_check version_check
header-passes k p ok =
    let v = held_to k in
    rw (
      written-lawful (header_frame v) (header_says v.number p) (omega arith) 1,
      eq-eqb _ v.number (version-said p ok k),
      n-said p ok k,
      run-said p ok k,
      head_check-good 1 p.n p.run.0 (record { n_pos = ok.n_pos; n_max = ok.n_max; run_pos = ok.run_pos; run_max = ok.run_max }),
    )
    (cost_check-good 1 _ (a_small p ok k))

module _ (k : ℕ) (header : Line) where
  string-passes : (at : ℕ) (s : BatteryString) → Told (held_to k) header s
      → string_line_check (held_to k) header at (line_of_string (held_to k) s) ≡ Lawful
  unfolding string_line_check
  string-passes at s ok =
      rw (
        written-lawful (string_frame (held_to k)) (string_says s) (omega arith) at,
        string-read-back s ok.0 k header ok.1 ok.2,
        string_lawful-yes s ok.0,
      )

  pub strings-pass : (at : ℕ) (ss : List BatteryString) → All (Told (held_to k) header) ss → (more : List Line)
      → string_lines_check (held_to k) header at (length ss) (map (line_of_string (held_to k)) ss ++ more) ≡ Lawful
  unfolding string_lines_check
  strings-pass at [] ok more = refl
  strings-pass at (s ∷ ss) ok more = rw (string-passes at s ok.0) (strings-pass (suc at) ss ok.1 more)

-- ---- A plan with no string after its n-th is the same plan

module _ (p : Plan) (many : length (strings_of p) ≡ p.n) where
  trimmed-strings : strings_of (trimmed_plan p) ≡ strings_of p
  trimmed-strings = take_at (strings_of p) _ p.n many

  pub trimmed-multiple : multiple_of (trimmed_plan p) ≡ multiple_of p
  unfolding multiple_of
  trimmed-multiple = ap (λ ss. least_from (common_multiple ss) 1 100000) trimmed-strings

  pub trimmed-lawful : (seen : List Release) (r : Release) → release_lawful (trimmed_plan p) seen r ≡ release_lawful p seen r
  unfolding release_lawful
  trimmed-lawful seen r = rw trimmed-strings

-- ---- The releases

module _ (v : ℕ) (p q : Plan) (same : (seen : List Release) (r : Release) → release_lawful q seen r ≡ release_lawful p seen r) where
  abbrev line_of : Release → Line
  line_of r = line_of_release (held_to v) r

  release-passes : (k j : ℕ) (seen : List Release) (r : Release) → Stated (held_to v) r → j ≤ 1000 → release_lawful p seen r ≡ true
      → release_line_check (held_to v) q k j seen (line_of r) ≡ Lawful
  unfolding release_line_check
  release-passes k j seen r ok few lawful =
      rw (
        written-lawful (release_frame (held_to v)) (release_says r) (omega arith) k,
        le-ltb 1000 j few,
        release-said r v ok,
        same seen r,
        lawful,
      )

  pub releases-pass : (k j i : ℕ) (seen rs : List Release) → All (Stated (held_to v)) rs → j + length rs ≤ 1001 → 1 ≤ i
      → unlawful_from p seen i rs ≡ 0 → release_lines_check (held_to v) q k j seen (map line_of rs) ≡ Lawful
  unfolding release_lines_check unlawful_from
  releases-pass k j i seen [] ok few pos none = refl
  releases-pass k j i seen (r ∷ rs) ok few pos none =
      by_bool (release_lawful p seen r)
      (λ t.
      rw (release-passes k j seen r ok.0 (omega arith) t, release-said r v ok.0)
      (releases-pass (suc k) (suc j) (suc i) (r ∷ seen) rs ok.1 (omega arith) (omega arith) (rw t at none)))
      (λ e.
      let first = rw e at none in
      absurd (omega arith))
