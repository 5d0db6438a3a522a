-- When a chain of checks says a refusal: what each of its checks can say decides. A plan and its releases are refused by 4 to 8, a text by
-- 1 to 8; and what a text's later lines are refused by is never 3 at line 1.
--     Numbered k f at       the fault f has a number up to k
--     Never n f at          it has another number than n
--     Behind f at           it has a number up to 8, and if that is 3 it stands behind line 1
use Rattle.base.proofs.Prelude.{ℕ, zero, suc, ◌+◌, ◌≤◌, ◌<◌, ◌≡◌, refl, ap, ◌∙◌, ◌↔◌, Bool, true, false, not, ◌&&◌, List, [], ◌∷◌, arith, ltb, eqb, length, drop}
use Rattle.faults.specs.Checks.{Lawful, Checked}
use Rattle.std.specs.Prelude.{Ok, Err}
use Rattle.base.proofs.Lists.{true-not-false}
use Rattle.faults.specs.declared.Fault.{Fault}
use Rattle.faults.specs.declared.Fault.TheVariants.{TextTooLong, LineMalformed, FrameWrong, StringCount, OutOfBounds, MultipleOver, ReleaseTooMany, ReleaseUnlawful}
use Rattle.faults.specs.Checks.{fault_number, then, refuse_if, in_bounds}
use Rattle.faults.proofs.{Checks.refused-not-lawful, Refusing.{Refusals, refusals-then, refusals-if, refusals-map}}
use Rattle.rules.specs.{declared.BatteryString.BatteryString, declared.Plan.Plan, declared.Release.Release, declared.Releases.Releases, Plan.{strings_of, cost_lawful, string_lawful, multiple_of}, Release.{releases_of, release_lawful, first_unlawful}, Refusal.{count_check, run_length_check, head_check, cost_check, string_check, multiple_check, many_check, strings_check, plan_check, releases_check, run_check}, Layout.{Layout, Version, frame_size, kind_in, header_frame, string_frame, release_frame, Number}, Text.{Line, lines_of, well_formed, frame_of, field_of, n_in, run_in, a_in, string_of, release_of, plan_in, frame_check, layout_check, version_check, header_check, string_line_check, string_lines_check, release_line_check, release_lines_check, body_check, lines_check, text_check, lawful_reading, reading_in, version_of, reading_of}, Said.{lawful, refused, checked_says}}

-- ---- What a chain says

abbrev pub Numbered : ℕ → Fault → ℕ → Type 0
Numbered k f at = fault_number f ≤ k

abbrev pub Never : ℕ → Fault → ℕ → Type 0
Never n f at = fault_number f ≡ n → ⊥

pub lawful-no-refusal : (n k : ℕ) → lawful ≡ refused n k → ⊥
lawful-no-refusal n k h =
    let z : ◌≡◌ {A = ℕ} 0 1 = cc in
    omega arith

module _ (n k : ℕ) where
  never-says : (c : Checked) → Refusals (Never n) c → checked_says c ≡ refused n k → ⊥
  never-says (Ok _) other h = lawful-no-refusal n k h
  never-says (Err e) other h =
      let number : fault_number e.fault ≡ n = cc in
      other number

  pub if-says : (bad : Bool) (f : Fault) (at : ℕ)
      → (checked_says (refuse_if bad f at) ≡ refused n k) ↔ ((bad ≡ true) × (fault_number f ≡ n) × (at ≡ k))
  if-says true f at = (
    λ h.
        let number : fault_number f ≡ n = cc in
        let place : at ≡ k = cc in
        (refl, number, place),
    λ h. ap (λ m. refused m at) h.1 ∙ ap (refused n) h.2,
  )
  if-says false f at = (λ h. absurd (lawful-no-refusal n k h), λ h. absurd (true-not-false (sym-true h.0)))
    where
      sym-true : false ≡ true → true ≡ false
      sym-true e = rw e

  -- the first check decides where the second never has the number
  pub first_says : (a b : Checked) → Refusals (Never n) b → (checked_says (then a b) ≡ refused n k) ↔ (checked_says a ≡ refused n k)
  first_says (Ok _) b other = (λ h. absurd (never-says b other h), λ h. absurd (lawful-no-refusal n k h))
  first_says (Err e) b other = (λ h. h, λ h. h)

  -- the second decides where the first finds nothing and never has the number
  pub second-says : (a b : Checked) → Refusals (Never n) a
      → (checked_says (then a b) ≡ refused n k) ↔ ((a ≡ Lawful) × (checked_says b ≡ refused n k))
  second-says (Ok _) b other = (λ h. (refl, h), λ h. h.1)
  second-says (Err e) b other =
      (λ h. absurd (never-says (Err e) other h), λ h. absurd (refused-not-lawful e.fault e.at h.0))

pub never-above : (n k : ℕ) → k < n → (c : Checked) → Refusals (Numbered k) c → Refusals (Never n) c
never-above n k over = refusals-map (Numbered k) (Never n) (λ f at low is. omega arith)

-- ---- Numbers: 4 to 8

module _ (P : Fault → ℕ → Type 0) where
  strings-refuse : (k : ℕ) (ss : List BatteryString) → ((i : ℕ) → k ≤ i → P OutOfBounds i) → Refusals P (strings_check k ss)
  unfolding strings_check
  strings-refuse k [] h = tt
  strings-refuse k (s ∷ ss) h =
      refusals-then P (string_check k s) (strings_check (suc k) ss) (refusals-if P (not (string_lawful s)) OutOfBounds k
      (h k (omega arith)))
      (strings-refuse (suc k) ss (λ i low. h i (omega arith)))

  head-refuses : (at n run : ℕ) → P StringCount at → P OutOfBounds at → Refusals P (head_check at n run)
  unfolding count_check run_length_check
  head-refuses at n run count bounds =
      refusals-then P (count_check at n) (run_length_check at run) (refusals-if P (not (in_bounds 1 n 10)) StringCount at count)
      (refusals-if P (not (in_bounds 1 run 1000000)) OutOfBounds at bounds)

pub plan_check-numbers : (p : Plan) → Refusals (Numbered 8) (plan_check p)
unfolding plan_check multiple_check
plan_check-numbers p =
    let low = Numbered 8 in
    let strings = strings_check 1 (strings_of p) in
    refusals-then low (head_check 0 p.n p.run.0) (then strings (multiple_check 0 p))
    (head-refuses low 0 p.n p.run.0 (omega arith) (omega arith))
    (refusals-then low strings (multiple_check 0 p) (strings-refuse low 1 (strings_of p) (λ i h. omega arith))
    (refusals-if low (ltb 100000 (multiple_of p)) MultipleOver 0 (omega arith)))

pub run_check-numbers : (p : Plan) (rs : Releases) → Refusals (Numbered 8) (run_check p rs)
unfolding run_check releases_check
run_check-numbers p rs =
    let low = Numbered 8 in
    let bad = first_unlawful p (releases_of rs) in
    refusals-then low (plan_check p) (releases_check p rs) (plan_check-numbers p)
    (refusals-then low (many_check 1001 rs.count) (refuse_if (ltb 0 bad) ReleaseUnlawful bad)
    (refusals-if low (ltb 1000 rs.count) ReleaseTooMany 1001 (omega arith))
    (refusals-if low (ltb 0 bad) ReleaseUnlawful bad (omega arith)))

-- ---- Texts: 1 to 8

layout-refuses : (P : Fault → ℕ → Type 0) {F : Type 0} (k : ℕ) (l : Layout F) (line : Line) → P LineMalformed k → P FrameWrong k
    → Refusals P (layout_check k l line)
unfolding frame_check
layout-refuses P k l line two three =
    let good = well_formed line in
    let sized = eqb (length (frame_of line)) (frame_size l) && eqb (kind_in (frame_of line)) l.kind in
    refusals-then P (refuse_if (not good) LineMalformed k) (refuse_if (not sized) FrameWrong k)
    (refusals-if P (not good) LineMalformed k two) (refusals-if P (not sized) FrameWrong k three)

abbrev pub Behind : Fault → ℕ → Type 0
Behind f at = (fault_number f ≤ 8) × (fault_number f ≡ 3 → 2 ≤ at)

-- the fault is none of the frames'
abbrev Unframed : Fault → Type 0
Unframed f = (fault_number f ≤ 8) × (fault_number f ≡ 3 → ⊥)

unframed-behind : (f : Fault) (at : ℕ) → Unframed f → Behind f at
unframed-behind f at h = (h.0, λ three. absurd (h.1 three))

module _ (v : Version) where
  strings-behind : (header : Line) (k m : ℕ) (lines : List Line) → 2 ≤ k → Refusals Behind (string_lines_check v header k m lines)
  unfolding string_lines_check string_line_check
  strings-behind header k zero lines low = tt
  strings-behind header k (suc m) [] low = (omega arith, λ three. low)
  strings-behind header k (suc m) (line ∷ lines) low =
      refusals-then Behind (string_line_check v header k line) (string_lines_check v header (suc k) m lines)
      (refusals-then Behind (layout_check k (string_frame v) line) (string_check k (string_of v header line))
      (layout-refuses Behind k (string_frame v) line (omega arith, λ three. low) (omega arith, λ three. low))
      (refusals-if Behind (not (string_lawful (string_of v header line))) OutOfBounds k (omega arith, λ three. low)))
      (strings-behind header (suc k) m lines (omega arith))

  releases-behind : (p : Plan) (k j : ℕ) (seen : List Release) (lines : List Line) → 2 ≤ k
      → Refusals Behind (release_lines_check v p k j seen lines)
  unfolding release_lines_check release_line_check
  releases-behind p k j seen [] low = tt
  releases-behind p k j seen (line ∷ lines) low =
      let bad = not (release_lawful p seen (release_of v line)) in
      refusals-then Behind (release_line_check v p k j seen line) (release_lines_check v p (suc k) (suc j) (release_of v line ∷ seen) lines)
      (refusals-then Behind (layout_check k (release_frame v) line) (then (many_check k j) (refuse_if bad ReleaseUnlawful k))
      (layout-refuses Behind k (release_frame v) line (omega arith, λ three. low) (omega arith, λ three. low))
      (refusals-then Behind (many_check k j) (refuse_if bad ReleaseUnlawful k)
      (refusals-if Behind (ltb 1000 j) ReleaseTooMany k (omega arith, λ three. low))
      (refusals-if Behind bad ReleaseUnlawful k (omega arith, λ three. low))))
      (releases-behind p (suc k) (suc j) (release_of v line ∷ seen) lines (omega arith))

  pub body-behind : (header : Line) (p : Plan) (lines : List Line) → Refusals Behind (body_check v header p lines)
  unfolding body_check multiple_check
  body-behind header p lines =
      let releases = release_lines_check v p (p.n + 2) 1 [] (drop p.n lines) in
      refusals-then Behind (string_lines_check v header 2 p.n lines) (then (multiple_check (p.n + 1) p) releases)
      (strings-behind header 2 p.n lines (omega arith))
      (refusals-then Behind (multiple_check (p.n + 1) p) releases
      (refusals-if Behind (ltb 100000 (multiple_of p)) MultipleOver (p.n + 1)
      (unframed-behind MultipleOver (p.n + 1) (omega arith, λ three. omega arith)))
      (releases-behind p (p.n + 2) 1 [] (drop p.n lines) (omega arith)))

  -- 4 and 5 of a header whose frame is right
  pub numbers-behind : (line : Line) → Refusals Behind (then (head_check 1 (n_in v line) (run_in v line)) (cost_check 1 (a_in v line)))
  unfolding cost_check
  numbers-behind line =
      let five : Behind OutOfBounds 1 = unframed-behind OutOfBounds 1 (omega arith, λ three. omega arith) in
      refusals-then Behind (head_check 1 (n_in v line) (run_in v line)) (cost_check 1 (a_in v line))
      (head-refuses Behind 1 (n_in v line) (run_in v line)
      (unframed-behind StringCount 1 (omega arith, λ three. omega arith)) five)
      (refusals-if Behind (not (cost_lawful (a_in v line))) OutOfBounds 1 five)

  header-numbers : (line : Line) → Refusals (Numbered 8) (header_check v line)
  unfolding header_check version_check
  header-numbers line =
      let low = Numbered 8 in
      let numbers = then (head_check 1 (n_in v line) (run_in v line)) (cost_check 1 (a_in v line)) in
      refusals-then low (layout_check 1 (header_frame v) line) (then (version_check v line) numbers)
      (layout-refuses low 1 (header_frame v) line (omega arith) (omega arith))
      (refusals-then low (version_check v line) numbers
      (refusals-if low (not (eqb (field_of (header_frame v) Number line) v.number)) FrameWrong 1 (omega arith))
      (refusals-map Behind low (λ f at h. h.0) numbers (numbers-behind line)))

  lines-numbers : (lines : List Line) → Refusals (Numbered 8) (lines_check v lines)
  unfolding lines_check
  lines-numbers [] = omega arith
  lines-numbers (header ∷ lines) =
      let body = body_check v header (plan_in v (header ∷ lines)) lines in
      refusals-then (Numbered 8) (header_check v header) body (header-numbers header)
      (refusals-map Behind (Numbered 8) (λ f at h. h.0) body (body-behind header (plan_in v (header ∷ lines)) lines))

  text_check-numbers : (text : List ℕ) → Refusals (Numbered 8) (text_check v text)
  unfolding text_check
  text_check-numbers text =
      refusals-then (Numbered 8) (refuse_if (ltb 65536 (length text)) TextTooLong 0) (lines_check v (lines_of text))
      (refusals-if (Numbered 8) (ltb 65536 (length text)) TextTooLong 0 (omega arith)) (lines-numbers (lines_of text))

reading-check : (v : Version) (c : Checked) (lines : List Line) → (lawful_reading v c lines).checked ≡ c
unfolding lawful_reading
reading-check v (Ok _) lines = refl
reading-check v (Err e) lines = refl

-- a reading is refused by what its text is refused by
pub reading-is-checked : (v : Version) (text : List ℕ) → (reading_in v text).checked ≡ text_check v text
unfolding reading_in
reading-is-checked v text = reading-check v (text_check v text) (lines_of text)

pub reading-numbers : (v : Version) (text : List ℕ) → Refusals (Numbered 8) (reading_in v text).checked
reading-numbers v text = rw (reading-is-checked v text) (text_check-numbers v text)

pub read-numbers : (text : List ℕ) → Refusals (Numbered 8) (reading_of text).checked
unfolding reading_of
read-numbers text = reading-numbers (version_of (lines_of text)) text
