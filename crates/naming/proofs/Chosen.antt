-- Which case of a definition holds, from what the code's tests say of the numbers.
use Rattle.base.proofs.Prelude.{ℕ, suc, ◌+◌, ◌-◌, ◌/◌, ◌%◌, ◌≤◌, ◌<◌, ◌≡◌, List, arith, lt-ltb, le-ltb, le-leb, lt-leb, eq-eqb, ne_eqb, length, get_or}
use Rattle.rules.specs.{declared.BatteryString.BatteryString, Layout.{Version, frame_size, kind_in, version_in, header_frame, string_frame, release_frame}, Text.hex_bytes}
use Rattle.lines.specs.declared.reasons.Reason.TheVariants.{Empty, CarriageReturn, Space, Capital, NoDigit, OddNumber, Unended, NoHeader, StringMissing, OtherKind, OtherVersion, OtherLength, CommonCostOut, RunOut, PeriodOut, DueOut, LateOut, NoWork, WorkOut, LateWorkOut, PermissionOut, CostOut, OutOfOrder, BeforeDue, TooLate, TooClose}
use Rattle.naming.specs.{Malformed.{other_at, character_reason, malformed_reason}, Frames.{missing_reason, kind_due, length_due, header_reason, frame_reason}, Outside.{head_reason, work_reason, rest_reason, string_reason}, Released.day_reason}

-- ---- 2

module _ (i b : ℕ) where
  pub is-return : b ≡ 13 → CarriageReturn i ≡ character_reason i b
  unfolding character_reason
  is-return h = rw (eq-eqb b 13 h)

  pub is-space : b ≡ 32 → Space i ≡ character_reason i b
  unfolding character_reason
  is-space h =
      let other : b ≡ 13 → ⊥ = λ e. omega arith in
      rw (ne_eqb b 13 other, eq-eqb b 32 h)

  pub is-low : (b ≡ 13 → ⊥) → (b ≡ 32 → ⊥) → b < 65 → NoDigit i ≡ character_reason i b
  unfolding character_reason
  is-low h k low = rw (ne_eqb b 13 h, ne_eqb b 32 k, lt-leb 65 b low)

  pub is-high : 90 < b → NoDigit i ≡ character_reason i b
  unfolding character_reason
  is-high high =
      let h : b ≡ 13 → ⊥ = λ e. omega arith in
      let k : b ≡ 32 → ⊥ = λ e. omega arith in
      let low : 65 ≤ b = omega arith in
      rw (ne_eqb b 13 h, ne_eqb b 32 k, le-leb 65 b low, lt-leb b 90 high)

  pub is-capital : 65 ≤ b → b ≤ 90 → Capital i ≡ character_reason i b
  unfolding character_reason
  is-capital low high =
      let h : b ≡ 13 → ⊥ = λ e. omega arith in
      let k : b ≡ 32 → ⊥ = λ e. omega arith in
      rw (ne_eqb b 13 h, ne_eqb b 32 k, le-leb 65 b low, le-leb b 90 high)

module _ (bytes : List ℕ) where
  pub is-empty : length bytes ≡ 0 → Empty ≡ malformed_reason bytes
  unfolding malformed_reason
  is-empty h = rw (eq-eqb (length bytes) 0 h)

  pub is-other : (at : ℕ) → at ≡ other_at bytes → at < length bytes
      → character_reason (at + 1) (get_or bytes at 0) ≡ malformed_reason bytes
  unfolding malformed_reason
  is-other at e h =
      let some : length bytes ≡ 0 → ⊥ = λ z. omega arith in
      let next : suc at ≡ at + 1 = omega arith in
      rw (ne_eqb (length bytes) 0 some, ← e, lt-ltb at (length bytes) h, next)

  pub is-unended : (at : ℕ) → at ≡ other_at bytes → length bytes ≤ at → (length bytes ≡ 0 → ⊥) → length bytes % 2 ≡ 0
      → Unended ≡ malformed_reason bytes
  unfolding malformed_reason
  is-unended at e h some even =
      rw (ne_eqb (length bytes) 0 some, ← e, le-ltb at (length bytes) h, eq-eqb (length bytes % 2) 0 even)

  pub is_odd : (at : ℕ) → at ≡ other_at bytes → length bytes ≤ at → (length bytes ≡ 0 → ⊥) → (length bytes % 2 ≡ 0 → ⊥)
      → OddNumber (length bytes) ≡ malformed_reason bytes
  unfolding malformed_reason
  is_odd at e h some odd =
      rw (ne_eqb (length bytes) 0 some, ← e, le-ltb at (length bytes) h, ne_eqb (length bytes % 2) 0 odd)

-- ---- 3

module _ (n k : ℕ) where
  pub no_header : k ≤ 1 → NoHeader ≡ missing_reason n k
  unfolding missing_reason
  no_header h = rw (le-leb k 1 h)

  pub no-string : 1 < k → StringMissing (k - 1) n ≡ missing_reason n k
  unfolding missing_reason
  no-string h = rw (lt-leb k 1 h)

  pub due-header : (v : Version) → k ≤ 1 → (1 ≡ kind_due n k) × (frame_size (header_frame v) ≡ length_due v n k)
  unfolding kind_due length_due
  due-header v h = (rw (le-leb k 1 h), rw (le-leb k 1 h))

  pub due-string : (v : Version) → 1 < k → k - 1 ≤ n → (2 ≡ kind_due n k) × (frame_size (string_frame v) ≡ length_due v n k)
  unfolding kind_due length_due
  due-string v h few = (rw (lt-leb k 1 h, le-leb (k - 1) n few), rw (lt-leb k 1 h, le-leb (k - 1) n few))

  pub due-release : (v : Version) → 1 < k → n < k - 1 → (3 ≡ kind_due n k) × (frame_size (release_frame v) ≡ length_due v n k)
  unfolding kind_due length_due
  due-release v h many = (rw (lt-leb k 1 h, lt-leb (k - 1) n many), rw (lt-leb k 1 h, lt-leb (k - 1) n many))

module _ (v : Version) (bytes : List ℕ) where
  module _ (size : ℕ) (e : size ≡ frame_size (header_frame v)) where
    pub header-too-few : length bytes / 2 < 2 → OtherLength (length bytes / 2) size ≡ header_reason v bytes
    unfolding header_reason
    header-too-few h = rw (← e, lt-ltb (length bytes / 2) 2 h)

    pub header-same : 2 ≤ length bytes / 2 → version_in (hex_bytes bytes) ≡ v.number → OtherLength
        (length bytes / 2) size ≡ header_reason v bytes
    unfolding header_reason
    header-same h same = rw (← e, le-ltb (length bytes / 2) 2 h, eq-eqb (version_in (hex_bytes bytes)) v.number same)

  pub header-other : (number : ℕ) → 2 ≤ length bytes / 2 → number ≡ version_in (hex_bytes bytes) → (number ≡ v.number → ⊥)
      → OtherVersion number ≡ header_reason v bytes
  unfolding header_reason
  header-other number h is other = rw (← is, le-ltb (length bytes / 2) 2 h, ne_eqb number v.number other)

  module _ (n k : ℕ) where
    pub frame-missing : length bytes ≡ 0 → missing_reason n k ≡ frame_reason v n k bytes
    unfolding frame_reason
    frame-missing h = rw (eq-eqb (length bytes) 0 h)

    module _ (some : length bytes ≡ 0 → ⊥) (kind due : ℕ) (is : kind ≡ kind_in (hex_bytes bytes)) (asked : due ≡ kind_due n k) where
      pub frame-kind : (kind ≡ due → ⊥) → OtherKind kind due ≡ frame_reason v n k bytes
      unfolding frame_reason
      frame-kind other = rw (ne_eqb (length bytes) 0 some, ← is, ← asked, ne_eqb kind due other)

      pub frame-head : kind ≡ due → k ≤ 1 → header_reason v bytes ≡ frame_reason v n k bytes
      unfolding frame_reason
      frame-head same h = rw (ne_eqb (length bytes) 0 some, ← is, ← asked, eq-eqb kind due same, le-leb k 1 h)

      pub frame-other-length : (size : ℕ) → size ≡ length_due v n k → kind ≡ due → 1 < k → OtherLength
          (length bytes / 2) size ≡ frame_reason v n k bytes
      unfolding frame_reason
      frame-other-length size e same h = rw (ne_eqb (length bytes) 0 some, ← is, ← asked, eq-eqb kind due same, lt-leb k 1 h, ← e)

-- ---- 5

module _ (a run : ℕ) where
  pub cost-out : 1000 < a → CommonCostOut a ≡ head_reason a run
  unfolding head_reason
  cost-out h = rw (lt-ltb 1000 a h)

  pub run_out : a ≤ 1000 → RunOut run ≡ head_reason a run
  unfolding head_reason
  run_out h = rw (le-ltb 1000 a h)

module _ (i c d j : ℕ) where
  pub work-out : j ≡ 0 → WorkOut i c d ≡ work_reason i c d j
  unfolding work_reason
  work-out h = rw (eq-eqb j 0 h)

  pub late-work-out : (j ≡ 0 → ⊥) → LateWorkOut i c d j ≡ work_reason i c d j
  unfolding work_reason
  late-work-out h = rw (ne_eqb j 0 h)

module _ (i : ℕ) (s : BatteryString) where
  pub no-work : s.c.0 ≡ 0 → NoWork i ≡ rest_reason i s
  unfolding rest_reason
  no-work h = rw (eq-eqb s.c.0 0 h)

  pub much-work : (s.c.0 ≡ 0 → ⊥) → s.d.0 < s.c.0 + s.j.0 → work_reason i s.c.0 s.d.0 s.j.0 ≡ rest_reason i s
  unfolding rest_reason
  much-work some h = rw (ne_eqb s.c.0 0 some, lt-ltb s.d.0 (s.c.0 + s.j.0) h)

  pub other-permission : (s.c.0 ≡ 0 → ⊥) → s.c.0 + s.j.0 ≤ s.d.0 → 1 < s.x → PermissionOut i s.x ≡ rest_reason i s
  unfolding rest_reason
  other-permission some h k = rw (ne_eqb s.c.0 0 some, le-ltb s.d.0 (s.c.0 + s.j.0) h, lt-ltb 1 s.x k)

  pub much-cost : (s.c.0 ≡ 0 → ⊥) → s.c.0 + s.j.0 ≤ s.d.0 → s.x ≤ 1 → CostOut i s.a.0 ≡ rest_reason i s
  unfolding rest_reason
  much-cost some h k = rw (ne_eqb s.c.0 0 some, le-ltb s.d.0 (s.c.0 + s.j.0) h, le-ltb 1 s.x k)

  pub period-low : s.t.0 < 1 → PeriodOut i s.t.0 ≡ string_reason i s
  unfolding string_reason
  period-low h = rw (lt-leb 1 s.t.0 h)

  pub period-high : 1000 < s.t.0 → PeriodOut i s.t.0 ≡ string_reason i s
  unfolding string_reason
  period-high h =
      let low : 1 ≤ s.t.0 = omega arith in
      rw (le-leb 1 s.t.0 low, lt-leb s.t.0 1000 h)

  module _ (low : 1 ≤ s.t.0) (high : s.t.0 ≤ 1000) where
    pub due-low : s.d.0 < 1 → DueOut i s.d.0 s.t.0 ≡ string_reason i s
    unfolding string_reason
    due-low h = rw (le-leb 1 s.t.0 low, le-leb s.t.0 1000 high, lt-leb 1 s.d.0 h)

    pub due-high : s.t.0 < s.d.0 → DueOut i s.d.0 s.t.0 ≡ string_reason i s
    unfolding string_reason
    due-high h =
        let some : 1 ≤ s.d.0 = omega arith in
        rw (le-leb 1 s.t.0 low, le-leb s.t.0 1000 high, le-leb 1 s.d.0 some, lt-leb s.d.0 s.t.0 h)

    pub late-out : 1 ≤ s.d.0 → s.d.0 ≤ s.t.0 → s.d.0 ≤ s.j.0 → LateOut i s.j.0 s.d.0 ≡ string_reason i s
    unfolding string_reason
    late-out some few h =
        rw (
          le-leb 1 s.t.0 low,
          le-leb s.t.0 1000 high,
          le-leb 1 s.d.0 some,
          le-leb s.d.0 s.t.0 few,
          le-leb s.d.0 s.j.0 h,
        )

    pub rest_out : 1 ≤ s.d.0 → s.d.0 ≤ s.t.0 → s.j.0 < s.d.0 → rest_reason i s ≡ string_reason i s
    unfolding string_reason
    rest_out some few h =
        rw (
          le-leb 1 s.t.0 low,
          le-leb s.t.0 1000 high,
          le-leb 1 s.d.0 some,
          le-leb s.d.0 s.t.0 few,
          lt-leb s.d.0 s.j.0 h,
        )

-- ---- 8

module _ (s : BatteryString) (t due ahead before : ℕ) where
  pub out-of-order : t < ahead → OutOfOrder t ahead ≡ day_reason s t due ahead before
  unfolding day_reason
  out-of-order h = rw (lt-ltb t ahead h)

  pub before-due : ahead ≤ t → t < due → BeforeDue t due ≡ day_reason s t due ahead before
  unfolding day_reason
  before-due g h = rw (le-ltb t ahead g, lt-ltb t due h)

  pub too-late : ahead ≤ t → due ≤ t → due + s.j.0 < t → TooLate t s.j.0 due ≡ day_reason s t due ahead before
  unfolding day_reason
  too-late g h k = rw (le-ltb t ahead g, le-ltb t due h, lt-ltb (due + s.j.0) t k)

  pub too-close : ahead ≤ t → due ≤ t → t ≤ due + s.j.0 → TooClose due s.t.0 before ≡ day_reason s t due ahead before
  unfolding day_reason
  too-close g h k = rw (le-ltb t ahead g, le-ltb t due h, le-ltb (due + s.j.0) t k)
