-- Laws of the definitions for refusal 8.
use Rattle.base.proofs.Prelude.{ℕ, ◌+◌, ◌-◌, ◌≤◌, ◌<◌, ◌≡◌, ap, ◌∙◌, false, ◌&&◌, fun_ext, List, arith, suc, eqb, leb, le-leb, lt-leb, eq-eqb, ne_eqb}
use Rattle.base.specs.Divisors.{greatest_to}
use Rattle.rules.specs.{declared.BatteryString.BatteryString, Layout.{Version, Place, Day, Need, release_frame, held_to}, Text.{Line, field_of, n_in, run_in, string_of, due_in}}
use Rattle.lines.specs.declared.reasons.Reason.TheVariants.{PlaceOut, NeedOut, AfterRun}
use Rattle.layouts.proofs.Versions.{place-place}
use Rattle.naming.specs.{Lines.line_no, Released.{day_of_ahead, last_line, day_reason, release_reason}, inner.Bytes.{number_at, last_in, same_at}}
use Rattle.naming.proofs.{Numbers.said, Searches.{greatest-here, greatest-lower, greatest-none}}

module _ (v : Version) (lines : List Line) (n k : ℕ) where
  pub no-day-ahead : k ≤ n + 2 → 0 ≡ day_of_ahead v lines n k
  unfolding day_of_ahead
  no-day-ahead h = rw (le-leb k (n + 2) h)

  pub ahead-some : n + 2 < k → field_of (release_frame v) Day (line_no lines (k - 1)) ≡ day_of_ahead v lines n k
  unfolding day_of_ahead
  ahead-some h = rw (lt-leb k (n + 2) h)

-- ---- The last line with a place

module _ (lines : List Line) (n i j : ℕ) where
  pub same_here : n + 2 ≤ j → number_at (line_no lines j).bytes 1 1 ≡ i → greatest_to (same_at lines n i) j ≡ j
  unfolding same_at
  same_here low e =
      greatest-here (same_at lines n i) j (omega arith) (rw (le-leb (n + 2) j low, eq-eqb (number_at (line_no lines j).bytes 1 1) i e))

  pub same-lower : n + 2 ≤ j → (number_at (line_no lines j).bytes 1 1 ≡ i → ⊥)
      → greatest_to (same_at lines n i) j ≡ greatest_to (same_at lines n i) (j - 1)
  unfolding same_at
  same-lower low e =
      greatest-lower (same_at lines n i) j (omega arith) (rw (le-leb (n + 2) j low, ne_eqb (number_at (line_no lines j).bytes 1 1) i e))

  pub same_none : j ≤ n + 2 → greatest_to (same_at lines n i) (j - 1) ≡ 0
  unfolding same_at
  same_none h = greatest-none (same_at lines n i) (j - 1) (λ m few. below m (omega arith))
    where
      below : (m : ℕ) → m < n + 2 → (leb (n + 2) m && eqb (number_at (line_no lines m).bytes 1 1) i) ≡ false
      below m few = rw (lt-leb (n + 2) m few)

-- the place stands where it stands in all versions
pub last-line-said : (number : ℕ) (lines : List Line) (n k i : ℕ) → last_in lines n k i ≡ last_line (held_to number) lines n k i
unfolding last_in last_line same_at
last-line-said number lines n k i =
    ap (λ f. greatest_to f (k - 1))
    (fun_ext (λ j. ap (λ m. leb (n + 2) j && eqb m i) (said (release_frame (held_to number)) Place _ (place-place number)
    (line_no lines j))))

-- ---- The reasons

module _ (v : Version) (lines : List Line) (k i n : ℕ) (ei : i ≡ field_of (release_frame v) Place (line_no lines k))
    (en : n ≡ n_in v (line_no lines 1)) where
  pub place-below : i < 1 → PlaceOut i n ≡ release_reason v lines k
  unfolding release_reason
  place-below h = rw (← ei, ← en, lt-leb 1 i h)

  pub place-above : n < i → 1 ≤ i → PlaceOut i n ≡ release_reason v lines k
  unfolding release_reason
  place-above h low = rw (← ei, ← en, le-leb 1 i low, lt-leb i n h)

  module _ (low : 1 ≤ i) (high : i ≤ n) (s : BatteryString) (es : s ≡ string_of v (line_no lines 1) (line_no lines (i + 1))) (need : ℕ)
      (ew : need ≡ field_of (release_frame v) Need (line_no lines k)) where
    here : s ≡ string_of v (line_no lines 1) (line_no lines (suc i))
    here =
        let next : i + 1 ≡ suc i = omega arith in
        es ∙ ap (λ m. string_of v (line_no lines 1) (line_no lines m)) next

    pub need-low : need < 1 → NeedOut i need s.c.0 ≡ release_reason v lines k
    unfolding release_reason
    need-low h = rw (← ei, ← en, le-leb 1 i low, le-leb i n high, ← here, ← ew, lt-leb 1 need h)

    pub need-high : s.c.0 < need → 1 ≤ need → NeedOut i need s.c.0 ≡ release_reason v lines k
    unfolding release_reason
    need-high h some = rw (← ei, ← en, le-leb 1 i low, le-leb i n high, ← here, ← ew, le-leb 1 need some, lt-leb need s.c.0 h)

    module _ (some : 1 ≤ need) (few : need ≤ s.c.0) (run t : ℕ) (er : run ≡ run_in v (line_no lines 1))
        (et : t ≡ field_of (release_frame v) Day (line_no lines k)) where
      pub after_run : run ≤ t → AfterRun t run ≡ release_reason v lines k
      unfolding release_reason
      after_run h =
          rw (
            ← ei,
            ← en,
            le-leb 1 i low,
            le-leb i n high,
            ← here,
            ← ew,
            le-leb 1 need some,
            le-leb need s.c.0 few,
            ← er,
            ← et,
            le-leb run t h,
          )

      pub day-out : t < run → (due ahead last : ℕ) → due ≡ due_in v (line_no lines k) → ahead ≡ day_of_ahead v lines n k
          → last ≡ due_in v (line_no lines (last_line v lines n k i)) → day_reason s t due ahead last ≡ release_reason v lines k
      unfolding release_reason
      day-out h due ahead last ed ea el =
          rw (
            ← ei,
            ← en,
            le-leb 1 i low,
            le-leb i n high,
            ← here,
            ← ew,
            le-leb 1 need some,
            le-leb need s.c.0 few,
            ← er,
            ← et,
            lt-leb run t h,
            ← ed,
            ← ea,
            ← el,
          )
