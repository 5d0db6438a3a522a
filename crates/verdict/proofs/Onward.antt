-- From the largest D on nothing blocks, and the walk goes from step to step: at a step a count grows, and between two steps none does.
use Rattle.base.proofs.Prelude.{ℕ, ◌+◌, ◌-◌, ◌≤◌, ◌<◌, ◌≡◌, refl, sym, ap, ◌∙◌, true, false, List, ◌++◌, arith, ℕ_discrete, lt-ltb, ltb, length, get_or}
use Rattle.days.specs.Days.{days}
use Rattle.rules.specs.{declared.BatteryString.BatteryString, declared.Plan.Plan, declared.Verdict.Verdict, declared.Verdict.TheVariants.{Overload, Fail, Pass}, Plan.{strings_of, no_string, leeway, leeway_min, d_max}, Demand.{jobs, block_limit, demand}, Verdict.Pair}
use Rattle.base.specs.Count.{keep, smallest_with}
use Rattle.base.proofs.Lists.{all_map, all-at, any_at, largest-ge, smallest_with-some, smallest-above, smallest-le}
use Rattle.laws.proofs.{Lawful.{LawfulString, LawfulPlan}, Demand.block_limit-late}
use Rattle.demand.proofs.Pairs.{pair, row_from, rows, rows_end, scan_from, scan_from-end}
use Rattle.demand.specs.Quick.{count_at, grows}
use Rattle.demand.proofs.Counts.{count_at-taker, count_at-keeper}
use Rattle.verdict.specs.{inner.Asked.{Ready, asked_by}, inner.Steps.{step_after, Due, onward, pairs_of}}
use Rattle.verdict.proofs.{Asked.demand-parts, StringSums.strings-count, Stepping.{step-jobs, step-jobs-more, soonest, soonest-past, soonest-within, soonest-asked, soonest-due}, KeptRows.{kept_row, kept-rows}, Looking.{none-rises, look-good, look-bad, look-end}}

-- what has ended is not changed by what is left, and hands on no count
pub onward-ended : (p : Plan) (v : Verdict) (qs : List Pair) → ((k : ℕ) → v ≡ Pass k → ⊥) → onward p v qs ≡ v
unfolding onward
onward-ended p Overload qs h = refl
onward-ended p (Fail l b d k) qs h = refl
onward-ended p (Pass k) qs h = absurd (h k refl)

pub pairs_of-ended : (v : Verdict) → ((k : ℕ) → v ≡ Pass k → ⊥) → pairs_of v ≡ 0
unfolding pairs_of
pairs_of-ended Overload h = refl
pairs_of-ended (Fail l b d k) h = refl
pairs_of-ended (Pass k) h = absurd (h k refl)

-- ---- Where a count grows with no blocking

unblocked : (s : BatteryString) (l : ℕ) → LawfulString s → count_at s l 0 ≡ jobs s l
unblocked s l ok =
    let all-days : l - 0 ≡ l = omega arith in
    elim (ℕ_discrete s.x 1) [ yes e ↦ count_at-taker s l 0 ok e ∙ ap (jobs s) all-days | no e ↦ count_at-keeper s l 0 e ]

module _ (p : Plan) (ready : Ready p) where
  lawful-at : (i : ℕ) → i < length (strings_of p) → LawfulString (get_or (strings_of p) i no_string)
  lawful-at i h = all-at LawfulString (strings_of p) no_string ready.lawful.each i h

  grows_at :
      (i w : ℕ) → i < length (strings_of p)
      → jobs (get_or (strings_of p) i no_string) (w - 1) < jobs (get_or (strings_of p) i no_string) w
      → grows p (pair w 0) ≡ true
  unfolding grows
  grows_at i w h more =
      let s = get_or (strings_of p) i no_string in
      let counted : count_at s (w - 1) 0 < count_at s w 0 =
      omega (arith, unblocked s (w - 1) (lawful-at i h), unblocked s w (lawful-at i h)) in
      any_at (λ s. ltb (count_at s (w - 1) 0) (count_at s w 0)) (strings_of p) no_string i h (lt-ltb _ _ counted)

  d_max-over : (i : ℕ) → i < length (strings_of p) → (get_or (strings_of p) i no_string).d.0 ≤ d_max p
  unfolding d_max
  d_max-over i h = all-at (λ s. s.d.0 ≤ d_max p) (strings_of p) no_string (largest-ge (λ s. s.d.0) (strings_of p)) i h

  some-string : 0 < length (strings_of p)
  some-string = omega (arith, strings-count p ready, ready.lawful.n_pos)

  pub leeway_min-pos : 1 ≤ leeway_min p
  unfolding leeway_min
  leeway_min-pos =
      smallest-above leeway 0 (strings_of p) some-string
      (all_map LawfulString (λ s. 0 < leeway s) (λ s lawful. omega (arith, lawful.j_max)) (strings_of p) ready.lawful.each)

  pub leeway_min-d_max : leeway_min p ≤ d_max p
  unfolding leeway_min
  leeway_min-d_max =
      let least : leeway_min p ≤ leeway (get_or (strings_of p) 0 no_string) =
      all-at (λ s. leeway_min p ≤ leeway s) (strings_of p) no_string (smallest-le leeway (strings_of p)) 0 some-string in
      omega (arith, d_max-over 0 some-string)

  pub d_max-pos : 1 ≤ d_max p
  d_max-pos = omega (arith, leeway_min-pos, leeway_min-d_max)

  -- the soonest step of all is a step of some string
  soonest-grows : (l end : ℕ) → l < end → soonest p ready l end < end → grows p (pair (soonest p ready l end) 0) ≡ true
  soonest-grows l end h before =
      let m = soonest p ready l end in
      let found = smallest_with-some (step_after l) end (strings_of p) no_string before in
      let s = get_or (strings_of p) found.0 no_string in
      let lawful = lawful-at found.0 found.1 in
      let here : m ≡ step_after l s = sym found.2 in
      let past = soonest-past p ready l end h in
      grows_at found.0 m found.1
      (omega (arith, step-jobs-more s lawful l m here, step-jobs s lawful l (m - 1) (omega arith) (omega arith)))

  -- between two steps none grows
  soonest-still : (l end w : ℕ) → l < w → w < soonest p ready l end → grows p (pair w 0) ≡ false
  soonest-still l end w low high =
      let days-left : w - 0 ≡ w = omega arith in
      let takers : asked_by p 1 w ≡ asked_by p 1 (w - 1) =
      soonest-asked p ready l end 1 w (omega arith) high ∙ sym (soonest-asked p ready l end 1 (w - 1) (omega arith) (omega arith)) in
      none-rises p ready.lawful w 0 (omega arith)
      (soonest-asked p ready l end 0 w (omega arith) high ∙ sym (soonest-asked p ready l end 0 (w - 1) (omega arith) (omega arith)))
      (ap (asked_by p 1) days-left ∙ takers ∙ sym (ap (λ v. asked_by p 1 (v - 1)) days-left))

-- from l the walk goes on at m
pub record Onto (p : Plan) (l end m : ℕ) (next : List ℕ) : Type 0 where
  pub past : l < m
  pub within : m ≤ end
  pub due : Due p (m - 1) next
  pub asked : (x : ℕ) → asked_by p x (m - 1) ≡ asked_by p x l
  pub still : (w : ℕ) → l < w → w < m → grows p (pair w 0) ≡ false
  pub looked : m < end → grows p (pair m 0) ≡ true

pub onto-soonest :
    (p : Plan) (ready : Ready p) (l end m : ℕ) (next : List ℕ) → l < end → m ≡ smallest_with (step_after l) end (strings_of p)
    → Due p l next
    → Onto p l end m next
onto-soonest p ready l end m next h e due =
    let past = soonest-past p ready l end h in
    rw e (record {
      past = past;
      within = soonest-within p ready l end;
      due = soonest-due p ready l end _ next (omega arith) (omega arith) due;
      asked = λ x. soonest-asked p ready l end x _ (omega arith) (omega arith);
      still = soonest-still p ready l end;
      looked = soonest-grows p ready l end h;
    })

-- ---- The walk, k pairs compared so far

pub demand-unblocked : (p : Plan) (l : ℕ) → LawfulPlan p → demand p l 0 ≡ asked_by p 0 l + asked_by p 1 l
demand-unblocked p l ok =
    let all-days : l - 0 ≡ l = omega arith in
    let takers = ap (asked_by p 1) all-days in
    omega (arith, demand-parts p l 0 ok)

module _ (p : Plan) (k l end : ℕ) where
  -- what is left, and the row of l of it
  abbrev rest : List Pair
  rest = keep (grows p) (rows p (l + 1) (end - (l + 1)))

  into-row : l < end → scan_from p k (keep (grows p) (rows p l (end - l))) ≡ scan_from p k (keep (grows p) (row_from p l 0) ++ rest)
  into-row h = ap (scan_from p k) (kept_row p (grows p) l end h)

  pub onward-bad :
      l < end → grows p (pair l 0) ≡ true → l < demand p l 0
      → scan_from p k (keep (grows p) (rows p l (end - l))) ≡ Fail (days l) (days 0) (days (demand p l 0)) (k + 1)
  onward-bad h looked bad = into-row h ∙ look-bad p k l 0 rest (omega arith) looked bad

  pub onward-good :
      (m : ℕ) → d_max p ≤ l → l < end → grows p (pair l 0) ≡ true → demand p l 0 ≤ l
      → l < m → m ≤ end → ((w : ℕ) → l < w → w < m → grows p (pair w 0) ≡ false)
      → scan_from p k (keep (grows p) (rows p l (end - l))) ≡ scan_from p (k + 1) (keep (grows p) (rows p m (end - m)))
  onward-good m late h looked good low high still =
      into-row h
      ∙ look-good p k l 0 rest (omega arith) looked good
      ∙ look-end p (k + 1) l (0 + 1) rest (omega (arith, block_limit-late p l late))
      ∙ ap (scan_from p (k + 1)) (kept-rows p (grows p) (l + 1) m end (omega arith) high none)
    where
      none : (w b : ℕ) → l + 1 ≤ w → w < m → b ≤ block_limit p w → grows p (pair w b) ≡ false
      none w b under over held =
          let no-blocking : b ≡ 0 = omega (arith, block_limit-late p w (omega arith)) in
          ap (λ c. grows p (pair w c)) no-blocking ∙ still w (omega arith) over

  -- from the largest D on, intervals at which none grows are passed over
  pub onward-start :
      (m : ℕ) → d_max p ≤ l → l ≤ m → m ≤ end → ((w : ℕ) → l ≤ w → w < m → grows p (pair w 0) ≡ false)
      → scan_from p k (keep (grows p) (rows p l (end - l))) ≡ scan_from p k (keep (grows p) (rows p m (end - m)))
  onward-start m late low high still = ap (scan_from p k) (kept-rows p (grows p) l m end low high none)
    where
      none : (w b : ℕ) → l ≤ w → w < m → b ≤ block_limit p w → grows p (pair w b) ≡ false
      none w b under over held =
          let no-blocking : b ≡ 0 = omega (arith, block_limit-late p w (omega arith)) in
          ap (λ c. grows p (pair w c)) no-blocking ∙ still w under over

  pub onward-end : end ≤ l → scan_from p k (keep (grows p) (rows p l (end - l))) ≡ Pass k
  unfolding keep
  onward-end h =
      let left : end - l ≡ 0 = omega arith in
      ap (λ m. scan_from p k (keep (grows p) (rows p l m))) left
      ∙ ap (λ qs. scan_from p k (keep (grows p) qs)) (rows_end p l)
      ∙ scan_from-end p k
