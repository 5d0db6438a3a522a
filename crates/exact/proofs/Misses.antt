-- The list misses: its jobs need more days by the interval's end than there are. No word of the policy is used beyond this, that nobody
-- takes the bank from the job that blocks.
use Rattle.base.proofs.Prelude.{ℕ, zero, suc, ◌+◌, ◌-◌, ◌≤◌, ◌<◌, ◌≡◌, refl, sym, ap, ◌∙◌, ◌≢◌, List, ◌∷◌, arith, dec_le, ℕ_discrete, le_of_suc-le-suc, add-one, length, get_or}
use Rattle.days.specs.Days.{days}
use Rattle.rules.specs.{declared.Plan.Plan, declared.Release.Release, Plan.string_at, Release.{no_release, first_unlawful}, Run.{history, late_on, miss_day}}
use Rattle.base.specs.Count.{count_of}
use Rattle.base.proofs.Lists.{all-at}
use Rattle.laws.specs.Lawful.{LawfulPlan}
use Rattle.laws.proofs.History.{miss_day-before, run_of-miss}
use Rattle.sound.specs.{Served.works_for, Sharp.demand_but}
use Rattle.sound.proofs.{Clean.Punctual, Served.{served-punctual, untouched}}
use Rattle.exact.specs.Missing.{freely, most_late, lead_of, interval_start, interval_end, block_release, blocker_release, missing, MissesBy}
use Rattle.exact.proofs.{Freely.delay_of-taker, Asking.list-needs, Listed.{Blocks, ComesBehind, others, behind-other, others-all, blocker_release-none, blocker_release-one, list_lawful}, Sharing.needs-fit-from, Holding.{Led, blocker-worked}}

module _ (p : Plan) (l b q : ℕ) where
  other_at : (i : ℕ) → i < length (others p l b q) → ComesBehind p l b q (get_or (others p l b q) i no_release)
  other_at i h = all-at (ComesBehind p l b q) (others p l b q) no_release (others-all p (blocker_release p b q) (interval_start p b) b l)
      i h

  list-free : b ≡ 0 → missing p l b q ≡ others p l b q
  unfolding missing
  list-free e = rw (blocker_release-none p b q e)

  list-blocked : (b ≡ 0 → ⊥) → missing p l b q ≡ block_release p b q ∷ others p l b q
  unfolding missing
  list-blocked e = rw (blocker_release-one p b q e)

module _ (p : Plan) (l b q : ℕ) (ok : LawfulPlan p) (blocks : 1 ≤ b → Blocks p b q) (nobody : b ≡ 0 → q ≡ 0) (pos : 1 ≤ l) (fits : b ≤ l)
    (room : interval_end p l b ≤ p.run.0) where
  abbrev list : List Release
  list = missing p l b q

  listed : first_unlawful p list ≡ 0
  listed = list_lawful p l b q ok blocks pos room

  -- ---- The list begins with the one that blocks

  module _ (some : b ≢ 0) where
    -- the index of its place
    abbrev index : ℕ
    index = q - 1

    index-place : suc index ≡ q
    index-place = omega (arith, (blocks (omega arith)).low)

    abbrev whole : List Release
    whole = block_release p b q ∷ others p l b q

    led-by : Led p whole index (most_late p) b
    led-by =
        record {
          there = omega arith;
          place_is = sym index-place;
          day-is = refl;
          need-is = ap days (add-one b);
          later = later-by;
          once = once_by;
          quiet = quiet_by;
        }
      where
        later-by : (m : ℕ) → 1 ≤ m → m < length whole → most_late p < (get_or whole m no_release).day.0
        later-by zero low high = absurd (omega arith)
        later-by (suc i) low high =
            let o = other_at p l b q i (le_of_suc-le-suc high) in
            omega (arith, o.when.from)

        once_by : (m : ℕ) → 1 ≤ m → m < length whole → (get_or whole m no_release).place ≢ suc index
        once_by zero low high same = absurd (omega arith)
        once_by (suc i) low high same =
            behind-other p l b q (omega arith) _ (other_at p l b q i (le_of_suc-le-suc high)) (same ∙ index-place)

        quiet_by : (m : ℕ) → 1 ≤ m → m < length whole → (string_at p (get_or whole m no_release).place).x ≡ 1
            → most_late p + b < (get_or whole m no_release).day.0
        quiet_by zero low high may = absurd (omega arith)
        quiet_by (suc i) low high may =
            let o = other_at p l b q i (le_of_suc-le-suc high) in
            omega (arith, o.when.from, delay_of-taker b (string_at p (get_or (others p l b q) i no_release).place) may)

    list-led : Led p list index (most_late p) b
    list-led = rw (list-blocked p l b q some) led-by

  -- ---- By the interval's end each has had its need, if nobody was late

  module _ (so_far : Punctual p list (suc (interval_end p l b))) where
    -- the days on which the bank worked for the release with index m
    abbrev done : ℕ → ℕ
    done m = count_of (works_for (suc m)) (history p list (interval_end p l b))

    other-done : (m : ℕ) → m < length list → ComesBehind p l b q (get_or list m no_release) → (get_or list m no_release).need.0 ≤ done m
    other-done m h o =
        let number : suc m - 1 ≡ m = omega arith in
        let served =
        served-punctual p list ok listed (suc m) (interval_end p l b) (omega arith) h so_far
        (rw number (omega (arith, o.when.due, o.due_is))) in
        let work : done m ≡ (get_or list m no_release).need.0 = rw number at served.work in
        omega arith

    -- what holds of each release: of the one that blocks, and of the others
    by-release : (P : ℕ → Type 0) → (b ≢ 0 → P 0) → ((m : ℕ) → m < length list → ComesBehind p l b q (get_or list m no_release) → P m)
        → (m : ℕ) → m < length list → P m
    by-release P first other m h =
        elim (ℕ_discrete b 0) [
          | yes none ↦
              let same = list-free p l b q none in
              other m h (rw same (other_at p l b q m (rw same at h)))
          | no some ↦ by_index some m h
        ]
      where
        by_index : b ≢ 0 → (m : ℕ) → m < length list → P m
        by_index some zero h = first some
        by_index some (suc i) h =
            let same = list-blocked p l b q some in
            other (suc i) h (rw same (other_at p l b q i (le_of_suc-le-suc (rw same at h))))

    each-done : (m : ℕ) → m < length list → (get_or list m no_release).need.0 ≤ done m
    each-done = by-release (λ m. (get_or list m no_release).need.0 ≤ done m) first_done other-done
      where
        first_done : b ≢ 0 → (get_or list 0 no_release).need.0 ≤ done 0
        first_done some =
            let led = list-led some in
            let worked = blocker-worked p list ok listed (index some) (most_late p) b led (interval_end p l b) (omega arith)
            (λ i k. so_far i (omega arith)) in
            omega (arith, ap (λ n. n.0) led.need-is)

    -- nothing is released before the largest J is over
    late-enough : (m : ℕ) → m < length list → most_late p ≤ (get_or list m no_release).day.0
    late-enough =
        by-release (λ m. most_late p ≤ (get_or list m no_release).day.0) (λ some. omega (arith, (list-led some).day-is))
        (λ m h o. omega (arith, o.when.from))

    none_before : (m : ℕ) → m < length list → count_of (works_for (suc m)) (history p list (most_late p)) ≡ 0
    none_before m h =
        let number : suc m - 1 ≡ m = omega arith in
        (untouched p list ok listed (suc m) (most_late p) (omega arith) h (λ i k. so_far i (omega arith))
        (rw number (late-enough m h))).work

    enough-days : demand_but (freely p) l b q ≤ l
    enough-days =
        let all : most_late p + (lead_of b + l) ≡ interval_end p l b = omega arith in
        let fit = needs-fit-from p list (most_late p) none_before (lead_of b + l) (rw all each-done) in
        omega (arith, list-needs p l b q ok fits nobody)

  -- ---- So somebody is late

  module _ (breaks : l < demand_but (freely p) l b q) where
    misses-day : miss_day p list ≤ interval_end p l b
    misses-day =
        elim (dec_le (miss_day p list) (interval_end p l b)) [
          | yes h ↦ h
          | no h ↦ absurd (omega (arith, enough-days (λ i k. miss_day-before p list i (omega arith))))
        ]

    pub list-misses : MissesBy p list (interval_end p l b)
    list-misses =
        record {
          listed = listed;
          t = miss_day p list;
          place = late_on p list (miss_day p list);
          soon = misses-day;
          ends = run_of-miss p list (omega (arith, misses-day));
        }
