-- A page of 600 bytes has room for any day of a run: its place is one of ten, and the diary has at most twenty tests.
use Rattle.base.proofs.Prelude.{ℕ, zero, suc, ◌-◌, ◌≤◌, ◌≡◌, refl, ap, ◌∙◌, Bool, cond, List, [], ◌∷◌, arith, eqb, length, drop, set, length-append, length-map, length-set, length-take}
use Rattle.faults.specs.Checks.{Lawful}
use Rattle.base.specs.Count.{All, keep, filled}
use Rattle.base.proofs.{Lists.by_bool, Order.all_append}
use Rattle.faults.proofs.Checks.{refused-not-lawful, by-checked, then-first, then-second}
use Rattle.calendar.specs.Numbers.{date_of}
use Rattle.rules.specs.{declared.Plan.Plan, declared.Release.Release, declared.Slot.Slot, declared.Use.Use, declared.Use.TheVariants.{Idle, Work, Move}, Plan.strings_of, Run.{none_ahead, late_slot, empty_slot, new_slot, join_from, joined, late_at, holder, payer, taken, next_up, given, spent, morning, state_at, use_on, late_on, history}, Stints.place_used, Lines.{bytes_of, decimal, worded_in}, Text.{Line, lines_of}}
use Rattle.laws.proofs.{Lawful.LawfulPlan, Choice.chosen-le}
use Rattle.lines.specs.Board.{used_line, missed_line}
use Rattle.lines.proofs.Digits.{decimal-32}
use Rattle.run.proofs.State.{use_on-within}
use Rattle.boards.specs.{declared.Test.Test, Input.{no_test, test_in, test_check, diary_check, diary_in, start_check, input_check, input_reading}, Board.{date_head, day_line_of, yearly_line_of, falls_today, tests_on, board_day, tests_of}, inner.Daily.{head_with, yearly_tail, falls_by, tests_text, day_text}}
use Rattle.boards.proofs.{Noting.twenty, Days.{head-long, day-long}, Rows.Roomy}

-- ---- Places

joined_length : (p : Plan) (t k : ℕ) (rs : List Release) (ss : List Slot) → length (join_from p t k rs ss) ≡ length ss
unfolding join_from
joined_length p t k [] ss = refl
joined_length p t k (r ∷ rs) ss =
    joined_length p t (suc k) rs (cond (eqb r.day.0 t) (set ss (r.place - 1) (new_slot p r k)) ss)
    ∙ by_bool (eqb r.day.0 t) (λ h. rw h (length-set ss (r.place - 1) (new_slot p r k))) (λ h. rw h)

taken-length : (p : Plan) (t : ℕ) (ss : List Slot) → length (taken p t ss) ≡ length ss
unfolding taken
taken-length p t ss =
    by_bool (eqb (holder ss) 0)
    (λ h. rw h)
    (λ h. by_bool (eqb (payer t ss) 0) (λ g. rw (h, g)) (λ g. rw (h, g) (simp length-set)))

given-length : (ss : List Slot) → length (given ss) ≡ length ss
unfolding given
given-length ss =
    by_bool (eqb (holder ss) 0)
    (λ h. by_bool (eqb (next_up ss) 0) (λ g. rw (h, g)) (λ g. rw (h, g) (simp length-set)))
    (λ h. rw h)

spent-length : (ss : List Slot) → length (spent ss) ≡ length ss
unfolding spent
spent-length ss = by_bool (eqb (holder ss) 0) (λ h. rw h) (λ h. rw h (simp length-set))

morning-length : (p : Plan) (rs : List Release) (t : ℕ) (ss : List Slot) → length (morning p rs t ss) ≡ length ss
unfolding morning joined
morning-length p rs t ss =
    given-length (taken p t (join_from p t 1 rs ss)) ∙ taken-length p t (join_from p t 1 rs ss) ∙ joined_length p t 1 rs ss

state-length : (p : Plan) (rs : List Release) (t : ℕ) → length (state_at p rs t) ≡ length (strings_of p)
unfolding state_at
state-length p rs zero = length-map (strings_of p) empty_slot
state-length p rs (suc t) =
    spent-length (morning p rs t (state_at p rs t)) ∙ morning-length p rs t (state_at p rs t) ∙ state-length p rs t

module _ (p : Plan) (rs : List Release) (lawful : LawfulPlan p) where
  ten : length (strings_of p) ≤ 10
  ten = omega (arith, length-take p.n p.strings, lawful.n_max)

  place-used : (t : ℕ) → place_used (use_on p rs t) ≤ 10
  place-used t =
      omega (arith, ten, (use_on-within p rs t).0, morning-length p rs t (state_at p rs t), state-length p rs t)

  place-late : (t : ℕ) → late_on p rs t ≤ 10
  unfolding late_on late_at
  place-late t =
      let ss = state_at p rs t in
      omega (arith, ten, chosen-le (late_slot t) none_ahead ss (length ss), state-length p rs t)

  pub history-places : (n : ℕ) → All (λ u. place_used u ≤ 10) (history p rs n)
  unfolding history
  history-places zero = tt
  history-places (suc n) =
      all_append (λ u. place_used u ≤ 10) (history p rs n) (use_on p rs n ∷ []) (history-places n) (place-used n, tt)

-- ---- Lines

used-short : (u : Use) → place_used u ≤ 10 → length (used_line u) ≤ 16
unfolding used_line bytes_of worded_in
used-short Idle h = omega arith
used-short (Work i k) h = omega (arith, decimal-32 i (omega arith), length-append (decimal i) (bytes_of " work\n"))
used-short (Move i k) h = omega (arith, decimal-32 i (omega arith), length-append (decimal i) (bytes_of " move\n"))

pub missed-short : (p : Plan) (rs : List Release) → LawfulPlan p → (t : ℕ) → length (missed_line (late_on p rs t)) ≤ 16
unfolding missed_line bytes_of worded_in
missed-short p rs lawful t =
    let i = late_on p rs t in
    omega (arith, decimal-32 i (omega (arith, place-late p rs lawful t)), length-append (decimal i) (bytes_of "\n"))

kept-few : (f : Test → Bool) (ts : List Test) → length (keep f ts) ≤ length ts
unfolding keep
kept-few f [] = omega arith
kept-few f (t ∷ ts) =
    let rest = kept-few f ts in
    by_bool (f t) (λ h. rw h (omega arith)) (λ h. rw h (omega arith))

day-is : (k : ℕ) (ts : List Test) (u : Use) → board_day k ts u ≡ day_text (head_with (date_of k) k) (used_line u) (date_of k) ts
unfolding board_day day_line_of yearly_line_of date_head tests_on falls_today day_text tests_text head_with yearly_tail falls_by
day-is k ts u = refl

module _ (ts : List Test) (few : length ts ≤ 20) (room : ℕ) (large : 600 ≤ room) where
  pub all-roomy : (k : ℕ) (us : List Use) → All (λ u. place_used u ≤ 10) us → Roomy ts room k us
  all-roomy k [] h = tt
  all-roomy k (u ∷ us) h =
      let d = date_of k in (
        omega (
          arith,
          ap length (day-is k ts u),
          day-long (head_with d k) (used_line u) d ts (head-long d k),
          kept-few (falls_by d) ts,
          used-short u h.0,
        ),
        all-roomy (suc k) us h.1,
      )

-- ---- The diary

few-lines : (j : ℕ) (lines : List Line) → diary_check j lines ≡ Lawful → length lines ≤ 21 - j
unfolding diary_check
few-lines j [] h = omega arith
few-lines j (line ∷ lines) h =
    let rest = few-lines (suc j) lines (then-second (test_check j line) (diary_check (suc j) lines) h) in
    omega (arith, twenty j line (then-first (test_check j line) (diary_check (suc j) lines) h))

pub few-tests : (n : ℕ) (text : List ℕ) → (input_reading n text).checked ≡ Lawful → length (tests_of (input_reading n text).diary) ≤ 20
unfolding input_reading input_check diary_in
few-tests n text h =
    let lines = lines_of text in
    let tests = diary_in (drop 1 lines) in
    by-checked (input_check n lines)
    (λ c.
    let few = few-lines 1 (drop 1 lines) (then-second (start_check n lines) (diary_check 1 (drop 1 lines)) c) in
    let mapped = length-map (drop 1 lines) (λ line. test_in line.bytes) in
    rw c (omega (arith, few, mapped, length-take (length tests) (filled 20 no_test tests))))
    (λ f at c. absurd (refused-not-lawful f at (rw c at h)))
