-- Pages in a row: each starts where the one before it ended, and together they are the board. And the board's days from the numbers of a
-- run's stints are those of its history.
use Rattle.base.proofs.Prelude.{ℕ, zero, suc, ◌+◌, ◌-◌, ◌≤◌, ◌<◌, ◌≡◌, refl, sym, ap, ◌∙◌, List, [], ◌∷◌, ◌++◌, append_assoc, arith, dec_le, length, take, drop, length-drop, length-take, drop-drop}
use mathlib.Core.Path.{ap₂}
use Rattle.calendar.specs.Numbers.{last_day}
use Rattle.rules.specs.{declared.Use.Use, Stints.{stints_from, stints_numbers}}
use Rattle.stretch.specs.Stints.{spelled}
use Rattle.boards.specs.{declared.Test.Test, declared.Board.Board, Board.{board_day, board_from, tests_of}, Paging.{uses_in, fitted, days_fitted, page_uses, page_text, page_filled, pages_from}}
use Rattle.stretch.proofs.StintList.{stints-spell}
use Rattle.run.proofs.ReadBack.{all-read-back}
use Rattle.boards.proofs.{LongInput.drop-take, Fitting.{fits-first, fits-over, fits-none, days-first, days-not, days-none, days-within, fitted-within}}

-- ---- Whole days

module _ (ts : List Test) where
  -- what a page holds is the board of as many days as it counts
  whole-days : (room k : ℕ) (us : List Use) → fitted room k ts us ≡ board_from k ts (take (days_fitted room k ts us) us)
  unfolding board_from
  whole-days room k [] = fits-none ts room k ∙ ap (λ d. board_from k ts (take d [])) (sym (days-none ts room k))
  whole-days room k (u ∷ us) =
      elim (dec_le (length (board_day k ts u)) room) [
        | yes h ↦
            fits-first ts room k u us h
            ∙ ap (λ l. board_day k ts u ++ l) (whole-days (room - length (board_day k ts u)) (suc k) us)
            ∙ ap (λ d. board_from k ts (take d (u ∷ us))) (sym (days-first ts room k u us h))
        | no h ↦
            let full : room < length (board_day k ts u) = omega arith in
            fits-over ts room k u us full ∙ ap (λ d. board_from k ts (take d (u ∷ us))) (sym (days-not ts room k u us full))
      ]

  in_parts : (d k : ℕ) (us : List Use) → d ≤ length us → board_from k ts us ≡ board_from k ts (take d us)
      ++ board_from (k + d) ts (drop d us)
  unfolding board_from
  in_parts zero k us h =
      let same : k + 0 ≡ k = omega arith in
      rw same
  in_parts (suc d) k [] h = absurd (omega arith)
  in_parts (suc d) k (u ∷ us) h =
      let next : suc k + d ≡ k + suc d = omega arith in
      ap (λ l. board_day k ts u ++ l) (in_parts d (suc k) us (omega arith))
      ∙ sym (append_assoc (board_day k ts u) (board_from (suc k) ts (take d us)) (board_from (suc k + d) ts (drop d us)))
      ∙ ap (λ j. (board_day k ts u ++ board_from (suc k) ts (take d us)) ++ board_from j ts (drop d us)) next

  -- each day fits a page
  abbrev pub Roomy : ℕ → ℕ → List Use → Type 0
  Roomy room k [] = Unit {0}
  Roomy room k (u ∷ us) = (length (board_day k ts u) ≤ room) × Roomy room (suc k) us

  roomy-later : (room d k : ℕ) (us : List Use) → Roomy room k us → Roomy room (k + d) (drop d us)
  roomy-later room zero k us h =
      let same : k + 0 ≡ k = omega arith in
      rw same h
  roomy-later room (suc d) k [] h = tt
  roomy-later room (suc d) k (u ∷ us) h =
      let next : suc k + d ≡ k + suc d = omega arith in
      rw (sym next) (roomy-later room d (suc k) us h.1)

  -- so a page has a day, where one is left
  some-day : (room k : ℕ) (us : List Use) → Roomy room k us → 1 ≤ length us → 1 ≤ days_fitted room k ts us
  some-day room k [] h some = absurd (omega arith)
  some-day room k (u ∷ us) h some = omega (arith, days-first ts room k u us h.0)

-- ---- Page after page

module _ (b : Board) (list : List ℕ) (room : ℕ) where
  abbrev start : ℕ
  start = b.start.0

  abbrev tests : List Test
  tests = tests_of b.diary

  uses-later : (t d : ℕ) → page_uses b list (t + d) ≡ drop d (page_uses b list t)
  unfolding page_uses
  uses-later t d =
      let uses = uses_in list 0 b.stints in
      let left : last_day + 1 - (start + (t + d)) ≡ last_day + 1 - (start + t) - d = omega arith in
      ap₂ (λ m us. take m us) left (sym (drop-drop d t uses)) ∙ sym (drop-take d (last_day + 1 - (start + t)) (drop t uses))

  fewer-left : (t d n : ℕ) → length (page_uses b list t) ≤ suc n → Roomy tests room (start + t) (page_uses b list t)
      → d ≡ days_fitted room (start + t) tests (page_uses b list t) → length (page_uses b list (t + d)) ≤ n
  fewer-left t d n few roomy is =
      let us = page_uses b list t in
      elim (dec_le 1 (length us)) [
        | yes some ↦
            omega (arith, ap length (uses-later t d), length-drop d us, some-day tests room (start + t) us roomy some)
        | no none ↦ omega (arith, ap length (uses-later t d), length-drop d us)
      ]

  -- n pages are enough for n days
  pub pages-in-row : (n t : ℕ) → length (page_uses b list t) ≤ n → Roomy tests room (start + t) (page_uses b list t)
      → pages_from n b list room t ≡ board_from (start + t) tests (page_uses b list t)
  unfolding pages_from page_text page_filled
  pages-in-row zero t few roomy =
      nothing (page_uses b list t) (omega arith)
    where
      nothing : (us : List Use) → length us ≡ 0 → [] ≡ board_from (start + t) tests us
      nothing [] h = unfold board_from in refl
      nothing (u ∷ us) h = absurd (omega arith)
  pages-in-row (suc n) t few roomy =
      let us = page_uses b list t in
      let d = days_fitted room (start + t) tests us in
      let next : start + (t + d) ≡ start + t + d = omega arith in
      let fewer : length (page_uses b list (t + d)) ≤ n = fewer-left t d n few roomy refl in
      let later = pages-in-row n (t + d) fewer (rw (uses-later t d, next) (roomy-later tests room d (start + t) us roomy)) in
      ap₂ (λ l m. l ++ m) (whole-days tests room (start + t) us) (later ∙ rw (uses-later t d, next))
      ∙ sym (in_parts tests d (start + t) us (days-within tests room (start + t) us))

-- a page holds no more than its room, and no more days than the calendar has left
pub page-within : (b : Board) (list : List ℕ) (room t : ℕ) → (page_filled b list t room).length ≤ room
unfolding page_filled page_text
page-within b list room t = fitted-within (tests_of b.diary) room (b.start.0 + t) (page_uses b list t)

pub page-days : (b : Board) (list : List ℕ) (room t : ℕ) → (page_filled b list t room).days ≤ last_day + 1 - t
unfolding page_filled page_uses
page-days b list room t =
    let left = last_day + 1 - (b.start.0 + t) in
    let us = drop t (uses_in list 0 b.stints) in
    omega (arith, days-within (tests_of b.diary) room (b.start.0 + t) (take left us), length-take left us)

-- ---- The days of the stints are those of the run

-- what a list holds of the stints of uses, whatever stands behind them, are these uses
pub uses-back : (us : List Use) (rest : List ℕ) → uses_in (stints_numbers (stints_from 0 us) ++ rest) 0 (length (stints_from 0 us)) ≡ us
unfolding uses_in
uses-back us rest = ap spelled (all-read-back (stints_from 0 us) rest) ∙ stints-spell 0 us
