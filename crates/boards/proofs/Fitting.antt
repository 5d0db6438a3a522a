-- Days as far as they fit: one after the other, and in two parts.
use Rattle.base.proofs.Prelude.{ℕ, zero, suc, ◌+◌, ◌-◌, ◌≤◌, ◌<◌, ◌≡◌, refl, sym, ap, ◌∙◌, cond, List, [], ◌∷◌, ◌++◌, append_assoc, arith, dec_le, add-one, leb, le-leb, lt-leb, length, length-append, replicate}
use mathlib.Core.Path.{ap₂}
use Rattle.rules.specs.declared.Use.{Use}
use Rattle.lines.specs.Board.{used_line}
use Rattle.boards.specs.{declared.Test.Test, Board.{date_head, day_line_of, yearly_line_of, falls_today, tests_on, board_day}, Paging.{fitted, days_fitted}, inner.Daily.{head_with, yearly_tail, falls_by, tests_text, day_text, day_by, run_text, run_days}}

-- ---- Days on which the bank did one thing

module _ (day : ℕ → List ℕ) (room k n : ℕ) (some : 1 ≤ n) where
  one_more : n ≡ suc (n - 1)
  one_more = omega arith

  pub run_more : length (day k) ≤ room
      → run_text day room k n ≡ day k ++ run_text day (room - length (day k)) (k + 1) (n - 1)
  unfolding run_text
  run_more h = ap (run_text day room k) one_more ∙ rw (le-leb (length (day k)) room h, add-one k)

  pub run-days : length (day k) ≤ room → run_days day room k n ≡ 1 + run_days day (room - length (day k)) (k + 1) (n - 1)
  unfolding run_days
  run-days h = ap (run_days day room k) one_more ∙ rw (le-leb (length (day k)) room h, add-one k) (omega arith)

  pub run-full : room < length (day k) → (run_text day room k n ≡ []) × (run_days day room k n ≡ 0)
  unfolding run_text run_days
  run-full h = (
    ap (run_text day room k) one_more ∙ rw (lt-leb (length (day k)) room h),
    ap (run_days day room k) one_more ∙ rw (lt-leb (length (day k)) room h),
  )

pub run_none : (day : ℕ → List ℕ) (room k : ℕ) → (run_text day room k 0 ≡ []) × (run_days day room k 0 ≡ 0)
unfolding run_text run_days
run_none day room k = (refl, refl)

-- what the page says of them
pub run-fitted : (ts : List Test) (u : Use) (room k n : ℕ)
    → (fitted room k ts (replicate n u) ≡ run_text (day_by (used_line u) ts) room k n)
    × (days_fitted room k ts (replicate n u) ≡ run_days (day_by (used_line u) ts) room k n)
unfolding
    fitted days_fitted run_text run_days board_day day_line_of yearly_line_of date_head tests_on falls_today
    day_by day_text tests_text head_with yearly_tail falls_by
run-fitted ts u room k zero = (refl, refl)
run-fitted ts u room k (suc n) =
    let rest = run-fitted ts u (room - length (board_day k ts u)) (suc k) n in (
      ap (λ l. cond (leb (length (board_day k ts u)) room) (board_day k ts u ++ l) []) rest.0,
      ap (λ m. cond (leb (length (board_day k ts u)) room) (suc m) 0) rest.1,
    )

-- ---- Days in a row

module _ (ts : List Test) where
  abbrev day_long : ℕ → Use → ℕ
  day_long k u = length (board_day k ts u)

  -- ---- The first day

  module _ (room k : ℕ) (u : Use) (us : List Use) where
    pub fits-first : day_long k u ≤ room → fitted room k ts (u ∷ us) ≡ board_day k ts u ++ fitted (room - day_long k u) (suc k) ts us
    unfolding fitted
    fits-first h = rw (le-leb (day_long k u) room h)

    pub fits-over : room < day_long k u → fitted room k ts (u ∷ us) ≡ []
    unfolding fitted
    fits-over h = rw (lt-leb (day_long k u) room h)

    pub days-first : day_long k u ≤ room → days_fitted room k ts (u ∷ us) ≡ suc (days_fitted (room - day_long k u) (suc k) ts us)
    unfolding days_fitted
    days-first h = rw (le-leb (day_long k u) room h)

    pub days-not : room < day_long k u → days_fitted room k ts (u ∷ us) ≡ 0
    unfolding days_fitted
    days-not h = rw (lt-leb (day_long k u) room h)

  pub fits-none : (room k : ℕ) → fitted room k ts [] ≡ []
  unfolding fitted
  fits-none room k = refl

  pub days-none : (room k : ℕ) → days_fitted room k ts [] ≡ 0
  unfolding days_fitted
  days-none room k = refl

  -- ---- In two parts

  pub fitted-within : (room k : ℕ) (us : List Use) → length (fitted room k ts us) ≤ room
  fitted-within room k [] = omega (arith, ap length (fits-none room k))
  fitted-within room k (u ∷ us) =
      elim (dec_le (day_long k u) room) [
        | yes h ↦
            omega (
              arith,
              ap length (fits-first room k u us h),
              length-append (board_day k ts u) (fitted (room - day_long k u) (suc k) ts us),
              fitted-within (room - day_long k u) (suc k) us,
            )
        | no h ↦ omega (arith, ap length (fits-over room k u us (omega arith)))
      ]

  pub days-within : (room k : ℕ) (us : List Use) → days_fitted room k ts us ≤ length us
  days-within room k [] = omega (arith, days-none room k)
  days-within room k (u ∷ us) =
      elim (dec_le (day_long k u) room) [
        | yes h ↦ omega (arith, days-first room k u us h, days-within (room - day_long k u) (suc k) us)
        | no h ↦ omega (arith, days-not room k u us (omega arith))
      ]

  pub record Followed (room k : ℕ) (vs us : List Use) : Type 0 where
    pub text : fitted room k ts (vs ++ us)
        ≡ fitted room k ts vs ++ fitted (room - length (fitted room k ts vs)) (k + length vs) ts us
    pub days : days_fitted room k ts (vs ++ us)
        ≡ length vs + days_fitted (room - length (fitted room k ts vs)) (k + length vs) ts us

  -- all of the first part fit
  pub joined-all : (room k : ℕ) (vs us : List Use) → length vs ≤ days_fitted room k ts vs → Followed room k vs us
  joined-all room k [] us all =
      let same : k + 0 ≡ k = omega arith in
      let whole : room - 0 ≡ room = omega arith in
      record { text = rw (fits-none room k, whole, same); days = rw (fits-none room k, whole, same) (omega arith) }
  joined-all room k (u ∷ vs) us all =
      elim (dec_le (day_long k u) room) [
        | yes h ↦
            let first = fits-first room k u vs h in
            let rest = joined-all (room - day_long k u) (suc k) vs us (omega (arith, days-first room k u vs h)) in
            let behind = fitted (room - day_long k u) (suc k) ts vs in
            let left : room - length (fitted room k ts (u ∷ vs)) ≡ room - day_long k u - length behind =
            omega (arith, ap length first, length-append (board_day k ts u) behind) in
            let next : k + suc (length vs) ≡ suc k + length vs = omega arith in
            record {
              text = fits-first room k u (vs ++ us) h ∙ ap (λ l. board_day k ts u ++ l) rest.text
                  ∙ sym (append_assoc (board_day k ts u) behind _)
                  ∙ ap₂ (λ l m. l ++ m) (sym first) (ap₂ (λ r j. fitted r j ts us) (sym left) (sym next));
              days = days-first room k u (vs ++ us) h ∙ ap suc rest.days
                  ∙ ap₂ (λ r j. suc (length vs + days_fitted r j ts us)) (sym left) (sym next)
                  ∙ omega arith;
            }
        | no h ↦ absurd (omega (arith, days-not room k u vs (omega arith)))
      ]

  -- not all of them do: what follows has no room either
  pub joined-some : (room k : ℕ) (vs us : List Use) → days_fitted room k ts vs < length vs
      → (fitted room k ts (vs ++ us) ≡ fitted room k ts vs) × (days_fitted room k ts (vs ++ us) ≡ days_fitted room k ts vs)
  joined-some room k [] us less = absurd (omega arith)
  joined-some room k (u ∷ vs) us less =
      elim (dec_le (day_long k u) room) [
        | yes h ↦
            let rest = joined-some (room - day_long k u) (suc k) vs us (omega (arith, days-first room k u vs h)) in (
              fits-first room k u (vs ++ us) h ∙ ap (λ l. board_day k ts u ++ l) rest.0 ∙ sym (fits-first room k u vs h),
              days-first room k u (vs ++ us) h ∙ ap suc rest.1 ∙ sym (days-first room k u vs h),
            )
        | no h ↦
            let full : room < day_long k u = omega arith in (
              fits-over room k u (vs ++ us) full ∙ sym (fits-over room k u vs full),
              days-not room k u (vs ++ us) full ∙ sym (days-not room k u vs full),
            )
      ]
