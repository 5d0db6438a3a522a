-- What the sheet of a run holds, by how the run ended; and what the answer for its stints says of the checks.
use Rattle.base.proofs.Prelude.{ℕ, ◌-◌, ◌≤◌, ◌≡◌, sym, ap, ◌∙◌, leb, leb-true, List, [], ◌∷◌, ◌++◌, arith, length, take}
use Rattle.faults.specs.Checks.{Refused, Lawful, Checked}
use Rattle.std.specs.Prelude.{Ok, Err, Result}
use Rattle.faults.specs.declared.Refusal.{Refusal}
use borrow.Author.Tests.{leb-false}
use mathlib.Core.List.{flat_map}
use Rattle.base.proofs.Lists.{by_bool}
use Rattle.days.specs.{declared.Day.Day, declared.Length.Length, Days.day}
use Rattle.faults.specs.declared.Fault.{Fault}
use Rattle.faults.proofs.Checks.{by-checked}
use Rattle.rules.specs.{declared.Plan.Plan, declared.Release.Release, declared.Releases.Releases, declared.Outcome.Outcome, declared.Outcome.TheVariants.{Miss, Clean}, Release.releases_of, Run.{miss_day, run_of}, Stints.{days_run, run_stints, stints_numbers, stints_answer}, Refusal.{run_check, run_answer}}
use Rattle.laws.proofs.{Releases.run_check-lawful, Answers.run-lawful}
use Rattle.stretch.specs.Stints.{spelled}
use Rattle.stretch.proofs.RunStints.{run-stints-spell}
use Rattle.run.proofs.{Answering.{few-here, stints-refused, stints-fit}, ReadBack.all-read-back}
use Rattle.visits.specs.inner.Own.{stints_in}
use Rattle.bars.specs.{declared.sheet.Sheet.Sheet, Bars.{column, stint_columns, miss_column, drawn, end_day}, inner.Drawing.{Drawing, SheetOf}}

-- ---- How the run ended

module _ (p : Plan) (rs : List Release) where
  pub record EndsLate (d : Day) : Type 0 where
    pub days : days_run p rs ≡ d.0
    pub end : end_day p rs ≡ d.0
    pub last : miss_column p rs ≡ column d.0 1 ∷ []
    pub within : d.0 ≤ p.run.0

  pub ended-late : (d : Day) (i : ℕ) → run_of p rs ≡ Miss d i → EndsLate d
  unfolding run_of days_run end_day miss_column
  ended-late d i h =
      by_bool (leb (miss_day p rs) p.run.0)
      (λ t.
      let is = rw t at h in
      let same : day (miss_day p rs) ≡ d = cc in
      let on : miss_day p rs ≡ d.0 = ap (λ (x : Day). x.0) same in
      let early = leb-true (miss_day p rs) p.run.0 t in
      record {
        days = omega arith;
        end = rw t on;
        last = rw t (ap (λ k. column k 1 ∷ []) on);
        within = omega arith;
      })
      (λ f.
      let is = rw f at h in
      let z : ◌≡◌ {A = ℕ} 0 1 = cc in
      absurd (omega arith))

  pub record EndsClean : Type 0 where
    pub days : days_run p rs ≡ p.run.0
    pub end : end_day p rs ≡ p.run.0 - 1
    pub last : miss_column p rs ≡ []

  pub ended-clean : (w m i : Length) → run_of p rs ≡ Clean w m i → EndsClean
  unfolding run_of days_run end_day miss_column
  ended-clean w m i h =
      by_bool (leb (miss_day p rs) p.run.0)
      (λ t.
      let is = rw t at h in
      let z : ◌≡◌ {A = ℕ} 0 1 = cc in
      absurd (omega arith))
      (λ f.
      let late = leb-false (miss_day p rs) p.run.0 f in
      record { days = omega arith; end = rw f; last = rw f })

  module _ (s : Sheet) (list : List ℕ) (stints : stints_in list s.stints ≡ run_stints p rs) where
    -- the columns of the stints and of the day that ended the run
    columns-are : (last : _) → miss_column p rs ≡ last
        → take 70 (flat_map stint_columns (stints_in list s.stints) ++ last) ≡ drawn p rs
    unfolding drawn
    columns-are last is =
        ap (λ ss. take 70 (flat_map stint_columns ss ++ last)) stints
        ∙ ap (λ cs. take 70 (flat_map stint_columns (run_stints p rs) ++ cs)) (sym is)

    pub listed-miss : (d : Day) (i : ℕ) → run_of p rs ≡ Miss d i → s.days ≡ d.0 → s.end ≡ d.0
        → Drawing s.drawn (flat_map stint_columns (stints_in list s.stints) ++ (column d.0 1 ∷ [])) → SheetOf p rs s list
    listed-miss d i h days end drawing =
        let run = ended-late d i h in
        record {
          uses = ap spelled stints ∙ run-stints-spell p rs;
          days = days ∙ sym run.days;
          end = end ∙ sym run.end;
          fits = drawing.fits;
          are = drawing.are ∙ columns-are _ run.last;
        }

    pub listed-clean : (w m i : Length) → run_of p rs ≡ Clean w m i → s.days ≡ p.run.0 → s.end ≡ p.run.0 - 1
        → Drawing s.drawn (flat_map stint_columns (stints_in list s.stints) ++ []) → SheetOf p rs s list
    listed-clean w m i h days end drawing =
        let run = ended-clean w m i h in
        record {
          uses = ap spelled stints ∙ run-stints-spell p rs;
          days = days ∙ sym run.days;
          end = end ∙ sym run.end;
          fits = drawing.fits;
          are = drawing.are ∙ columns-are _ run.last;
        }

-- ---- What was answered

module _ (p : Plan) (rs : Releases) (list : List ℕ) (room : length list ≡ 15005) where
  -- a list of 15,005 numbers is never too short: what is refused is what the checks refuse
  pub refused-by : (e : Refusal) → Err e ≡ stints_answer p rs (length list) → run_check p rs ≡ Err e
  refused-by e said =
      by-checked (run_check p rs)
      (λ run.
      let few = few-here p rs (run_check-lawful p rs run) in
      absurd (never e _ (said ∙ sym (stints-fit p rs list run (omega arith)).0)))
      (λ g place refused. refused ∙ same e g place (said ∙ sym (stints-refused p rs list g place refused).0))
    where
      never : (e : Refusal) (n : ℕ) → ◌≡◌ {A = Result ℕ Refusal} (Err e) (Ok n) → ⊥
      never e n h = cc

      same : (e : Refusal) (g : Fault) (at : ℕ) → ◌≡◌ {A = Result ℕ Refusal} (Err e) (Refused g at)
          → ◌≡◌ {A = Checked} (Refused g at) (Err e)
      same e g at h =
          let is : e ≡ record { fault = g; at = at } = cc in
          rw is

pub outcome-is : (p : Plan) (rs : Releases) (o : Outcome) → run_check p rs ≡ Lawful → Ok o ≡ run_answer p rs
    → o ≡ run_of p (releases_of rs)
outcome-is p rs o lawful said = same o _ (said ∙ run-lawful p rs lawful)
  where
    same : (o u : Outcome) → ◌≡◌ {A = Result Outcome Refusal} (Ok o) (Ok u) → o ≡ u
    same o u h = cc

pub never-refused : (p : Plan) (rs : Releases) (e : Refusal) → run_check p rs ≡ Lawful → Err e ≡ run_answer p rs → ⊥
never-refused p rs e lawful said = never e _ (said ∙ run-lawful p rs lawful)
  where
    never : (e : Refusal) (o : Outcome) → ◌≡◌ {A = Result Outcome Refusal} (Err e) (Ok o) → ⊥
    never e o h = cc

-- the stints of a list that holds their numbers are the run's
pub stints-of-run : (p : Plan) (rs : List Release) (numbers rest : List ℕ) (n : ℕ) → numbers ≡ stints_numbers (run_stints p rs) ++ rest
    → n ≡ length (run_stints p rs) → stints_in numbers n ≡ run_stints p rs
stints-of-run p rs numbers rest n holds count =
    ap (λ l. stints_in l n) holds ∙ ap (stints_in (stints_numbers (run_stints p rs) ++ rest)) count ∙ all-read-back (run_stints p rs) rest
