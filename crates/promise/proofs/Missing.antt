-- Where moving is free the code's answers are exact: what it said overload of has a list on which its run says miss, at H with no blocking;
-- and where no string has late days, what it said fail of has one for each string that can block at the pair that it names, and misses by
-- the day after the interval. `Learnt` is what a function's contract says of its answer.
use Rattle.base.proofs.Prelude.{ℕ, ◌+◌, ◌≤◌, ◌≡◌, refl, sym, ap, ◌∙◌, subst, arith}
use Rattle.rules.specs.declared.Outcome.{Outcome}
use Rattle.faults.specs.Checks.{Lawful, Checked}
use Rattle.faults.specs.declared.Refusal.{Refusal}
use Rattle.std.specs.Prelude.{Ok, Err, Result}
use Rattle.days.specs.declared.Length.{Length}
use Rattle.rules.specs.declared.Plan.{Plan}
use Rattle.rules.specs.declared.Releases.{Releases}
use Rattle.rules.specs.declared.Verdict.{Verdict}
use Rattle.rules.specs.Plan.{multiple_of, with_run}
use Rattle.rules.specs.Release.{releases_of}
use Rattle.rules.specs.Verdict.{verdict_of}
use Rattle.rules.specs.Refusal.{on_verdict, plan_check, run_check, verdict_answer}
use Rattle.laws.specs.Lawful.{OnTime}
use Rattle.laws.proofs.{Lawful.{LawfulPlan, plan_check-lawful}, LawfulChecked.lawful-checked, Answers.run-lawful, Releases.releases_check-good}
use Rattle.demand.proofs.{Verdict.{fail-names, overload-exactly}, Range.overload-at-period}
use Rattle.sound.specs.Sharp.{CanBlock}
use Rattle.exact.specs.Missing.{freely, interval_end, missing, MissesBy, FreeMoving}
use Rattle.exact.proofs.{Freely.free-demand, Exact.{with_run-lawful, demand_but-nobody, free-can, sharp-break-misses}, NoLateDays.{some-string-blocks, break-misses-any}}
use Rattle.promise.specs.SaysMiss.{SaysMiss}
use Rattle.rules.specs.declared.Verdict.TheVariants as verdict-is
use Rattle.verdict.proofs.verdict.Reads as verdict
use Rattle.run.proofs.run.Reads as run
use contract.Lifetimes.{Lfts}

-- ---- A lawful list that misses, run by the code

module _ (κs : Lfts 0) (p : Plan) (ok : LawfulPlan p) (rs : Releases) (few : rs.count ≤ 1000) where
  run-checked : (d : ℕ) → MissesBy p (releases_of rs) d → run_check p rs ≡ Lawful
  unfolding run_check
  run-checked d m = rw (lawful-checked p ok, releases_check-good p rs few m.listed)

  pub run-says-miss : (d : ℕ) (r : Result Outcome Refusal) (e : _) → run.Learnt κs (p, (rs, tt)) r e → MissesBy p (releases_of rs) d
      → SaysMiss r d
  run-says-miss d r e said m =
      record { t = m.t; place = m.place; soon = m.soon; is = said ∙ run-lawful p rs (run-checked d m) ∙ ap Ok m.ends }

-- ---- Free moving

-- a verdict that is given was given of a lawful plan
answered : (c : Checked) (v w : Verdict) → on_verdict c v ≡ Ok w → (c ≡ Lawful) × (v ≡ w)
answered (Ok _) v w h = (refl, cc)
answered (Err e) v w h =
    let z : ◌≡◌ {A = ℕ} 0 1 = cc in
    absurd (omega arith)

module _ (κs : Lfts 0) (p : Plan) (free : FreeMoving p) where
  -- where a fail names a blocking, some string can block so long
  pub fail-blocks : (l b d : Length) (k : ℕ) (e : _) → verdict.Learnt κs (p, tt) (Ok (verdict-is.Fail l b d k)) e → 1 ≤ b.0
      → (q : ℕ) × CanBlock p l.0 b.0 q
  unfolding verdict_answer
  fail-blocks l b d k e said pos =
      let both = answered (plan_check p) (verdict_of p) (verdict-is.Fail l b d k) (sym said) in
      some-string-blocks p l.0 b.0 pos (fail-names p l b d k both.1).0.allowed

  module _ (rs : Releases) (few : rs.count ≤ 1000) (n : ℕ) (most : n ≤ 1000000) (r : Result Outcome Refusal) (f : _)
      (ran : run.Learnt κs (with_run p n, (rs, tt)) r f) where
    -- the code's run over a list that misses
    list-says-miss : (l b q d : ℕ) → LawfulPlan p → 1 ≤ n → MissesBy (with_run p n) (missing p l b q) d → releases_of rs ≡ missing p l b q
        → SaysMiss r d
    list-says-miss l b q d ok low m list =
        run-says-miss κs (with_run p n) (with_run-lawful p n ok low most) rs few d r f ran
        (subst (λ xs. MissesBy (with_run p n) xs d) (sym list) m)

    pub fail-then-miss : OnTime p → (l b d : Length) (k q : ℕ) (e : _)
        → verdict.Learnt κs (p, tt) (Ok (verdict-is.Fail l b d k)) e → l.0 + 1 ≤ n
        → (b.0 ≡ 0 → q ≡ 0) → (1 ≤ b.0 → CanBlock p l.0 b.0 q)
        → releases_of rs ≡ missing p l.0 b.0 q → SaysMiss r (l.0 + 1)
    unfolding verdict_answer
    fail-then-miss on-time l b d k q e said room nobody can list =
        let both = answered (plan_check p) (verdict_of p) (verdict-is.Fail l b d k) (sym said) in
        let ok = plan_check-lawful p both.0 in
        let first = (fail-names p l b d k both.1).0 in
        list-says-miss l.0 b.0 q (l.0 + 1) ok (omega arith)
        (break-misses-any p ok on-time n l.0 b.0 q most room first.pos nobody (λ some. free-can p free l.0 b.0 q (can some))
        (rw (free-demand p free l.0 b.0) first.breaks))
        list

    pub overload-then-miss : (e : _) → verdict.Learnt κs (p, tt) (Ok verdict-is.Overload) e → interval_end p (multiple_of p) 0 ≤ n
        → releases_of rs ≡ missing p (multiple_of p) 0 0 → SaysMiss r (interval_end p (multiple_of p) 0)
    unfolding verdict_answer
    overload-then-miss e said room list =
        let both = answered (plan_check p) (verdict_of p) verdict-is.Overload (sym said) in
        let ok = plan_check-lawful p both.0 in
        let h = multiple_of p in
        let breaks = overload-at-period p ok ((overload-exactly p).0 both.1) in
        let m = sharp-break-misses p ok n h 0 0 most room
        (record {
          pos = ok.h_pos;
          nobody = λ e. refl;
          can = λ some. absurd (omega arith);
          over = omega (arith, demand_but-nobody (freely p) h 0, free-demand p free h 0);
        }) in
        list-says-miss h 0 0 (interval_end p h 0) ok (omega (arith, ok.h_pos)) m list
