-- What the tries find: a try that is found has a list of at most 1,000 releases over which the plan misses; and where the sharp rule with
-- free moving breaks and the list there has at most 1,000 releases, one is found.
use Rattle.base.proofs.Prelude.{ℕ, ◌-◌, ◌≤◌, min, ◌≡◌, refl, sym, ap, ◌∙◌, true, List, ◌∷◌, ◌++◌, none, some, arith, length, replicate, take_all, take-append_seam}
use Rattle.rules.specs.declared.Outcome.{Outcome}
use Rattle.faults.specs.Checks.{Lawful}
use Rattle.faults.specs.declared.Refusal.{Refusal}
use Rattle.std.specs.Prelude.{Ok, Err, Result}
use Rattle.days.specs.{Days.day, declared.Day.Day}
use Rattle.base.proofs.{Lists.true-not-false, FirstOf.{first_of-none, first_of-passes}}
use Rattle.faults.proofs.Checks.{by-checked, then-lawful}
use Rattle.rules.specs.declared.Plan.{Plan}
use Rattle.rules.specs.declared.Release.{Release}
use Rattle.rules.specs.declared.Outcome.TheVariants.{Miss, Clean}
use Rattle.rules.specs.Release.{no_release, releases_of, first_unlawful}
use Rattle.rules.specs.Refusal.{plan_check, releases_check, run_check, run_answer}
use Rattle.rules.specs.Run.{run_of}
use Rattle.rules.specs.Plan.{with_run}
use Rattle.laws.proofs.{Lawful.LawfulPlan, LawfulChecked.lawful-checked, Releases.{LawfulRun, run_check-lawful, releases_check-good}, Answers.run-lawful}
use Rattle.exact.specs.Missing.{freely, SharpBreak, missing, MissesBy}
use Rattle.exact.proofs.{Exact.{with_run-lawful, most_late-le, sharp-break-misses}, Longer.{miss-soon, longer-misses}}
use Rattle.tries.specs.Tries.{Break, Try, end_of_try, list_of, free_break, own_break, block_try, free_tries, held_tries, stopped_tries, paid_tries, tries, packed, is_miss, misses_on, found, raised}
use Rattle.tries.proofs.SharpBreaks.{break-names, free-near}

-- ---- A list as the code has it

pub packed-holds : (rs : List Release) → length rs ≤ 1000 → releases_of (packed rs) ≡ rs
packed-holds rs few =
    let count : min (length rs) 1001 ≡ length rs = omega arith in
    rw (count, take_all 1000 rs few) (take-append_seam rs (replicate (1000 - length rs) no_release))

-- ---- An answer that is a miss

miss-only : (o : Result Outcome Refusal) → is_miss o ≡ true → (t : Day) × (place : ℕ) × (o ≡ Ok (Miss t place))
unfolding is_miss
miss-only (Err e) h = absurd (true-not-false (sym h))
miss-only (Ok (Miss t place)) h = (t, place, refl)
miss-only (Ok (Clean w m i)) h = absurd (true-not-false (sym h))

module _ (q : Plan) (rs : List Release) where
  module _ (h : is_miss (run_answer q (packed rs)) ≡ true) where
    checked : run_check q (packed rs) ≡ Lawful
    unfolding run_answer is_miss
    checked =
        by-checked (run_check q (packed rs)) (λ e. e)
        (λ f at e. absurd (true-not-false (sym (rw e at h))))

    lawful : LawfulRun q (packed rs)
    lawful = run_check-lawful q (packed rs) checked

    -- the list is not too long, and the run is not too long
    packed-few : length rs ≤ 1000
    packed-few = omega (arith, lawful.few)

    packed-bounded : q.run.0 ≤ 1000000
    packed-bounded = lawful.plan.run_max

    -- it is lawful and misses
    packed-misses : MissesBy q rs q.run.0
    packed-misses =
        let holds = packed-holds rs packed-few in
        let miss = miss-only (run_answer q (packed rs)) h in
        let answered = sym (run-lawful q (packed rs) checked) ∙ miss.2 in
        let ended : run_of q (releases_of (packed rs)) ≡ Miss miss.0 miss.1 = cc in
        let ends : run_of q rs ≡ Miss miss.0 miss.1 = ap (run_of q) (sym holds) ∙ ended in
        record {
          listed = rw (sym holds) lawful.none_bad;
          t = miss.0.0;
          place = miss.1;
          soon = miss-soon q rs miss.0 miss.1 ends;
          ends = ends;
        }

  -- and the other way round: a short list that misses is answered with its miss
  pub misses-packed : (d : ℕ) → plan_check q ≡ Lawful → length rs ≤ 1000 → (m : MissesBy q rs d)
      → run_answer q (packed rs) ≡ Ok (Miss (day m.t) m.place)
  unfolding run_check
  misses-packed d plan few m =
      let holds = packed-holds rs few in
      let list = releases_check-good q (packed rs) (omega arith) (ap (first_unlawful q) holds ∙ m.listed) in
      let check : run_check q (packed rs) ≡ Lawful = then-lawful (plan_check q) (releases_check q (packed rs)) plan ∙ list in
      run-lawful q (packed rs) check ∙ ap Ok (ap (run_of q) holds ∙ m.ends)

-- ---- The first try that misses

module _ (p : Plan) (y : Try) (h : found p ≡ some y) where
  found-on : misses_on p y ≡ true
  unfolding found
  found-on = first_of-passes (misses_on p) (tries p) y h

  pub found-bounded : end_of_try y ≤ 1000000
  unfolding misses_on
  found-bounded = packed-bounded (with_run p (end_of_try y)) (list_of p y) found-on

  -- its list has at most 1,000 releases
  pub found-few : length (list_of p y) ≤ 1000
  unfolding misses_on
  found-few = packed-few (with_run p (end_of_try y)) (list_of p y) found-on

  -- and misses by the interval's end, N raised to it where it lies beyond
  pub found-misses : MissesBy (with_run p (raised p y)) (list_of p y) (end_of_try y)
  unfolding misses_on
  found-misses =
      longer-misses p (list_of p y) (end_of_try y) (raised p y) (omega arith) (end_of_try y)
      (packed-misses (with_run p (end_of_try y)) (list_of p y) found-on)

-- ---- Where the sharp rule with free moving breaks

module _ (p : Plan) (ok : LawfulPlan p) (y : Break) (is : free_break p ≡ some y) (few : length (missing p y.l y.b y.q) ≤ 1000) where
  abbrev end : ℕ
  end = end_of_try (block_try p y)

  broken : SharpBreak (freely p) y.l y.b y.q
  broken = break-names (freely p) y is

  end-bounded : end ≤ 1000000
  end-bounded = omega (arith, free-near p ok y is, ok.h_max, most_late-le p ok)

  block-misses : MissesBy (with_run p end) (missing p y.l y.b y.q) end
  block-misses = sharp-break-misses p ok end y.l y.b y.q end-bounded (omega arith) broken

  block-found : misses_on p (block_try p y) ≡ true
  unfolding misses_on list_of missing is_miss
  block-found =
      let low : 1 ≤ end = omega (arith, broken.pos) in
      let lawful = lawful-checked (with_run p end) (with_run-lawful p end ok low end-bounded) in
      ap is_miss (misses-packed (with_run p end) (list_of p (block_try p y)) end lawful few block-misses)

  -- a list is found
  pub found-where-free : found p ≡ none → ⊥
  unfolding found tries
  found-where-free h =
      let rest = held_tries p (own_break p) ++ (stopped_tries p ++ paid_tries p) in
      let all = (first_of-none (misses_on p) (tries p)).0 h in
      let free : tries p ≡ block_try p y ∷ rest = ap (λ o. free_tries p o ++ rest) is in
      true-not-false (sym block-found ∙ (rw free at all).0)
