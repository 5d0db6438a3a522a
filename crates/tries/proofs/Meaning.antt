-- What each answer means for the user.
--     Refused      as the plan's check refuses
--     Passes       the plan passes, so no lawful list misses, whatever N
--     Found        the list that is shown is lawful, and its run misses
--     Never        the plan does not pass; its payable plan passes sharply, so no lawful list misses, whatever N
--     NoneFound    the plan does not pass, nor does its payable plan sharply; with free moving it would, so that it would never miss. Where
--                  moving is free it is never answered
--     TooMany      the plan does not pass, not even sharply with free moving: there is a list that misses, and it has more than 1,000
--                  releases
use Rattle.base.proofs.Prelude.{ℕ, ◌≤◌, ◌≡◌, refl, sym, ap, ◌∙◌, ◌↔◌, true, false, Option, none, some, arith, dec_le, length}
use Rattle.faults.specs.Checks.{Refused, Lawful}
use Rattle.faults.specs.declared.Refusal.{Refusal}
use Rattle.std.specs.Prelude.{Ok, Err}
use Rattle.days.specs.{Days.{day, days}, declared.Day.Day, declared.Length.Length}
use Rattle.base.proofs.Lists.{by_bool, true-not-false}
use Rattle.faults.specs.declared.Fault.{Fault}
use Rattle.faults.proofs.Checks.{by-checked}
use Rattle.rules.specs.declared.Plan.{Plan}
use Rattle.rules.specs.declared.Releases.{Releases}
use Rattle.rules.specs.declared.Outcome.TheVariants.{Miss}
use Rattle.rules.specs.Demand.{Passes}
use Rattle.rules.specs.Verdict.{verdict_of, is_pass}
use Rattle.rules.specs.Release.{releases_of}
use Rattle.rules.specs.Run.{run_of}
use Rattle.rules.specs.Refusal.{plan_check, run_answer}
use Rattle.rules.specs.Plan.{with_run}
use Rattle.laws.proofs.{Lawful.{LawfulPlan, plan_check-lawful}, LawfulChecked.lawful-checked}
use Rattle.demand.proofs.Verdict.{passes-of-pass, pass-of-passes}
use Rattle.sound.specs.Sharp.{SharplyPasses}
use Rattle.exact.specs.Missing.{freely, missing, NeverMisses, FreeMoving}
use Rattle.exact.proofs.{Freely.freely-lawful, Exact.{with_run-lawful, most_late-le, sharp-break-misses, passes-never, free-sharp}}
use Rattle.charging.specs.Payable.{payable}
use Rattle.charging.proofs.{Payable.{payable-lawful, payable-never-misses}, StillPasses.payable-sharply}
use Rattle.tries.specs.{declared.Missing.Missing, Tries.{Break, Try, is_whole, sharp_break, free_break, passes_payably, list_of, packed, found, raised, unfound, found_as, missing_of, missing_answer}, Shown.{Shows, MissesOverMany}}
use Rattle.tries.proofs.{SharpBreaks.{break-names, free-near, none-sharp, sharp-none}, Found.{packed-holds, misses-packed, found-bounded, found-few, found-misses, found-where-free}}
use Rattle.tries.specs.declared.Missing.TheVariants as answer

-- ---- How an answer comes about

-- the payable plan passes sharply, as the code asks it
payably-passes : (p : Plan) → LawfulPlan p → (passes_payably p ≡ true) ↔ SharplyPasses (payable p)
unfolding passes_payably
payably-passes p ok = (
  λ t. none-sharp (payable p) (whole (sharp_break (payable p)) t) (payable-lawful p ok),
  λ sharp. ap is_whole (sharp-none (payable p) (payable-lawful p ok) sharp),
)
  where
    whole : (o : Option Break) → is_whole o ≡ true → o ≡ none
    whole none t = refl
    whole (some y) f = absurd (true-not-false (sym f))

module _ (p : Plan) where
  -- a plan that is lawful and does not pass
  abbrev Fails : Type 0
  Fails = (plan_check p ≡ Lawful) × (is_pass (verdict_of p) ≡ false)

  -- nor does its payable plan sharply: then lists are tried
  abbrev pub Tried : Type 0
  Tried = Fails × (passes_payably p ≡ false)

  refused_says : (f : Fault) (at : ℕ) → plan_check p ≡ Refused f at → missing_answer p ≡ Refused f at
  unfolding missing_answer
  refused_says f at h = rw h

  pass-says : plan_check p ≡ Lawful → is_pass (verdict_of p) ≡ true → missing_answer p ≡ Ok answer.Passes
  unfolding missing_answer missing_of
  pass-says lawful pass = rw (lawful, pass)

  never-says : Fails → passes_payably p ≡ true → missing_answer p ≡ Ok answer.Never
  unfolding missing_answer missing_of
  never-says fails spared = rw (fails.0, fails.1, spared)

  tried-says : Tried → missing_answer p ≡ Ok (found_as p (found p))
  unfolding missing_answer missing_of
  tried-says tried = rw (tried.0.0, tried.0.1, tried.1)

  -- one of six ways
  module _ {B : Type 0} (refused : (f : Fault) (at : ℕ) → plan_check p ≡ Refused f at → B)
      (passes : plan_check p ≡ Lawful → is_pass (verdict_of p) ≡ true → B)
      (never : Fails → passes_payably p ≡ true → B)
      (nothing : Tried → found p ≡ none → free_break p ≡ none → B)
      (many : Tried → found p ≡ none → (y : Break) → free_break p ≡ some y → B)
      (shown : Tried → (y : Try) → found p ≡ some y → B) where
    by-free : Tried → found p ≡ none → (o : Option Break) → free_break p ≡ o → B
    by-free tried e none whole = nothing tried e whole
    by-free tried e (some y) breaks = many tried e y breaks

    by-found : Tried → (o : Option Try) → found p ≡ o → B
    by-found tried none e = by-free tried e (free_break p) refl
    by-found tried (some y) e = shown tried y e

    by_answer : B
    by_answer =
        by-checked (plan_check p)
        (λ lawful.
        by_bool (is_pass (verdict_of p)) (λ pass. passes lawful pass)
        (λ fails.
        by_bool (passes_payably p) (λ spared. never (lawful, fails) spared) (λ not. by-found ((lawful, fails), not) (found p) refl)))
        refused

  unfound-says : Tried → found p ≡ none → missing_answer p ≡ Ok (unfound (free_break p))
  unfound-says tried none_is = tried-says tried ∙ ap (λ o. Ok (found_as p o)) none_is

  nothing-says : Tried → found p ≡ none → free_break p ≡ none → missing_answer p ≡ Ok answer.NoneFound
  nothing-says tried none_is whole = unfound-says tried none_is ∙ ap (λ o. Ok (unfound o)) whole

  many-says : Tried → found p ≡ none → (y : Break) → free_break p ≡ some y → missing_answer p ≡ Ok answer.TooMany
  many-says tried none_is y breaks = unfound-says tried none_is ∙ ap (λ o. Ok (unfound o)) breaks

  shown-says : Tried → (y : Try) → found p ≡ some y → missing_answer p ≡ Ok (answer.Found (days (raised p y)) (packed (list_of p y)))
  shown-says tried y is = tried-says tried ∙ ap (λ o. Ok (found_as p o)) is

  -- ---- Refused

  pub answer-refused : (f : Fault) (at : ℕ) → (missing_answer p ≡ Refused f at) ↔ (plan_check p ≡ Refused f at)
  answer-refused f at = (only, refused_says f at)
    where
      only : missing_answer p ≡ Refused f at → plan_check p ≡ Refused f at
      only h =
          by_answer
          (λ g k e.
          let said = sym (refused_says g k e) ∙ h in
          let same : ◌≡◌ {A = Refusal} (record { fault = g; at = k }) (record { fault = f; at = at }) = cc in
          e ∙ ap Err same)
          (λ lawful pass. absurd (cc (pass-says lawful pass)))
          (λ fails spared. absurd (cc (never-says fails spared)))
          (λ tried none_is whole. absurd (cc (nothing-says tried none_is whole)))
          (λ tried none_is y breaks. absurd (cc (many-says tried none_is y breaks)))
          (λ tried y is. absurd (cc (shown-says tried y is)))

  -- ---- Passes

  answer-passes : (missing_answer p ≡ Ok answer.Passes) ↔ (plan_check p ≡ Lawful) × (is_pass (verdict_of p) ≡ true)
  answer-passes = (only, λ h. pass-says h.0 h.1)
    where
      only : missing_answer p ≡ Ok answer.Passes → (plan_check p ≡ Lawful) × (is_pass (verdict_of p) ≡ true)
      only h =
          by_answer
          (λ f at e. absurd (cc (refused_says f at e)))
          (λ lawful pass. (lawful, pass))
          (λ fails spared. absurd (cc (never-says fails spared)))
          (λ tried none_is whole. absurd (cc (nothing-says tried none_is whole)))
          (λ tried none_is y breaks. absurd (cc (many-says tried none_is y breaks)))
          (λ tried y is. absurd (cc (shown-says tried y is)))

  -- in the user's words: the plan is lawful and the rule holds at every interval
  pub answer-passes-rule : (missing_answer p ≡ Ok answer.Passes) ↔ LawfulPlan p × Passes p
  answer-passes-rule = (
    λ h.
        let pass = answer-passes.0 h in
        let ok = plan_check-lawful p pass.0 in
        (ok, passes-of-pass p ok pass.1),
    λ h. pass-says (lawful-checked p h.0) (pass-of-passes p h.0 h.1),
  )

  -- so there is no list that misses
  pub answer-passes-never : missing_answer p ≡ Ok answer.Passes → NeverMisses p
  answer-passes-never h =
      let good = answer-passes-rule.0 h in
      passes-never p good.0 good.1

  -- ---- Found

  -- what a try that is found shows
  shown-misses : LawfulPlan p → (y : Try) → found p ≡ some y → Shows p (raised p y) (packed (list_of p y))
  shown-misses ok y is =
      let misses = found-misses p y is in
      record {
        list = list_of p y;
        packed_as = refl;
        few = found-few p y is;
        longer = omega arith;
        bounded = omega (arith, ok.run_max, found-bounded p y is);
        misses =
            record {
              listed = misses.listed;
              t = misses.t;
              place = misses.place;
              soon = omega (arith, misses.soon);
              ends = misses.ends;
            };
      }

  module _ (n : Length) (rs : Releases) (h : missing_answer p ≡ Ok (answer.Found n rs)) where
    pub answer-found : Tried × Shows p n.0 rs
    answer-found =
        by_answer
        (λ f at e. absurd (cc (refused_says f at e)))
        (λ lawful pass. absurd (cc (pass-says lawful pass)))
        (λ fails spared. absurd (cc (never-says fails spared)))
        (λ tried none_is whole. absurd (cc (nothing-says tried none_is whole)))
        (λ tried none_is y breaks. absurd (cc (many-says tried none_is y breaks)))
        (λ tried y is.
        let said = sym (shown-says tried y is) ∙ h in
        let run : days (raised p y) ≡ n = cc in
        let list : packed (list_of p y) ≡ rs = cc in
        (tried, rw (← run, ← list) (shown-misses (plan_check-lawful p tried.0.0) y is)))

    -- the run entry, asked for the plan with this N and this list, answers with a miss
    pub found-answers : (t : Day) × (place : ℕ) × (t.0 ≤ n.0)
        × (run_of (with_run p n.0) (releases_of rs) ≡ Miss t place)
        × (run_answer (with_run p n.0) rs ≡ Ok (Miss t place))
    found-answers =
        let shows = answer-found.1 in
        let misses = shows.misses in
        let ok = plan_check-lawful p answer-found.0.0.0 in
        let low : 1 ≤ n.0 = omega (arith, ok.run_pos, shows.longer) in
        let lawful = lawful-checked (with_run p n.0) (with_run-lawful p n.0 ok low shows.bounded) in (
          day misses.t,
          misses.place,
          misses.soon,
          ap (λ list. run_of (with_run p n.0) (releases_of list)) shows.packed_as
              ∙ ap (run_of (with_run p n.0)) (packed-holds shows.list shows.few)
              ∙ misses.ends,
          ap (run_answer (with_run p n.0)) shows.packed_as
              ∙ misses-packed (with_run p n.0) shows.list n.0 lawful shows.few misses,
        )

  -- ---- Never

  -- where it fails the rule breaks somewhere
  fails-breaks : Fails → Passes p → ⊥
  fails-breaks fails rule = true-not-false (sym (pass-of-passes p (plan_check-lawful p fails.0) rule) ∙ fails.1)

  breaks-fails : LawfulPlan p → (Passes p → ⊥) → Fails
  breaks-fails ok breaks =
      by_bool (is_pass (verdict_of p)) (λ pass. absurd (breaks (passes-of-pass p ok pass))) (λ fails. (lawful-checked p ok, fails))

  -- it is answered exactly where the plan is lawful and fails, and its payable plan passes sharply
  pub answer-never-rule : (missing_answer p ≡ Ok answer.Never) ↔ LawfulPlan p × (Passes p → ⊥) × SharplyPasses (payable p)
  answer-never-rule = (
    only,
    λ h. never-says (breaks-fails h.0 h.1) ((payably-passes p h.0).1 h.2),
  )
    where
      said : missing_answer p ≡ Ok answer.Never → Fails × (passes_payably p ≡ true)
      said h =
          by_answer
          (λ f at e. absurd (cc (refused_says f at e)))
          (λ lawful pass. absurd (cc (pass-says lawful pass)))
          (λ fails spared. (fails, spared))
          (λ tried none_is whole. absurd (cc (nothing-says tried none_is whole)))
          (λ tried none_is y breaks. absurd (cc (many-says tried none_is y breaks)))
          (λ tried y is. absurd (cc (shown-says tried y is)))

      only : missing_answer p ≡ Ok answer.Never → LawfulPlan p × (Passes p → ⊥) × SharplyPasses (payable p)
      only h =
          let ok = plan_check-lawful p (said h).0.0 in
          (ok, fails-breaks (said h).0, (payably-passes p ok).0 (said h).1)

  -- so there is no list that misses
  pub answer-never : missing_answer p ≡ Ok answer.Never → NeverMisses p
  answer-never h =
      let good = answer-never-rule.0 h in
      payable-never-misses p good.0 good.2

  -- and where the plan itself passes sharply, though not by the rule, it is answered
  pub answer-never-sharp : LawfulPlan p → (Passes p → ⊥) → SharplyPasses p → missing_answer p ≡ Ok answer.Never
  answer-never-sharp ok breaks sharp = answer-never-rule.1 (ok, breaks, payable-sharply p sharp)

  -- ---- NoneFound and TooMany

  -- none was found: with free moving the sharp rule would hold
  module _ (h : missing_answer p ≡ Ok answer.NoneFound) where
    none_tried : Tried × (free_break p ≡ none)
    none_tried =
        by_answer
        (λ f at e. absurd (cc (refused_says f at e)))
        (λ lawful pass. absurd (cc (pass-says lawful pass)))
        (λ fails spared. absurd (cc (never-says fails spared)))
        (λ tried none_is whole. (tried, whole))
        (λ tried none_is y breaks. absurd (cc (many-says tried none_is y breaks)))
        (λ tried y is. absurd (cc (shown-says tried y is)))

    pub answer-none-rule : LawfulPlan p × (Passes p → ⊥)
    answer-none-rule = (plan_check-lawful p none_tried.0.0.0, fails-breaks none_tried.0.0)

    -- with free moving the sharp rule would hold, and it does not with what is payable
    pub answer-none-free : SharplyPasses (freely p)
    answer-none-free = none-sharp (freely p) none_tried.1 (freely-lawful p answer-none-rule.0)

    pub answer-none-payable : SharplyPasses (payable p) → ⊥
    answer-none-payable sharp = true-not-false (sym ((payably-passes p answer-none-rule.0).1 sharp) ∙ none_tried.0.1)

    -- so where moving is free it is never answered, late days or not
    pub answer-none-paid : FreeMoving p → ⊥
    answer-none-paid free = answer-none-payable (payable-sharply p (free-sharp p free answer-none-free))

  -- there are too many: the sharp rule breaks with free moving too, and the list that misses there cannot be shown
  module _ (h : missing_answer p ≡ Ok answer.TooMany) where
    many-tried : Tried × (found p ≡ none) × ((y : Break) × (free_break p ≡ some y))
    many-tried =
        by_answer
        (λ f at e. absurd (cc (refused_says f at e)))
        (λ lawful pass. absurd (cc (pass-says lawful pass)))
        (λ fails spared. absurd (cc (never-says fails spared)))
        (λ tried none_is whole. absurd (cc (nothing-says tried none_is whole)))
        (λ tried none_is y breaks. (tried, none_is, (y, breaks)))
        (λ tried y is. absurd (cc (shown-says tried y is)))

    pub answer-many-rule : LawfulPlan p × (Passes p → ⊥)
    answer-many-rule = (plan_check-lawful p many-tried.0.0.0, fails-breaks many-tried.0.0)

    pub answer-many : MissesOverMany p
    answer-many =
        let ok = answer-many-rule.0 in
        let y = many-tried.2.0 in
        let breaks = many-tried.2.1 in
        record {
          l = y.l;
          b = y.b;
          q = y.q;
          many =
              elim (dec_le (length (missing p y.l y.b y.q)) 1000) [
                | yes few ↦ absurd (found-where-free p ok y breaks few many-tried.1)
                | no over ↦ omega arith
              ];
          misses =
              sharp-break-misses p ok 1000000 y.l y.b y.q (omega arith)
              (omega (arith, free-near p ok y breaks, ok.h_max, most_late-le p ok)) (break-names (freely p) y breaks);
        }
