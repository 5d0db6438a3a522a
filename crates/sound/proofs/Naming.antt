-- Each day of work or of moving names the place of its release, which has joined and is not yet due.
use Rattle.base.proofs.Prelude.{ℕ, suc, ◌-◌, ◌≡◌, sym, ap, subst, List, arith, ltb, get_or}
use Rattle.rules.specs.{declared.Plan.Plan, declared.Release.Release, declared.Slot.Slot, declared.Job.Job, declared.Job.TheVariants.{Empty, Waiting, OnBank}, declared.Use.Use, Release.{no_release, due_day, first_unlawful}, Run.{seated, given, spent, use_of, used_for, joined, taken, morning, state_at, use_on, late_on}}
use Rattle.base.proofs.Lists.{by_bool}
use Rattle.laws.proofs.{Lawful.LawfulPlan, Slots.at}
use Rattle.sound.specs.Served.{released, ForRelease, Named}
use Rattle.sound.proofs.{Using.{Using, idle_day, kept_day, given_day, spent-using}, Orderly.{Live, Orderly, live-if-on, live-if-waits}, Arriving.morning-orderly, Clean.{Punctual, orderly-at}}

-- whatever the bank does for a job, it names the job's release
used-named : (p : Plan) (rs : List Release) (t i k : ℕ) (job : Job) → ForRelease p rs t i k → Named p rs t (used_for i k job)
used-named p rs t i k Empty known = tt
used-named p rs t i k (Waiting w m) known = tt
used-named p rs t i k (OnBank w m) known = by_bool (ltb 0 m.0) (λ moves. rw moves known) (λ works. rw works known)

module _ (p : Plan) (rs : List Release) (t : ℕ) where
  -- a job that has something left on day t serves a release of its place
  live-known : (j : ℕ) (s : Slot) → Live p rs (suc t) j s → ForRelease p rs t (suc j) s.serves
  live-known j s l =
      let m = l.released.0 in
      let index : s.serves - 1 ≡ m = omega (arith, l.named) in
      let this : released rs s.serves ≡ get_or rs m no_release = ap (λ n. get_or rs n no_release) index in
      let place : suc j - 1 ≡ j = omega arith in
      let there : (released rs s.serves).place ≡ suc j = rw this l.released.2 in
      let day : (released rs s.serves).day.0 ≡ s.release.0 = rw this l.released.3 in
      record {
        low = omega (arith, l.named);
        high = omega (arith, l.named, l.released.1);
        place = there;
        since = omega (arith, l.before);
        due = rw (there, place) (omega (arith, l.open-still, l.due, ap due_day this));
      }

  named-using : (ks es : List Slot) (u : Use) → Orderly p rs (suc t) ks → Using ks es u → Named p rs t u
  named-using ks es u o (idle_day none same idle) = subst (Named p rs t) (sym idle) tt
  named-using ks es u o (kept_day h on used) =
      let known = live-known h (at ks h) (live-if-on p rs (suc t) h (at ks h) (o.sits h (omega (arith, o.size, used.within))) on) in
      subst (Named p rs t) (sym used.use-is) (used-named p rs t (suc h) (at ks h).serves (seated (at ks h).job) known)
  named-using ks es u o (given_day h none waiting first used) =
      let known = live-known h (at ks h)
      (live-if-waits p rs (suc t) h (at ks h) (o.sits h (omega (arith, o.size, used.within))) waiting) in
      subst (Named p rs t) (sym used.use-is) (used-named p rs t (suc h) (at ks h).serves (seated (at ks h).job) known)

  -- in any run that has not missed by then
  pub day-named : LawfulPlan p → first_unlawful p rs ≡ 0 → Punctual p rs (suc t) → Named p rs t (use_on p rs t)
  unfolding use_on morning late_on
  day-named lawful listed so_far =
      let ss = state_at p rs t in
      let o = orderly-at p rs lawful listed t (λ i a. so_far i (omega arith)) in
      let ks = taken p t (joined p rs t ss) in
      named-using ks (spent (given ks)) (use_of (given ks)) (morning-orderly p rs lawful listed t ss o (so_far t (omega arith)))
      (spent-using ks)
