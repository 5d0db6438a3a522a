-- at each event the code stands where the definition does, day by day
use Rattle.base.proofs.Prelude.{ℕ, ◌+◌, ◌≤◌, ◌<◌, ◌≡◌, refl, sym, ap, ◌∙◌, true, false, List, cond, ltb, ltb-false, arith, ℕ_discrete, length, take, get_or, length-take, rules}
use Rattle.base.proofs.Order.{take-map}
use Rattle.std.proofs.lemmas.Map.Keys.{le_from_is_le}
use Rattle.std.specs.Ordering.{is_le, nat_cmp}
use Rattle.days.specs.{declared.Day.Day, Days.day}
use Rattle.rules.specs.{declared.Plan.Plan, declared.Release.Release, declared.Releases.Releases, declared.Slot.Slot, declared.Outcome.TheVariants.Miss, Release.{no_release, releases_of}, Run.{empty_slot, late_at, late_on, use_of, use_on, history}}
use Rattle.laws.proofs.{Releases.LawfulRun, History.{run_of-late, history-length}, ReleaseList.{release-lawful, listed-sorted}}
use Rattle.stretch.specs.Stretch.{morning_on}
use Rattle.stretch.proofs.Stretches.{stretch-history}
use Rattle.run.specs.{declared.tally.Tally.Tally, inner.Tally.tally_of, inner.Join.Joined}
use Rattle.run.proofs.{State.{joined-affords, use_on-within}, Counting.{tally_of-under, run_of-tally}, Events.{Standing, Until, standing-start, standing-late, joining-start, until-next, joined-quiet, joined-morning, ended-stretch, standing-next}, Booking.{Sayable, booked-start, booked-writable, booked-ends, booked-next, days-missed, days-clean}}
use Rattle.run.proofs.walk.walk.Goals as goal

before-end : (a b : ℕ) → is_le (nat_cmp a b) ≡ false → b < a
before-end a b e = search rules

few : (p : Plan) (rs : Releases) → LawfulRun p rs → length (releases_of rs) ≤ 1000
few p rs lawful = omega (arith, length-take rs.count rs.list, lawful.few)

-- the next event from outside
coming : (p : Plan) (rs : Releases) {from next : ℕ} {slots : List Slot} (end today until : Day) → LawfulRun p rs → end ≡ day (0 + p.run.0)
    → today.0 < end.0 → until ≡ cond (ltb next (length (releases_of rs))) (get_or (releases_of rs) next no_release).day end
    → Joined p (releases_of rs) today.0 from slots next → Until p (releases_of rs) today.0 next until.0
coming p rs {next = next} end today until lawful last running is joined =
    let ends : end.0 ≡ p.run.0 = omega (arith, ap (λ (d : Day). d.0) last) in
    until-next end until (listed-sorted p (releases_of rs) lawful.none_bad)
    (λ room. (release-lawful p (releases_of rs) lawful.none_bad next room).early) (omega arith) ends is joined

pub loop-place-init : goal.loop-place-init
unfolding history
loop-place-init c =
    let p = c.args.p in
    record {
      within = omega arith;
      stands = standing-start (ap (take p.n) c.empty_slots-row.ensures.exact ∙ take-map empty_slot p.n p.strings) refl;
      booked = booked-start _;
    }

pub close-requires : goal.close-requires
close-requires c = booked-writable _ _ _ _ _ _ c.loop-place.invariant.booked (few _ _ c.requires)

pub returns-in-Some-clause-exact : goal.returns-in-Some-clause-exact
returns-in-Some-clause-exact c =
    let at = c.loop-place.invariant in
    let late = c.in-Some.ensures.exact ∙ standing-late at.stands in
    let some : 1 ≤ late_on c.args.p (releases_of c.args.rs.now) c.loop-place.today.0 = omega (arith, late, c.in-Some.ensures.within.0) in
    record {
      outcome = ap (Miss c.loop-place.today) late ∙ sym (run_of-late _ _ _ at.within some at.stands.clean);
      stints = c.close.ensures.count ∙ (booked-ends _ _ _ _ _ _ at.booked (days-missed _ _ _ at.within some at.stands.clean)).0;
    }

pub returns-in-Some-clause-told : goal.returns-in-Some-clause-told
returns-in-Some-clause-told c room =
    let at = c.loop-place.invariant in
    let late = c.in-Some.ensures.exact ∙ standing-late at.stands in
    let some : 1 ≤ late_on c.args.p (releases_of c.args.rs.now) c.loop-place.today.0 = omega (arith, late, c.in-Some.ensures.within.0) in
    c.close.ensures.stored ∙ (booked-ends _ _ _ _ _ _ at.booked (days-missed _ _ _ at.within some at.stands.clean)).1 room

pub close-requires-then-le : goal.close-requires-then-le
close-requires-then-le c = booked-writable _ _ _ _ _ _ c.loop-place.invariant.booked (few _ _ c.requires)

-- nobody was late on any day, and today is the last
clean-run : (p : Plan) (rs : Releases) {slots : List Slot} {next : ℕ} {tally : Tally} (end today : Day) → end ≡ day (0 + p.run.0)
    → true ≡ is_le (nat_cmp end.0 today.0) → today.0 ≤ p.run.0 → 0 ≡ late_at today.0 slots
    → Standing p (releases_of rs) today.0 slots next tally
    → (today.0 ≡ p.run.0) × ((i : ℕ) → i ≤ p.run.0 → late_on p (releases_of rs) i ≡ 0)
clean-run p rs end today last over within none stands =
    let ends = le_from_is_le end.0 today.0 (sym over) in
    let same : today.0 ≡ p.run.0 = omega (arith, ap (λ (d : Day). d.0) last) in
    let now = sym (none ∙ standing-late stands) in
    (same, λ i h. elim (ℕ_discrete i today.0) [ yes here ↦ rw here now | no before ↦ stands.clean i (omega arith) ])

pub returns-then-le-clause-exact : goal.returns-then-le-clause-exact
returns-then-le-clause-exact c =
    let at = c.loop-place.invariant in
    let clean = clean-run _ c.args.rs.now _ _ c.day_after-end.ensures.exact c.if-le.ensures at.within c.in_default.ensures.exact at.stands
    in
    let count = at.stands.count ∙ ap (tally_of c.args.p (releases_of c.args.rs.now)) clean.0 in
    record {
      outcome = rw count at c.clean.ensures.exact ∙ sym (run_of-tally _ _ clean.1);
      stints = c.close-then-le.ensures.count ∙ (booked-ends _ _ _ _ _ _ at.booked (days-clean _ _ clean.1 ∙ sym clean.0)).0;
    }

pub returns-then-le-clause-told : goal.returns-then-le-clause-told
returns-then-le-clause-told c room =
    let at = c.loop-place.invariant in
    let clean = clean-run _ c.args.rs.now _ _ c.day_after-end.ensures.exact c.if-le.ensures at.within c.in_default.ensures.exact at.stands
    in
    c.close-then-le.ensures.stored ∙ (booked-ends _ _ _ _ _ _ at.booked (days-clean _ _ clean.1 ∙ sym clean.0)).1 room

pub join_today-coming-requires-clause-joining : goal.join_today-coming-requires-clause-joining
join_today-coming-requires-clause-joining c = joining-start c.loop-place.invariant.stands

pub morning-requires-clause-affords : goal.morning-requires-clause-affords
morning-requires-clause-affords c =
    let short : c.loop-place.today.0 ≤ 1000000 = omega (arith, c.requires.plan.run_max, c.loop-place.invariant.within) in
    rw c.join_today-coming.ensures.exact.state (joined-affords _ _ c.requires.plan _ short)

pub morning-requires-clause-quiet : goal.morning-requires-clause-quiet
morning-requires-clause-quiet c e = joined-quiet c.join_today-coming.ensures.exact (ltb-false _ _ e)

pub with-tally-requires-clause-under : goal.with-tally-requires-clause-under
with-tally-requires-clause-under c =
    let short : c.loop-place.today.0 ≤ 1000000 = omega (arith, c.requires.plan.run_max, c.loop-place.invariant.within) in
    rw c.loop-place.invariant.stands.count (tally_of-under _ _ _ 1000000 short)

pub with-tally-requires-clause-length_bound : goal.with-tally-requires-clause-length_bound
with-tally-requires-clause-length_bound c =
    let until =
    coming _ _ _ _ _ c.requires c.day_after-end.ensures.exact (before-end _ _ (sym c.if-le.ensures)) c.next_release-until.ensures.exact
    c.join_today-coming.ensures.exact in
    omega (arith, until.within, c.use_days-stretch.ensures.exact.latest, c.requires.plan.run_max)

pub noted-book-requires-clause-writable : goal.noted-book-requires-clause-writable
noted-book-requires-clause-writable c = booked-writable _ _ _ _ _ _ c.loop-place.invariant.booked (few _ _ c.requires)

pub noted-book-requires-clause-length_bound : goal.noted-book-requires-clause-length_bound
noted-book-requires-clause-length_bound c =
    let until =
    coming _ _ _ _ _ c.requires c.day_after-end.ensures.exact (before-end _ _ (sym c.if-le.ensures)) c.next_release-until.ensures.exact
    c.join_today-coming.ensures.exact in
    let days = history-length c.args.p (releases_of c.args.rs.now) c.loop-place.today.0 in
    omega (arith, until.within, c.use_days-stretch.ensures.exact.latest, c.requires.plan.run_max, c.loop-place.invariant.booked.short)

pub day_after-today-requires : goal.day_after-today-requires
day_after-today-requires c =
    let until =
    coming _ _ _ _ _ c.requires c.day_after-end.ensures.exact (before-end _ _ (sym c.if-le.ensures)) c.next_release-until.ensures.exact
    c.join_today-coming.ensures.exact in
    omega (arith, until.within, c.use_days-stretch.ensures.exact.latest, c.requires.plan.run_max)

used-is : (p : Plan) (rs : List Release) (t : ℕ) (settled : List Slot) → settled ≡ morning_on p rs t → use_of settled ≡ use_on p rs t
unfolding use_on
used-is p rs t settled is = ap use_of is

pub loop-place-preserved : goal.loop-place-preserved
loop-place-preserved c =
    let p = c.args.p in
    let rs = releases_of c.args.rs.now in
    let t = c.loop-place.today.0 in
    let at = c.loop-place.invariant in
    let j = c.join_today-coming.ensures.exact in
    let until = coming _ _ _ _ _ c.requires c.day_after-end.ensures.exact (before-end _ _ (sym c.if-le.ensures))
    c.next_release-until.ensures.exact j in
    let settled = joined-morning c.morning.new.slots j c.morning.ensures.exact in
    let ended = c.use_days-stretch.ensures.exact in
    let now = sym (c.in_default.ensures.exact ∙ standing-late at.stands) in
    let within = use_on-within p rs t in
    let size = ap length settled in
    let said : Sayable (use_on p rs t) = record {
      place = omega (arith, within.0, size, length-take p.n c.empty_slots-row.result, c.requires.plan.n_max);
      release = omega (arith, within.1, few _ _ c.requires);
    } in
    rw (c.with-tally.ensures.exact, c.day_after-today.ensures.exact) (record {
      within = omega (arith, until.within, ended.latest);
      stands = standing-next at.stands.clean now at.stands.count j until settled ended;
      booked = booked-next _ _ _ _ _ c.use_days-stretch.result _ _ _ at.booked
          (ap (λ (d : Day). d.0) ended.first ∙ sym (history-length p rs t))
          (ended.used ∙ used-is p rs t _ settled) (stretch-history p rs t _ (ended-stretch j until settled ended)) ended.some said
          c.noted-book.ensures.stored c.noted-book.ensures.exact;
    })
