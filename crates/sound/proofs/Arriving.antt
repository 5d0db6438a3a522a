-- Steps 2 and 3 keep the slots orderly, where nobody is late: a release joins an empty slot, since D ≤ T, and who pays came today.
use Rattle.base.proofs.Prelude.{ℕ, suc, ◌+◌, ◌≤◌, ◌<◌, ◌≡◌, sym, ap, ◌∙◌, inl, inr, true, List, arith, length, get_or}
use Rattle.days.specs.Days.{days}
use Rattle.rules.specs.{declared.Plan.Plan, declared.Release.Release, declared.Slot.Slot, declared.Job.TheVariants.{Empty, Waiting}, Plan.{strings_of, string_at, no_string}, Release.{no_release, first_unlawful}, Demand.{moving_cost, hold_of}, Run.{on_bank, waits, left, new_slot, joined, taken, late_at}}
use Rattle.base.proofs.Lists.{true-not-false, all-at}
use Rattle.laws.proofs.{Lawful.{LawfulPlan, LawfulString}, Slots.{at, new_slot-string, new_slot-job, new_slot-release, new_slot-deadline, new_slot-serves}, ReleaseList.{str, Released, due_at, release-lawful, release-string, released-due, released-late, released-apart}, Demand.{hold_of-work, hold_of-taker}}
use Rattle.sound.specs.Served.{payer_in}
use Rattle.laws.proofs.Choices.{late-none}
use Rattle.sound.proofs.{Joining.{JoinedSlot, NoneCame, joined_at, joined_length}, Taking.{Taker, taken-taking}, Orderly.{held, Live, Sits, Orderly, live-if-waits, taken-orderly}}

pub lawful-str : (p : Plan) → LawfulPlan p → (j : ℕ) → j < length (strings_of p) → LawfulString (str p j)
lawful-str p lawful j h = all-at LawfulString (strings_of p) no_string lawful.each j h

-- ---- Step 2

-- the m-th release of the list, from 0, joins an empty slot; or no release of the day is for this place
pub data Arrival (p : Plan) (rs : List Release) (t j : ℕ) (before after : Slot) : Type 0 where
  arrived : (m : ℕ) → m < length rs → (get_or rs m no_release).place ≡ suc j → (get_or rs m no_release).day.0 ≡ t → before.job ≡ Empty
      → after ≡ new_slot p (get_or rs m no_release) (suc m) → Arrival p rs t j before after
  stayed : NoneCame rs t j → after ≡ before → Arrival p rs t j before after

module _ (p : Plan) (rs : List Release) (lawful : LawfulPlan p) (listed : first_unlawful p rs ≡ 0) where
  module _ (t : ℕ) (ss : List Slot) (o : Orderly p rs t ss) (punctual : late_at t ss ≡ 0) where
    -- what is left is due after today
    pub later-due : (j : ℕ) → j < length (strings_of p) → Live p rs t j (at ss j) → t < (at ss j).deadline.0
    later-due j a l =
        let other = late-none t ss punctual j (omega (arith, o.size)) l.some in
        omega (arith, l.open-still)

    -- D ≤ T, and no release is before its due day, so an earlier job of the place is gone
    empty-before : (j : ℕ) → j < length (strings_of p) → Released rs j t → (at ss j).job ≡ Empty
    empty-before j a r = go (o.sits j a)
      where
        go : Sits p rs t j (at ss j) → (at ss j).job ≡ Empty
        go (inl e) = e
        go (inr l) =
            let apart = released-apart p rs listed j (at ss j).release.0 t l.released r l.before in
            let short = (lawful-str p lawful j a).d_max in
            absurd (omega (arith, later-due j a l, l.due, released-due p rs listed j t r))

    pub arrival : (j : ℕ) → j < length (strings_of p) → Arrival p rs t j (at ss j) (at (joined p rs t ss) j)
    arrival j a = go (joined_at p rs listed t ss j (omega (arith, o.size)))
      where
        go : JoinedSlot p 1 rs t j (at ss j) (at (joined p rs t ss) j) → Arrival p rs t j (at ss j) (at (joined p rs t ss) j)
        go (inl c) =
            let number : 1 + c.0 ≡ suc c.0 = omega arith in
            arrived c.0 c.1 c.2 c.3 (empty-before j a (c.0, c.1, c.2, c.3))
            (c.4 ∙ ap (new_slot p (get_or rs c.0 no_release)) number)
        go (inr c) = stayed c.0 c.1

    -- a new job is live
    new-live : (j m : ℕ) → j < length (strings_of p) → m < length rs → (get_or rs m no_release).place ≡ suc j
        → (get_or rs m no_release).day.0 ≡ t
        → Live p rs (suc t) j (new_slot p (get_or rs m no_release) (suc m))
    new-live j m a h place day =
        let r = get_or rs m no_release in
        let new = new_slot p r (suc m) in
        let good = release-lawful p rs listed m h in
        let s : string_at p r.place ≡ str p j = release-string p rs j m place in
        let most : r.need.0 ≤ (str p j).c.0 = rw s at good.need_max in
        let job : new.job ≡ Waiting r.need (days 0) = new_slot-job p r (suc m) in
        let from : new.release.0 ≡ r.day.0 = ap (λ d. d.0) (new_slot-release p r (suc m)) in
        let until : new.deadline.0 ≡ due_at rs m + (str p j).d.0 =
        ap (λ d. d.0) (new_slot-deadline p r (suc m)) ∙ ap (λ b. due_at rs m + b.d.0) s in
        let late = released-late p rs listed j t (m, h, place, day) in
        record {
          some = omega (arith, ap left job, good.need_pos);
          released = (m, h, place, sym from);
          named = new_slot-serves p r (suc m);
          before = omega arith;
          due = until;
          due-latest = omega (arith, good.not_before);
          cap = omega (arith, ap left job, ap held job, hold_of-work p (str p j));
          open-still = omega (arith, (lawful-str p lawful j a).j_max);
        }

    joined-sits : (j : ℕ) → j < length (strings_of p) → Sits p rs (suc t) j (at (joined p rs t ss) j)
    joined-sits j a = go (arrival j a) (o.sits j a)
      where
        go : Arrival p rs t j (at ss j) (at (joined p rs t ss) j) → Sits p rs t j (at ss j) → Sits p rs (suc t) j (at (joined p rs t ss) j)
        go (arrived m h place day empty is) sat = rw is (inr (new-live j m a h place day))
        go (stayed none is) (inl e) = rw is (inl e)
        go (stayed none is) (inr l) =
            let later = later-due j a l in
            rw is
            (inr
            (record {
              some = l.some;
              released = l.released;
              named = l.named;
              before = omega (arith, l.before);
              due = l.due;
              due-latest = l.due-latest;
              cap = l.cap;
              open-still = later;
            }))

    joined-string : (j : ℕ) → j < length (strings_of p) → (at (joined p rs t ss) j).string ≡ str p j
    joined-string j a = go (arrival j a)
      where
        go : Arrival p rs t j (at ss j) (at (joined p rs t ss) j) → (at (joined p rs t ss) j).string ≡ str p j
        go (arrived m h place day empty is) =
            ap (λ s. s.string) is ∙ new_slot-string p (get_or rs m no_release) (suc m) ∙ release-string p rs j m place
        go (stayed none is) = ap (λ s. s.string) is ∙ o.string-kept j a

    -- who is on the bank was on it before
    pub joined-on : (j : ℕ) → j < length (strings_of p) → on_bank (at (joined p rs t ss) j).job ≡ true → on_bank (at ss j).job ≡ true
    joined-on j a on = go (arrival j a)
      where
        go : Arrival p rs t j (at ss j) (at (joined p rs t ss) j) → on_bank (at ss j).job ≡ true
        go (arrived m h place day empty is) =
            absurd (true-not-false (sym on ∙ ap (λ s. on_bank s.job) is ∙ ap on_bank (new_slot-job p (get_or rs m no_release) (suc m))))
        go (stayed none is) = sym (ap (λ s. on_bank s.job) is) ∙ on

    pub joined-orderly : Orderly p rs (suc t) (joined p rs t ss)
    joined-orderly =
        record {
          size = joined_length p rs t ss ∙ o.size;
          string-kept = joined-string;
          sits = joined-sits;
          alone = λ i j a b on on'. o.alone i j a b (joined-on i a on) (joined-on j b on');
        }

    -- who takes the bank came today
    taker-new : (h q : ℕ) → q < length (strings_of p) → Taker t (at (joined p rs t ss) h) (at (joined p rs t ss) q)
        → left (at (joined p rs t ss) q).job ≤ (str p q).c.0
    taker-new h q a k = go (arrival q a)
      where
        go : Arrival p rs t q (at ss q) (at (joined p rs t ss) q) → left (at (joined p rs t ss) q).job ≤ (str p q).c.0
        go (arrived m b place day empty is) =
            let r = get_or rs m no_release in
            let most : r.need.0 ≤ (str p q).c.0 = rw (release-string p rs q m place) at (release-lawful p rs listed m b).need_max in
            let whole : left (at (joined p rs t ss) q).job ≡ r.need.0 + 0 =
            ap (λ s. left s.job) is ∙ ap left (new_slot-job p r (suc m)) in
            omega arith
        go (stayed none is) =
            let w : waits (at ss q).job ≡ true = sym (ap (λ s. waits s.job) is) ∙ k.waiting in
            let l = live-if-waits p rs t q (at ss q) (o.sits q a) w in
            let same : (at (joined p rs t ss) q).release.0 ≡ (at ss q).release.0 = ap (λ s. s.release.0) is in
            absurd (omega (arith, l.before, k.today))

    afford : (h q : ℕ) → q < length (strings_of p) → Taker t (at (joined p rs t ss) h) (at (joined p rs t ss) q)
        → left (at (joined p rs t ss) q).job + moving_cost p (str p q) ≤ hold_of p (str p q)
    afford h q a k =
        let may : (str p q).x ≡ 1 = sym (ap (λ s. s.x) (joined-string q a)) ∙ k.allowed in
        omega (arith, taker-new h q a k, hold_of-taker p (str p q) may)

    pub morning-orderly : Orderly p rs (suc t) (taken p t (joined p rs t ss))
    morning-orderly =
        taken-orderly p rs (suc t) t (joined p rs t ss) (taken p t (joined p rs t ss)) joined-orderly (payer_in t (joined p rs t ss))
        (taken-taking p t (joined p rs t ss)) afford
