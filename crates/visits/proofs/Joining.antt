-- The visits of stints, one stint after the other: what stands at the front of a list grows as the definition says.
--     last_of vs             the last of vs; no visit where there is none
--     EndedVisits vs               each has ended by day 1,000,000
use Rattle.base.proofs.Prelude.{ℕ, zero, suc, ◌+◌, ◌-◌, ◌*◌, ◌/◌, ◌^◌, ◌≤◌, ◌<◌, ◌≡◌, refl, sym, ap, ◌∙◌, true, false, ◌&&◌, List, [], ◌∷◌, ◌++◌, map, map-append, arith, add-one, ltb, eqb, eqb-true, length, get_or, set, length-append, replicate}
use Rattle.std.specs.Prelude.{Option, Some, None}
use Rattle.base.specs.Count.{All, filled, up_from}
use Rattle.base.proofs.{Filling.filled-set, Lists.{by_bool, and_left, and_right, true-not-false}}
use Rattle.rules.specs.{declared.Stint.Stint}
use Rattle.run.specs.Numbers.{stint_at}
use Rattle.visits.specs.{declared.Visit.Visit, declared.OwnVisits.OwnVisits, Visits.end_of_visit, Accepted.no_visit, OwnRun.{visit_of, stretch_joined, stint_ahead, stints_visits, handed_out}, inner.Own.{stints_in, served_by, end_of_stint, follows, longer, visit_alone, with_stint, worked_visit, last_at, pushed}}

-- ---- One stint more

-- a visit of equal numbers
visit-long : (k t n m : ℕ) → n ≡ m → visit_of k t n ≡ visit_of k t m
visit-long k t n m e = ap (visit_of k t) e

with-idle : (vs : List Visit) (s : Stint) → eqb (served_by s) 0 ≡ true → with_stint vs s ≡ vs
unfolding with_stint
with-idle [] s idle = rw idle
with-idle (a ∷ []) s idle = rw idle
with-idle (a ∷ b ∷ vs) s idle = ap (λ l. a ∷ l) (with-idle (b ∷ vs) s idle)

-- a stretch ahead of visits, and a stint behind them
stretch-with : (t n k : ℕ) (vs : List Visit) (s : Stint) → eqb (served_by s) 0 ≡ false
    → stretch_joined t n k (with_stint vs s) ≡ with_stint (stretch_joined t n k vs) s
unfolding stretch_joined with_stint
stretch-with t n k [] s works = rw works
stretch-with t n k (a ∷ []) s works =
    by_bool (eqb a.release k && eqb a.first.0 (t + n))
    (λ joins.
    let release = eqb-true a.release k (and_left (eqb a.release k) (eqb a.first.0 (t + n)) joins) in
    let first = eqb-true a.first.0 (t + n) (and_right (eqb a.release k) (eqb a.first.0 (t + n)) joins) in
    let ends : a.first.0 + a.length.0 ≡ t + (n + a.length.0) = omega (arith, first) in
    let long : n + (a.length.0 + s.length.0) ≡ n + a.length.0 + s.length.0 = omega arith in
    let test : follows a s ≡ (eqb (served_by s) k && eqb s.first.0 (t + (n + a.length.0))) =
    ap (λ r. eqb (served_by s) r && eqb s.first.0 (a.first.0 + a.length.0)) release
    ∙ ap (λ e. eqb (served_by s) k && eqb s.first.0 e) ends in
    by_bool (follows a s)
    (λ meets. rw (works, meets, joins, works, sym test ∙ meets) (ap (λ v. v ∷ []) (visit-long k t _ _ long)))
    (λ apart. rw (works, apart, joins, works, sym test ∙ apart)))
    (λ other.
    by_bool (follows a s) (λ meets. rw (works, meets, other, works, meets)) (λ apart. rw (works, apart, other, works, apart)))
stretch-with t n k (a ∷ b ∷ vs) s works =
    by_bool (eqb a.release k && eqb a.first.0 (t + n)) (λ joins. rw joins) (λ other. rw other)

ahead-with : (q : Stint) (vs : List Visit) (s : Stint) → stint_ahead q (with_stint vs s) ≡ with_stint (stint_ahead q vs) s
unfolding stint_ahead
ahead-with q vs s =
    by_bool (eqb (served_by q) 0)
    (λ idle. rw idle)
    (λ used.
    by_bool (eqb (served_by s) 0)
    (λ none. rw (used, with-idle vs s none) (sym (with-idle _ s none)))
    (λ works. rw used (stretch-with q.first.0 q.length.0 (served_by q) vs s works)))

pub visits-more : (ss : List Stint) (s : Stint) → stints_visits (ss ++ (s ∷ [])) ≡ with_stint (stints_visits ss) s
unfolding stints_visits stint_ahead stretch_joined with_stint
visits-more [] s = refl
visits-more (q ∷ ss) s = ap (stint_ahead q) (visits-more ss s) ∙ ahead-with q (stints_visits ss) s

from_more : (k n : ℕ) → up_from k (suc n) ≡ up_from k n ++ ((k + n) ∷ [])
unfolding up_from
from_more k zero =
    let none : k ≡ k + 0 = omega arith in
    ap (λ m. m ∷ []) none
from_more k (suc n) =
    let more : suc k + n ≡ k + suc n = omega arith in
    ap (λ l. k ∷ l) (from_more (suc k) n ∙ ap (λ m. up_from (suc k) n ++ (m ∷ [])) more)

pub read_more : (numbers : List ℕ) (n : ℕ) → stints_in numbers (n + 1) ≡ stints_in numbers n ++ (stint_at numbers n ∷ [])
read_more numbers n =
    let none : 0 + n ≡ n = omega arith in
    ap (λ m. map (stint_at numbers) (up_from 0 m)) (add-one n)
    ∙ ap (map (stint_at numbers)) (from_more 0 n ∙ ap (λ m. up_from 0 n ++ (m ∷ [])) none)
    ∙ map-append (stint_at numbers) (up_from 0 n) (n ∷ [])

-- ---- The last of them

abbrev last_of : List Visit → Visit
last_of [] = no_visit
last_of (a ∷ []) = a
last_of (a ∷ b ∷ vs) = last_of (b ∷ vs)

last_some : (a : Visit) (vs rest : List Visit) → get_or ((a ∷ vs) ++ rest) (length vs) no_visit ≡ last_of (a ∷ vs)
last_some a [] rest = refl
last_some a (b ∷ vs) rest = last_some b vs rest

last-read : (vs : List Visit) → get_or (filled 3001 no_visit vs) (length vs - 1) no_visit ≡ last_of vs
last-read [] = refl
last-read (a ∷ vs) =
    let less : suc (length vs) - 1 ≡ length vs = omega arith in
    ap (λ i. get_or (filled 3001 no_visit (a ∷ vs)) i no_visit) less ∙ last_some a vs (replicate (3001 - length (a ∷ vs)) no_visit)

module _ (s : Stint) (works : eqb (served_by s) 0 ≡ false) where
  with-apart : (vs : List Visit) → follows (last_of vs) s ≡ false → with_stint vs s ≡ vs ++ (visit_alone s ∷ [])
  unfolding with_stint
  with-apart [] apart = rw works
  with-apart (a ∷ []) apart = rw (works, apart)
  with-apart (a ∷ b ∷ vs) apart = ap (λ l. a ∷ l) (with-apart (b ∷ vs) apart)

  with-longer : (a : Visit) (vs rest : List Visit) → follows (last_of (a ∷ vs)) s ≡ true
      → set ((a ∷ vs) ++ rest) (length vs) (longer (last_of (a ∷ vs)) s) ≡ with_stint (a ∷ vs) s ++ rest
  unfolding with_stint
  with-longer a [] rest meets = rw (works, meets)
  with-longer a (b ∷ vs) rest meets = ap (λ l. a ∷ l) (with-longer b vs rest meets)

  longer-size : (a : Visit) (vs : List Visit) → follows (last_of (a ∷ vs)) s ≡ true → length (with_stint (a ∷ vs) s) ≡ suc (length vs)
  unfolding with_stint
  longer-size a [] meets = rw (works, meets)
  longer-size a (b ∷ vs) meets = ap suc (longer-size b vs meets)

-- ---- Days

abbrev pub EndedVisits : List Visit → Type 0
EndedVisits vs = All (λ v. end_of_visit v ≤ 1000000) vs

last-ends : (vs : List Visit) → EndedVisits vs → end_of_visit (last_of vs) ≤ 1000000
last-ends [] h = omega arith
last-ends (a ∷ []) h = h.0
last-ends (a ∷ b ∷ vs) h = last-ends (b ∷ vs) h.1

-- ---- What is handed out

pub with-few : (vs : List Visit) (s : Stint) → length (with_stint vs s) ≤ length vs + 1
unfolding with_stint
with-few [] s = by_bool (eqb (served_by s) 0) (λ idle. rw idle (omega arith)) (λ works. rw works (omega arith))
with-few (a ∷ []) s =
    by_bool (eqb (served_by s) 0)
    (λ idle. rw idle (omega arith))
    (λ works. by_bool (follows a s) (λ meets. rw (works, meets) (omega arith)) (λ apart. rw (works, apart) (omega arith)))
with-few (a ∷ b ∷ vs) s = omega (arith, with-few (b ∷ vs) s)

module _ (s : Stint) (works : eqb (served_by s) 0 ≡ false) where
  pushed-longer : (vs : List Visit) → follows (last_of vs) s ≡ true
      → record { count = length vs; list = set (filled 3001 no_visit vs) (length vs - 1) (longer (last_of vs) s) }
      ≡ handed_out (with_stint vs s)
  pushed-longer [] meets = absurd (true-not-false (sym (and_left (eqb (served_by s) 0) (eqb s.first.0 0) meets) ∙ works))
  pushed-longer (a ∷ vs) meets =
      let size = longer-size s works a vs meets in
      let less : suc (length vs) - 1 ≡ length vs = omega arith in
      let list : set (filled 3001 no_visit (a ∷ vs)) (length (a ∷ vs) - 1) (longer (last_of (a ∷ vs)) s)
      ≡ filled 3001 no_visit (with_stint (a ∷ vs) s) =
      ap (λ i. set (filled 3001 no_visit (a ∷ vs)) i (longer (last_of (a ∷ vs)) s)) less
      ∙ with-longer s works a vs (replicate (3001 - length (a ∷ vs)) no_visit) meets
      ∙ ap (λ m. with_stint (a ∷ vs) s ++ replicate (3001 - m) no_visit) (sym size) in
      ap (λ l. record { count = length (a ∷ vs); list = l }) list
      ∙ ap (λ n. record { count = n; list = filled 3001 no_visit (with_stint (a ∷ vs) s) }) (sym size)

  pushed-alone : (vs : List Visit) → length vs < 3001 → pushed (handed_out vs) (visit_alone s) ≡ handed_out (with_stint vs s)
  unfolding pushed
  pushed-alone vs room =
      let read = last-read vs in
      by_bool (follows (last_of vs) s)
      (λ meets. rw (read, meets) (pushed-longer vs meets))
      (λ apart.
      let new = with-apart s works vs apart in
      let list = filled-set 3001 no_visit (visit_alone s) vs room in
      let size = sym (length-append vs (visit_alone s ∷ [])) in
      rw (read, apart, new)
      (ap (λ l. record { count = length vs + 1; list = l }) list
      ∙ ap (λ n. record { count = n; list = filled 3001 no_visit (vs ++ (visit_alone s ∷ [])) }) size))

-- where the visits are handed out, and a stint comes: it is pushed, or it is idle
pub pushed-more : (vs : List Visit) (s : Stint) (v : Visit) (own : OwnVisits) → own ≡ handed_out vs → length vs < 3001
    → Some v ≡ worked_visit s → pushed own v ≡ handed_out (with_stint vs s)
unfolding worked_visit
pushed-more vs s v own is room said =
    by_bool (eqb (served_by s) 0)
    (λ idle.
    let none = rw idle at said in
    absurd (never v none))
    (λ works.
    let some = rw works at said in
    rw (is, same v (visit_alone s) some) (pushed-alone s works vs room))
  where
    never : (v : Visit) → ◌≡◌ {A = Option Visit} (Some v) None → ⊥
    never v e = cc

    same : (v w : Visit) → ◌≡◌ {A = Option Visit} (Some v) (Some w) → v ≡ w
    same v w e = cc

pub idle-more : (vs : List Visit) (s : Stint) (own : OwnVisits) → own ≡ handed_out vs → None ≡ worked_visit s
    → own ≡ handed_out (with_stint vs s)
unfolding worked_visit
idle-more vs s own is said =
    by_bool (eqb (served_by s) 0)
    (λ idle. is ∙ ap handed_out (sym (with-idle vs s idle)))
    (λ works.
    let some = rw works at said in
    absurd (never (visit_alone s) some))
  where
    never : (v : Visit) → ◌≡◌ {A = Option Visit} None (Some v) → ⊥
    never v e = cc

pub pushed-room : (vs : List Visit) (own : OwnVisits) → own ≡ handed_out vs → EndedVisits vs → end_of_visit (last_at own) ≤ 1000000
pushed-room vs own is ends = rw (is, last-read vs) (last-ends vs ends)

pub ends_more : (vs : List Visit) (s : Stint) → EndedVisits vs → end_of_stint s ≤ 1000000 → EndedVisits (with_stint vs s)
unfolding with_stint
ends_more [] s h last = by_bool (eqb (served_by s) 0) (λ idle. rw idle tt) (λ works. rw works (last, tt))
ends_more (a ∷ []) s h last =
    by_bool (eqb (served_by s) 0)
    (λ idle. rw idle h)
    (λ works.
    by_bool (follows a s)
    (λ meets.
    let first = eqb-true s.first.0 (a.first.0 + a.length.0) (and_right (eqb (served_by s) a.release) (eqb s.first.0
    (a.first.0 + a.length.0)) meets) in
    let ends : a.first.0 + (a.length.0 + s.length.0) ≤ 1000000 = omega (arith, first, last) in
    rw (works, meets) (ends, tt))
    (λ apart. rw (works, apart) (h.0, (last, tt))))
ends_more (a ∷ b ∷ vs) s h last = (h.0, ends_more (b ∷ vs) s h.1 last)

pub worked-ends : (s : Stint) (v : Visit) → Some v ≡ worked_visit s → end_of_visit v ≡ end_of_stint s
unfolding worked_visit
worked-ends s v said =
    by_bool (eqb (served_by s) 0)
    (λ idle.
    let none = rw idle at said in
    absurd (never v none))
    (λ works.
    let some = rw works at said in
    ap end_of_visit (same v (visit_alone s) some))
  where
    never : (v : Visit) → ◌≡◌ {A = Option Visit} (Some v) None → ⊥
    never v e = cc

    same : (v w : Visit) → ◌≡◌ {A = Option Visit} (Some v) (Some w) → v ≡ w
    same v w e = cc

-- how far the stints of a list of numbers are handed out
pub record HandedTo (numbers : List ℕ) (i : ℕ) (own : OwnVisits) : Type 0 where
  pub said : own ≡ handed_out (stints_visits (stints_in numbers i))
  pub few : length (stints_visits (stints_in numbers i)) ≤ i
  pub ends : EndedVisits (stints_visits (stints_in numbers i))

pub handed-none : (numbers : List ℕ) → HandedTo numbers 0 (handed_out [])
unfolding up_from stints_visits
handed-none numbers = record { said = refl; few = omega arith; ends = tt }

pub handed-more : (numbers : List ℕ) (i : ℕ) (own next : OwnVisits) → HandedTo numbers i own → end_of_stint (stint_at numbers i) ≤ 1000000
    → next ≡ handed_out (with_stint (stints_visits (stints_in numbers i)) (stint_at numbers i)) → HandedTo numbers (i + 1) next
handed-more numbers i own next h last is =
    let vs = stints_visits (stints_in numbers i) in
    let s = stint_at numbers i in
    let more : stints_visits (stints_in numbers (i + 1)) ≡ with_stint vs s =
    ap stints_visits (read_more numbers i) ∙ visits-more (stints_in numbers i) s in
    record {
      said = is ∙ ap handed_out (sym more);
      few = rw more (omega (arith, with-few vs s, h.few));
      ends = rw more (ends_more vs s h.ends last);
    }

-- ---- A release that a list of numbers names is one of them

pub named-fits : (numbers : List ℕ) (i : ℕ) → ((j : ℕ) → get_or numbers j 0 < 2 ^ 32) → served_by (stint_at numbers i) < 2 ^ 32
unfolding stint_at
named-fits numbers i small =
    by_bool (ltb i (length numbers / 5))
    (λ inside.
    by_bool (eqb (get_or numbers (5 * i + 2) 0) 1)
    (λ work. rw (inside, work) (small (5 * i + 4)))
    (λ other.
    by_bool (eqb (get_or numbers (5 * i + 2) 0) 2)
    (λ moving. rw (inside, other, moving) (small (5 * i + 4)))
    (λ idle. rw (inside, other, idle) (omega arith))))
    (λ past. rw past (omega arith))
