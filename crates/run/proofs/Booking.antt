-- Why the book holds the stints of the history so far, and the lent list those that are finished.
--     Booked us list₀ list b    the book b and the list, which was list₀, have the stints of the uses us: those before the last stand in
--                               the list, if it has room for them, and the last, if there is one, is the book's current one
--     Told us list₀ list k      there are k stints, and the list has them all, if it has room for them
use Rattle.base.proofs.Prelude.{ℕ, ◌+◌, ◌-◌, ◌*◌, ◌≤◌, ◌<◌, ◌≡◌, refl, sym, ap, ◌∙◌, subst, ◌⊎◌, inl, inr, true, false, ◌&&◌, List, [], ◌∷◌, ◌++◌, append_assoc, arith, eq-eqb, ne_eqb, leb-true, le-leb, lt-leb, eqb, leb, length, take, drop, put_mid, replicate, length-append, length-replicate, length-drop, take_at, drop-drop, drop_at, length-take}
use mathlib.Core.List.{flat_map}
use Rattle.days.specs.Days.{day}
use Rattle.rules.specs.{declared.Plan.Plan, declared.Release.Release, declared.Use.Use, declared.Use.TheVariants.{Idle, Work, Move}, declared.Stint.Stint, Run.{late_on, history}, Stints.{same_use, stint, stints_from, days_run, run_stints, kind_of, place_used, release_used, stint_numbers, stints_numbers}}
use Rattle.base.proofs.Lists.{by_bool}
use Rattle.laws.proofs.History.{miss_day-is, miss_day-none}
use Rattle.stretch.proofs.Few.{few-stints}
use Rattle.stretch.proofs.StintJoin.{same_use-is, stints-one, stints-longer, stints-more}
use Rattle.run.specs.{declared.book.Book.Book, inner.Walk.Tells, inner.Book.{Writable, stored_at, closed_count, closed_list, noted_book, noted_list}}

-- ---- The same use, by numbers

pub same_numbers : (u v : Use)
    → same_use u v ≡ (eqb (kind_of u) (kind_of v) && (eqb (place_used u) (place_used v) && eqb (release_used u) (release_used v)))
unfolding same_use
same_numbers Idle Idle = refl
same_numbers Idle (Work j m) = refl
same_numbers Idle (Move j m) = refl
same_numbers (Work i k) Idle = refl
same_numbers (Work i k) (Work j m) = refl
same_numbers (Work i k) (Move j m) = refl
same_numbers (Move i k) Idle = refl
same_numbers (Move i k) (Work j m) = refl
same_numbers (Move i k) (Move j m) = refl

-- ---- Five numbers at a place

pub stint-stored : (k : ℕ) (s : Stint) (list : List ℕ) (kind place release : ℕ) → kind ≡ kind_of s.used → place ≡ place_used s.used
    → release ≡ release_used s.used → 5 * k + 5 ≤ length list
    → put_mid (5 * k) (5 * k + 5 - 5 * k) list (s.first.0 ∷ s.length.0 ∷ kind ∷ place ∷ release ∷ []) ≡ stored_at k s list
unfolding stored_at
stint-stored k s list kind place release ki pl re room =
    let five : 5 * k + 5 - 5 * k ≡ 5 = omega arith in
    rw (le-leb (5 * k + 5) (length list) room, ki, pl, re, five, drop-drop 5 (5 * k) list)

pub stint-not-stored : (k : ℕ) (s : Stint) (list : List ℕ) → length list < 5 * k + 5 → list ≡ stored_at k s list
unfolding stored_at
stint-not-stored k s list short = rw (lt-leb (5 * k + 5) (length list) short)

-- ---- A stretch comes

module _ (b : Book) (s : Stint) (list : List ℕ) where
  pub noted-on : same_use b.current.used s.used ≡ true
      → (record { finished = b.finished; current = stint b.current.first.0 (b.current.length.0 + s.length.0) b.current.used }
      ≡ noted_book b s)
      × (list ≡ noted_list b s list)
  unfolding noted_book noted_list
  noted-on same = (rw same, rw same)

  pub noted-anew : same_use b.current.used s.used ≡ false → (k : ℕ) (after : List ℕ) → k ≡ closed_count b → after ≡ closed_list b list
      → (record { finished = k; current = s } ≡ noted_book b s) × (after ≡ noted_list b s list)
  unfolding noted_book noted_list
  noted-anew other k after count is =
      (rw (other, count), rw (other, is))

-- ---- The numbers of stints

pub numbers-length : (ss : List Stint) → length (stints_numbers ss) ≡ 5 * length ss
unfolding stints_numbers flat_map
numbers-length [] = refl
numbers-length (s ∷ ss) = omega (arith, numbers-length ss)

numbers_more : (ss : List Stint) (s : Stint) → stints_numbers (ss ++ (s ∷ [])) ≡ stints_numbers ss ++ stint_numbers s
unfolding stints_numbers flat_map
numbers_more [] s = refl
numbers_more (r ∷ ss) s =
    ap (λ l. r.first.0 ∷ r.length.0 ∷ kind_of r.used ∷ place_used r.used ∷ release_used r.used ∷ l) (numbers_more ss s)

-- ---- The list

-- the stints ss stand at the front of a list that was list₀, if it has room for them
pub record InList (ss : List Stint) (list₀ list : List ℕ) : Type 0 where
  pub size : length list ≡ length list₀
  pub front : 5 * length ss ≤ length list₀ → list ≡ stints_numbers ss ++ drop (5 * length ss) list₀

-- one more is stored behind them
module _ (ss : List Stint) (s : Stint) (list₀ list : List ℕ) (so_far : InList ss list₀ list) where
  stored-size : length (stored_at (length ss) s list) ≡ length list
  unfolding stored_at
  stored-size =
      by_bool (leb (5 * length ss + 5) (length list))
      (λ room.
      let fits = leb-true (5 * length ss + 5) (length list) room in
      rw room
      (omega (
        arith,
        length-append (take (5 * length ss) list) (stint_numbers s ++ drop (5 * length ss + 5) list),
        length-take (5 * length ss) list,
        length-drop (5 * length ss + 5) list,
      )))
      (λ short. rw short)

  stored-front : 5 * length (ss ++ (s ∷ [])) ≤ length list₀
      → stored_at (length ss) s list ≡ stints_numbers (ss ++ (s ∷ [])) ++ drop (5 * length (ss ++ (s ∷ []))) list₀
  unfolding stored_at
  stored-front room =
      let at = 5 * length ss in
      let numbers = stints_numbers ss in
      let count = length-append ss (s ∷ []) in
      let size = so_far.size in
      let fits : at + 5 ≤ length list = omega arith in
      let is = so_far.front (omega arith) in
      let before : take at list ≡ numbers = ap (take at) is ∙ take_at numbers (drop at list₀) at (numbers-length ss) in
      let behind : drop at list ≡ drop at list₀ = ap (drop at) is ∙ drop_at numbers (drop at list₀) at (numbers-length ss) in
      let later : drop (at + 5) list ≡ drop (at + 5) list₀ = sym (drop-drop 5 at list) ∙ ap (drop 5) behind ∙ drop-drop 5 at list₀ in
      let next : at + 5 ≡ 5 * length (ss ++ (s ∷ [])) = omega arith in
      rw (le-leb (at + 5) (length list) fits, before, later, next)
      (sym (append_assoc numbers (stint_numbers s) (drop (5 * length (ss ++ (s ∷ []))) list₀))
      ∙ ap (λ l. l ++ drop (5 * length (ss ++ (s ∷ []))) list₀) (sym (numbers_more ss s)))

  listed_more : InList (ss ++ (s ∷ [])) list₀ (stored_at (length ss) s list)
  listed_more = record { size = stored-size ∙ so_far.size; front = stored-front }

-- ---- The book

-- the uses that the code's numbers can say
pub record Sayable (u : Use) : Type 0 where
  pub place : place_used u ≤ 1000
  pub release : release_used u ≤ 1000

pub record Booked (us : List Use) (list₀ list : List ℕ) (b : Book) : Type 0 where
  pub before : List Stint
  pub count : b.finished ≡ length before
  pub listed : InList before list₀ list
  pub so_far : ((us ≡ []) × (before ≡ []) × (b.current ≡ stint 0 0 Idle))
      ⊎ ((stints_from 0 us ≡ before ++ (b.current ∷ [])) × (1 ≤ b.current.length.0))
  pub short : b.current.length.0 ≤ length us
  pub said : Sayable b.current.used

pub booked-start : (list : List ℕ) → Booked [] list list (record { finished = 0; current = stint 0 0 Idle })
unfolding stints_numbers flat_map
booked-start list =
    record {
      before = [];
      count = refl;
      listed = record { size = refl; front = λ room. refl };
      so_far = inl (refl, refl, refl);
      short = omega arith;
      said = record { place = omega arith; release = omega arith };
    }

module _ (us : List Use) (list₀ list : List ℕ) (b : Book) (so : Booked us list₀ list b) where
  -- the last is finished
  pub closed-listed : (closed_count b ≡ length (stints_from 0 us)) × InList (stints_from 0 us) list₀ (closed_list b list)
  unfolding closed_count closed_list stints_from
  closed-listed = go so.so_far
    where
      go : ((us ≡ []) × (so.before ≡ []) × (b.current ≡ stint 0 0 Idle))
          ⊎ ((stints_from 0 us ≡ so.before ++ (b.current ∷ [])) × (1 ≤ b.current.length.0))
          → (closed_count b ≡ length (stints_from 0 us)) × InList (stints_from 0 us) list₀ (closed_list b list)
      go (inl n) =
          let none : b.current.length.0 ≡ 0 = ap (λ s. s.length.0) n.2 in
          rw (n.0, eq-eqb _ 0 none) (so.count ∙ ap length n.1, subst (λ ss. InList ss list₀ list) n.1 so.listed)
      go (inr n) =
          let some = ne_eqb b.current.length.0 0 (λ z. omega (arith, n.1)) in
          rw (n.0, some) (
            omega (arith, so.count, length-append so.before (b.current ∷ [])),
            rw so.count (listed_more so.before b.current list₀ list so.listed),
          )

  -- a stretch comes
  module _ (k : ℕ) (u : Use) (some : 1 ≤ k) (said : Sayable u) where
    longer-length : length (us ++ replicate k u) ≡ length us + k
    longer-length = omega (arith, length-append us (replicate k u), length-replicate k u)

    pub noted-booked : Booked (us ++ replicate k u) list₀ (noted_list b (stint (length us) k u) list) (noted_book b (stint (length us) k u))
    noted-booked = by_bool (same_use b.current.used u) goes_on begins
      where
        goes_on : same_use b.current.used u ≡ true
            → Booked (us ++ replicate k u) list₀ (noted_list b (stint (length us) k u) list) (noted_book b (stint (length us) k u))
        goes_on same =
            let is = noted-on b (stint (length us) k u) list same in
            rw (sym is.0, sym is.1)
            (record {
              before = so.before;
              count = so.count;
              listed = so.listed;
              so_far = inr (longer same so.so_far, omega arith);
              short = omega (arith, longer-length, so.short);
              said = so.said;
            })
          where
            longer : same_use b.current.used u ≡ true → ((us ≡ []) × (so.before ≡ []) × (b.current ≡ stint 0 0 Idle))
                ⊎ ((stints_from 0 us ≡ so.before ++ (b.current ∷ [])) × (1 ≤ b.current.length.0))
                → stints_from 0 (us ++ replicate k u)
                ≡ so.before ++ (stint b.current.first.0 (b.current.length.0 + k) b.current.used ∷ [])
            longer same (inl n) =
                let idle : u ≡ Idle = sym (same_use-is b.current.used u same) ∙ ap (λ s. s.used) n.2 in
                let sum : 0 + k ≡ k = omega arith in
                rw (n.0, n.1, n.2, idle, sum) (stints-one 0 k Idle some)
            longer same (inr n) = stints-longer 0 us so.before b.current n.0 k some u same

        begins : same_use b.current.used u ≡ false
            → Booked (us ++ replicate k u) list₀ (noted_list b (stint (length us) k u) list) (noted_book b (stint (length us) k u))
        begins other =
            let is = noted-anew b (stint (length us) k u) list other (closed_count b) (closed_list b list) refl refl in
            rw (sym is.0, sym is.1)
            (record {
              before = stints_from 0 us;
              count = closed-listed.0;
              listed = closed-listed.1;
              so_far = inr (anew other so.so_far, some);
              short = omega (arith, longer-length);
              said = said;
            })
          where
            anew : same_use b.current.used u ≡ false → ((us ≡ []) × (so.before ≡ []) × (b.current ≡ stint 0 0 Idle))
                ⊎ ((stints_from 0 us ≡ so.before ++ (b.current ∷ [])) × (1 ≤ b.current.length.0))
                → stints_from 0 (us ++ replicate k u) ≡ stints_from 0 us ++ (stint (length us) k u ∷ [])
            anew other (inl n) = rw n.0 (unfold stints_from in stints-one 0 k u some)
            anew other (inr n) =
                let day : 0 + length us ≡ length us = omega arith in
                stints-more 0 us so.before b.current n.0 k some u other
                ∙ ap (λ l. l ++ (stint (0 + length us) k u ∷ [])) (sym n.0)
                ∙ ap (λ d. stints_from 0 us ++ (stint d k u ∷ [])) day

-- ---- The end of a run

pub days-missed : (p : Plan) (rs : List Release) (t : ℕ) → t ≤ p.run.0 → 1 ≤ late_on p rs t → ((i : ℕ) → i < t → late_on p rs i ≡ 0)
    → days_run p rs ≡ t
unfolding days_run
days-missed p rs t within late before = omega (arith, miss_day-is p rs t within late before)

pub days-clean : (p : Plan) (rs : List Release) → ((t : ℕ) → t ≤ p.run.0 → late_on p rs t ≡ 0) → days_run p rs ≡ p.run.0
unfolding days_run
days-clean p rs none = omega (arith, miss_day-none p rs none)

module _ (p : Plan) (rs : List Release) (t : ℕ) (list₀ list : List ℕ) (b : Book) (so : Booked (history p rs t) list₀ list b) where
  -- the book's numbers fit
  pub booked-writable : length rs ≤ 1000 → Writable b
  booked-writable many =
      record {
        few = few so.so_far;
        place = omega (arith, so.said.place);
        release = omega (arith, so.said.release);
      }
    where
      few : ((history p rs t ≡ []) × (so.before ≡ []) × (b.current ≡ stint 0 0 Idle))
          ⊎ ((stints_from 0 (history p rs t) ≡ so.before ++ (b.current ∷ [])) × (1 ≤ b.current.length.0))
          → b.finished ≤ 1000000
      few (inl n) = omega (arith, so.count, ap length n.1)
      few (inr n) =
          omega (arith, so.count, few-stints p rs t, ap length n.0, length-append so.before (b.current ∷ []))

  -- where the run ends on day t, the book has all its stints
  pub booked-ends : days_run p rs ≡ t
      → (closed_count b ≡ length (run_stints p rs)) × Tells p rs list₀ (closed_list b list)
  unfolding run_stints
  booked-ends over =
      let all = closed-listed (history p rs t) list₀ list b so in
      rw over (
        all.0,
        λ room. all.1.front room ∙ ap (λ n. stints_numbers (stints_from 0 (history p rs t)) ++ drop n list₀)
            (sym (numbers-length (stints_from 0 (history p rs t)))),
      )

-- the code's stretch comes: the days of the history that follow
pub booked-next : (us vs : List Use) (list₀ list : List ℕ) (b : Book) (s : Stint) (u : Use) (after : List ℕ) (next : Book)
    → Booked us list₀ list b → s.first.0 ≡ length us → s.used ≡ u → vs ≡ us ++ replicate s.length.0 u → 1 ≤ s.length.0 → Sayable u
    → after ≡ noted_list b s list → next ≡ noted_book b s → Booked vs list₀ after next
booked-next us vs list₀ list b s u after next so day same longer some said is book =
    let spelled : s ≡ stint (length us) s.length.0 u =
    ap (λ d. stint d s.length.0 s.used) day ∙ ap (λ w. stint (length us) s.length.0 w) same in
    rw (longer, is, book, spelled) (noted-booked us list₀ list b so s.length.0 u some said)
