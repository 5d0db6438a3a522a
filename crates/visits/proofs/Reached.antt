-- How far a list has been checked: what the book says of the records seen, the latest first, and what is still to be looked at. One record
-- more keeps that; at the end it is the answer.
--     Last seen book        the book has the end of the last visit and its release, and every other ended earlier: a visit that
--                           overlaps or touches one of those seen overlaps or touches the last
--     Going ..              nothing was refused so far; the records of `rest` are to come
--     Far ..                the same, whatever was seen
--     Reached ..            that, or the refusal is known
use Rattle.base.proofs.Prelude.{ℕ, suc, ◌+◌, ◌-◌, ◌*◌, ◌≤◌, ◌<◌, ◌^◌, ◌≡◌, refl, sym, ap, ◌∙◌, ◌≢◌, subst, true, false, not, cond, List, [], ◌∷◌, arith, ℕ_discrete, eqb, length, get_or, take, drop, drop-cons, drop_of_length-le, get_or-take, eqb-true, eq-eqb, ne_eqb, lt-ltb, add-one, mul-le-mul, mul-zero, length-set, get_or-set_same, get_or-set_other, length-take-le}
use Rattle.std.specs.Prelude.{Err}
use Rattle.std.specs.Result.{is_ok}
use Rattle.faults.specs.Checks.{Refused, Lawful, Checked, then}
use Rattle.faults.specs.declared.Refusal.{Refusal}
use lib.ListN.{length-take}
use native.Mathlib.Nat.{mul-suc}
use Rattle.base.specs.Count.{sum_of, keep}
use Rattle.base.proofs.{Lists.{All, by_bool, true-not-false, and_both, all_map, all-at}, Order.{keep-yes, keep-no}}
use Rattle.faults.specs.declared.Fault.TheVariants.{VisitUnlawful}
use Rattle.rules.specs.{declared.Plan.Plan, declared.Release.Release, declared.Releases.Releases, Plan.{strings_of, string_at, no_string}, Demand.moving_cost, Release.{releases_of, released, deadline_of}, Refusal.run_check}
use Rattle.laws.proofs.{Lawful.{LawfulString}, Releases.{LawfulRun, run_check-lawful}, ReleaseList.{LawfulRelease, release-lawful}}
use Rattle.visits.specs.{Accepted.no_visit, declared.Visit.Visit, declared.book.Account.Account, declared.book.Book.Book, Visits.{end_of_visit, visits_for, days_for, days_asked, adds_up, visit_lawful, breaking_from, first_breaking, first_short, visit_list_check, visits_check}, inner.Book.{no_account, account_at, BookEntry, Books, meets_last, kept_by, asked_again, account_after, booked, kept_check, book_after, short_of, sums_by, Fit, BeforeFirst}}
use Rattle.visits.proofs.{Records.{LawfulVisit, Clear, lawful-visit, visit-lawful}, Kept.{KeptBy, kept_by-is, kept_by-yes}, Booking.books-first, Short.short-first}

-- ---- The last visit

abbrev pub Last : List Visit → Book → Type 0
Last [] book = (book.end.0 ≡ 0) × (book.release ≡ 0)
Last (q ∷ qs) book = (book.end.0 ≡ end_of_visit q) × (book.release ≡ q.release) × All (λ o. end_of_visit o < end_of_visit q) qs

module _ (book : Book) (v : Visit) where
  meets-not : (v.release ≡ book.release → v.first.0 ≡ book.end.0 → ⊥) → meets_last book v ≡ false
  unfolding meets_last
  meets-not none =
      by_bool (eqb v.release book.release)
      (λ same. rw same (ne_eqb v.first.0 book.end.0 (λ meets. none (eqb-true _ _ same) meets)))
      (λ other. rw other)

  meets-never : meets_last book v ≡ false → v.release ≡ book.release → v.first.0 ≡ book.end.0 → ⊥
  unfolding meets_last
  meets-never h same meets = true-not-false (sym (and_both _ _ (eq-eqb _ _ same) (eq-eqb _ _ meets)) ∙ h)

  -- clear of the last, clear of all
  clear-of-last : (seen : List Visit) → Last seen book → book.end.0 ≤ v.first.0 → meets_last book v ≡ false → All (Clear v) seen
  clear-of-last [] l after apart = tt
  clear-of-last (q ∷ qs) l after apart = (
    (
      omega (arith, l.0),
      λ same.
          elim (ℕ_discrete v.first.0 book.end.0) [
            | yes meets ↦ absurd (meets-never apart (sym same ∙ sym l.1) meets)
            | no other ↦ omega (arith, l.0)
          ],
    ),
    all_map (λ o. end_of_visit o < end_of_visit q) (Clear v) (λ o less. (omega (arith, l.0), λ same. omega (arith, l.0))) qs l.2,
  )

  after_last : (seen : List Visit) → Last seen book → All (Clear v) seen → book.end.0 ≤ v.first.0
  after_last [] l all = omega (arith, l.0)
  after_last (q ∷ qs) l all = omega (arith, l.0, all.0.0)

  apart-from-last : (seen : List Visit) → Last seen book → 1 ≤ v.release → All (Clear v) seen → meets_last book v ≡ false
  apart-from-last [] l low all = meets-not (λ same meets. omega (arith, l.1))
  apart-from-last (q ∷ qs) l low all =
      meets-not (λ same meets. omega (arith, l.0, all.0.1 (sym l.1 ∙ sym same)))

-- ---- Sums, one visit more

module _ (k : ℕ) (v : Visit) (vs : List Visit) where
  pub days-this : v.release ≡ k → days_for k (v ∷ vs) ≡ v.length.0 + days_for k vs
  unfolding sum_of
  days-this e = ap (sum_of (λ w. w.length.0)) (keep-yes (λ w. eqb w.release k) v vs (eq-eqb _ _ e))

  pub days-other : v.release ≢ k → days_for k (v ∷ vs) ≡ days_for k vs
  days-other e = ap (sum_of (λ w. w.length.0)) (keep-no (λ w. eqb w.release k) v vs (ne_eqb _ _ e))

  visits-this : v.release ≡ k → length (visits_for k (v ∷ vs)) ≡ suc (length (visits_for k vs))
  visits-this e = ap length (keep-yes (λ w. eqb w.release k) v vs (eq-eqb _ _ e))

  visits-other : v.release ≢ k → length (visits_for k (v ∷ vs)) ≡ length (visits_for k vs)
  visits-other e = ap length (keep-no (λ w. eqb w.release k) v vs (ne_eqb _ _ e))

-- none of them, no days
no-days : (ws : List Visit) → length ws ≡ 0 → sum_of (λ w. w.length.0) ws ≡ 0
unfolding sum_of
no-days [] h = refl
no-days (w ∷ ws) h = absurd (omega arith)

mul_next : (a n : ℕ) → a * suc n ≡ a * n + a
mul_next a n = mul-suc a n

-- ---- Deadlines

module _ (p : Plan) (rs : Releases) (good : LawfulRun p rs) (k : ℕ) (low : 1 ≤ k) (high : k ≤ length (releases_of rs)) where
  listed_here : LawfulRelease p (released (releases_of rs) k)
  listed_here = release-lawful p (releases_of rs) good.none_bad (k - 1) (omega arith)

  string-here : LawfulString (string_at p (released (releases_of rs) k).place)
  string-here =
      all-at LawfulString (strings_of p) no_string good.plan.each ((released (releases_of rs) k).place - 1)
      (omega (arith, listed_here.within, listed_here.place_pos))

  deadline-small : deadline_of p (released (releases_of rs) k) ≤ 1001000
  deadline-small = omega (arith, string-here.t_max, string-here.d_max, listed_here.not_before, listed_here.early, good.plan.run_max)

  need-small : (released (releases_of rs) k).need.0 ≤ 1000
  need-small = omega (arith, string-here.t_max, string-here.d_max, string-here.c_max, listed_here.need_max)

  cost-small : moving_cost p (string_at p (released (releases_of rs) k).place) ≤ 1000
  unfolding moving_cost
  cost-small = string-here.a_max

-- ---- Where the check stands

pub record Going (p : Plan) (rs : Releases) (vs : List Visit) (i : ℕ) (rest seen : List Visit) (book : Book) : Type 0 where
  pub run : run_check p rs ≡ Lawful
  pub lawful : LawfulRun p rs
  pub count-is : book.count ≡ length (releases_of rs)
  pub last : Last seen book
  pub early : book.end.0 ≤ 1001000
  pub days-le : (k : ℕ) → days_for k seen ≤ book.end.0
  pub visits-le : (k : ℕ) → length (visits_for k seen) ≤ days_for k seen
  pub books : Books p (releases_of rs) seen book
  pub breaks : breaking_from p (releases_of rs) seen (suc i) rest ≡ first_breaking p (releases_of rs) vs
  pub days-all : (k : ℕ) → days_for k seen + days_for k rest ≡ days_for k vs
  pub visits-all : (k : ℕ) → length (visits_for k seen) + length (visits_for k rest) ≡ length (visits_for k vs)

pub data Far (p : Plan) (rs : Releases) (vs : List Visit) (i : ℕ) (rest : List Visit) (book : Book) : Type 0 where
  far : (seen : List Visit) → Going p rs vs i rest seen book → Far p rs vs i rest book

pub data Reached (p : Plan) (rs : Releases) (vs : List Visit) (i : ℕ) (rest : List Visit) (broken : Checked) (book : Book) : Type 0 where
  going : broken ≡ Lawful → Far p rs vs i rest book → Reached p rs vs i rest broken book
  ended : (e : Refusal) → broken ≡ Err e → visits_check p rs vs ≡ Err e → Reached p rs vs i rest broken book

-- ---- The numbers leave room

module _ (p : Plan) (rs : Releases) (vs : List Visit) (i : ℕ) (rest seen : List Visit) (book : Book)
    (g : Going p rs vs i rest seen book) where
  here : (k : ℕ) → 1 ≤ k → k ≤ book.count → BookEntry p (releases_of rs) seen (account_at book k) k
  here k low high = g.books.account k low (omega (arith, g.count-is))

  few-asked : (k : ℕ) → 1 ≤ k → k ≤ book.count → (account_at book k).asked.0 + (account_at book k).cost.0 < 2 ^ 32
  few-asked k low high =
      let within : k ≤ length (releases_of rs) = omega (arith, g.count-is) in
      let a = moving_cost p (string_at p (released (releases_of rs) k).place) in
      let n = length (visits_for k seen) - 1 in
      let small = cost-small p rs g.lawful k low within in
      let few : n ≤ 1001000 = omega (arith, g.visits-le k, g.days-le k, g.early) in
      let product : a * n ≤ 1000 * 1001000 = mul-le-mul small few in
      omega (
        arith,
        product,
        need-small p rs g.lawful k low within,
        (here k low high).asked_is,
        (here k low high).cost_is,
      )

  going-fit : Fit book
  going-fit =
      record {
        few = omega (arith, g.count-is, take_count);
        due_room = λ k low high.
            omega (arith, (here k low high).due_is, deadline-small p rs g.lawful k low (omega (arith, g.count-is)));
        had_room = λ k low high. omega (arith, (here k low high).had_is, g.days-le k);
        asked_room = few-asked;
      }
    where
      take_count : length (releases_of rs) ≤ 1000
      take_count = omega (arith, g.lawful.few, length-take rs.count rs.list)

pub far-fit : (p : Plan) (rs : Releases) (vs : List Visit) (i : ℕ) (rest : List Visit) (book : Book) → Far p rs vs i rest book → Fit book
far-fit p rs vs i rest book (far seen g) = going-fit p rs vs i rest seen book g

-- ---- One record more

module _ (p : Plan) (rs : Releases) (vs : List Visit) (i : ℕ) (v : Visit) (rest seen : List Visit) (book : Book)
    (g : Going p rs vs i (v ∷ rest) seen book) where
  abbrev L : List Release
  L = releases_of rs

  abbrev account : (k : ℕ) → 1 ≤ k → k ≤ length L → BookEntry p L seen (account_at book k) k
  account = g.books.account

  kept-lawful : KeptBy book v → LawfulVisit p L v × All (Clear v) seen
  kept-lawful k =
      let within : v.release ≤ length L = omega (arith, k.high, g.count-is) in
      let a = account v.release k.low within in (
        record {
          long = k.long;
          low = k.low;
          high = within;
          since = omega (arith, k.since, a.opens_is);
          due = omega (arith, k.until, a.due_is);
        },
        clear-of-last book v seen g.last k.after k.apart,
      )

  lawful-kept : LawfulVisit p L v → All (Clear v) seen → KeptBy book v
  lawful-kept good all =
      let a = account v.release good.low good.high in
      record {
        long = good.long;
        after = after_last book v seen g.last all;
        low = good.low;
        high = omega (arith, good.high, g.count-is);
        apart = apart-from-last book v seen g.last good.low all;
        since = omega (arith, good.since, a.opens_is);
        until = omega (arith, good.due, a.due_is);
      }

  -- by the book and by the page: the same
  kept-is : kept_by book v ≡ visit_lawful p L seen v
  kept-is =
      by_bool (kept_by book v)
      (λ t.
      let l = kept-lawful (kept_by-is book v t) in
      t ∙ sym (visit-lawful p L seen v l.0 l.1))
      (λ e.
      by_bool (visit_lawful p L seen v)
      (λ t.
      let l = lawful-visit p L seen v t in
      absurd (true-not-false (sym (kept_by-yes book v (lawful-kept l.0 l.1)) ∙ e)))
      (λ f. e ∙ sym f))

  broken-said : kept_by book v ≡ false → visits_check p rs vs ≡ Refused VisitUnlawful (suc i)
  unfolding visits_check visit_list_check breaking_from
  broken-said e =
      let breaking : first_breaking p L vs ≡ suc i = sym g.breaks ∙ rw (sym kept-is ∙ e) in
      rw (g.run, breaking, lt-ltb 0 (suc i) (omega arith))

  -- the book with the visit: the accounts of the others stay
  module _ (k : ℕ) (low : 1 ≤ k) (high : k ≤ length L) (kept : KeptBy book v) where
    abbrev r : ℕ
    r = v.release

    abbrev here_now : Account
    here_now = account_at book r

    few : (r ≤ 1000) × (k ≤ 1000)
    few = (
      omega (arith, kept.high, g.count-is, g.lawful.few, length-take rs.count rs.list),
      omega (arith, g.lawful.few, length-take rs.count rs.list),
    )

    booked-this : r ≡ k → account_at (booked book v) k ≡ account_after (account_at book k) v.length.0
    unfolding booked
    booked-this same =
        let room : k - 1 < length book.accounts = omega (arith, few, g.books.size) in
        rw same (get_or-set_same book.accounts (k - 1) (account_after (account_at book k) v.length.0) no_account room)

    booked-other : r ≢ k → account_at (booked book v) k ≡ account_at book k
    unfolding booked
    booked-other other =
        let apart : k - 1 ≢ r - 1 = λ h. other (omega (arith, kept.low)) in
        get_or-set_other book.accounts (r - 1) (k - 1) (account_after here_now v.length.0) no_account apart

    -- what is asked for, one visit more
    asks-is : r ≡ k
        → (account_at book k).asked.0 + asked_again (account_at book k).had.0 (account_at book k).cost.0 ≡ days_asked p L (v ∷ seen) k
    unfolding asked_again
    asks-is same =
        let a = account k low high in
        let n = length (visits_for k seen) in
        let fee = moving_cost p (string_at p (released L k).place) in
        let sofar = (account_at book k).had.0 in
        let more : length (visits_for k (v ∷ seen)) - 1 ≡ n = omega (arith, visits-this k v seen same) in
        let whole : fee * (length (visits_for k (v ∷ seen)) - 1) ≡ fee * n = ap (λ m. fee * m) more in
        elim (ℕ_discrete n 0) [
          | yes none ↦
              let zero-had : sofar ≡ 0 = a.had_is ∙ no-days (visits_for k seen) none in
              let nothing : fee * n ≡ 0 = ap (λ m. fee * m) none ∙ mul-zero fee in
              let less : fee * (n - 1) ≡ 0 = ap (λ m. fee * (m - 1)) none ∙ mul-zero fee in
              rw (eq-eqb sofar 0 zero-had) (omega (arith, a.asked_is))
          | no some ↦
              let had-some : sofar ≢ 0 = λ z. absurd (omega (arith, g.visits-le k, a.had_is)) in
              let step : fee * n ≡ fee * (n - 1) + fee = ap (λ m. fee * m) (pred n some) ∙ mul_next fee (n - 1) in
              rw (ne_eqb sofar 0 had-some) (omega (arith, a.asked_is, a.cost_is))
        ]
      where
        pred : (n : ℕ) → n ≢ 0 → n ≡ suc (n - 1)
        pred n h = omega arith

    account-this : r ≡ k → BookEntry p L (v ∷ seen) (account_at (booked book v) k) k
    unfolding account_after
    account-this same =
        let a = account k low high in
        rw (booked-this same)
        (record {
          opens_is = a.opens_is;
          due_is = a.due_is;
          cost_is = a.cost_is;
          asked_is = asks-is same;
          had_is = omega (arith, a.had_is, days-this k v seen same);
        })

    account-other : r ≢ k → BookEntry p L (v ∷ seen) (account_at (booked book v) k) k
    account-other other =
        let a = account k low high in
        let fee = moving_cost p (string_at p (released L k).place) in
        rw (booked-other other)
        (record {
          opens_is = a.opens_is;
          due_is = a.due_is;
          cost_is = a.cost_is;
          asked_is = a.asked_is ∙ ap (λ m. (released L k).need.0 + fee * (m - 1)) (sym (visits-other k v seen other));
          had_is = a.had_is ∙ sym (days-other k v seen other);
        })

  module _ (t : kept_by book v ≡ true) where
    abbrev now-kept : KeptBy book v
    now-kept = kept_by-is book v t

    abbrev now-lawful : LawfulVisit p L v × All (Clear v) seen
    now-lawful = kept-lawful now-kept

    books-next : Books p L (v ∷ seen) (booked book v)
    unfolding booked
    books-next =
        record {
          size = simp length-set g.books.size;
          account = λ k low high.
              elim (ℕ_discrete v.release k) [
                | yes same ↦ account-this k low high now-kept same
                | no other ↦ account-other k low high now-kept other
              ];
        }

    days-next : (k : ℕ) → days_for k (v ∷ seen) ≤ end_of_visit v
    days-next k =
        elim (ℕ_discrete v.release k) [
          | yes same ↦ omega (arith, days-this k v seen same, g.days-le k, now-kept.after)
          | no other ↦ omega (arith, days-other k v seen other, g.days-le k, now-kept.after)
        ]

    visits-next : (k : ℕ) → length (visits_for k (v ∷ seen)) ≤ days_for k (v ∷ seen)
    visits-next k =
        elim (ℕ_discrete v.release k) [
          | yes same ↦ omega (arith, days-this k v seen same, visits-this k v seen same, g.visits-le k, now-kept.long)
          | no other ↦ omega (arith, days-other k v seen other, visits-other k v seen other, g.visits-le k)
        ]

    days-all-next : (k : ℕ) → days_for k (v ∷ seen) + days_for k rest ≡ days_for k vs
    days-all-next k =
        elim (ℕ_discrete v.release k) [
          | yes same ↦ omega (arith, days-this k v seen same, days-this k v rest same, g.days-all k)
          | no other ↦ omega (arith, days-other k v seen other, days-other k v rest other, g.days-all k)
        ]

    visits-all-next : (k : ℕ) → length (visits_for k (v ∷ seen)) + length (visits_for k rest) ≡ length (visits_for k vs)
    visits-all-next k =
        elim (ℕ_discrete v.release k) [
          | yes same ↦ omega (arith, visits-this k v seen same, visits-this k v rest same, g.visits-all k)
          | no other ↦ omega (arith, visits-other k v seen other, visits-other k v rest other, g.visits-all k)
        ]

    breaks-next : breaking_from p L (v ∷ seen) (suc (suc i)) rest ≡ first_breaking p L vs
    unfolding breaking_from
    breaks-next = rw (sym kept-is ∙ t) at g.breaks

    going_next : Going p rs vs (suc i) rest (v ∷ seen) (booked book v)
    unfolding booked
    going_next =
        record {
          run = g.run;
          lawful = g.lawful;
          count-is = g.count-is;
          last = (
            refl,
            refl,
            all_map (Clear v) (λ o. end_of_visit o < end_of_visit v) (λ o c. omega (arith, c.0, now-kept.long)) seen now-lawful.1,
          );
          early = omega (
            arith,
            now-lawful.0.due,
            deadline-small p rs g.lawful v.release now-kept.low now-lawful.0.high,
          );
          days-le = days-next;
          visits-le = visits-next;
          books = books-next;
          breaks = breaks-next;
          days-all = days-all-next;
          visits-all = visits-all-next;
        }

-- ---- The laws

module _ (p : Plan) (rs : Releases) (vs : List Visit) where
  -- before the first record
  pub far-start : (book : Book) → length rs.list ≡ 1000 → BeforeFirst p rs book → Far p rs vs 0 vs book
  far-start book thousand o =
      let lawful = run_check-lawful p rs o.run in
      let room : rs.count ≤ length rs.list = omega (arith, lawful.few) in
      far []
      (record {
        run = o.run;
        lawful = lawful;
        count-is = o.count ∙ sym (length-take-le rs.count rs.list room);
        last = (o.end, o.release);
        early = omega (arith, o.end);
        days-le = λ k. omega (arith, none_seen k);
        visits-le = λ k. omega (arith, none-visits k);
        books = books-first p rs book room o;
        breaks = first-of-all;
        days-all = λ k. omega (arith, none_seen k);
        visits-all = λ k. omega (arith, none-visits k);
      })
    where
      none-visits : (k : ℕ) → length (visits_for k []) ≡ 0
      none-visits k = unfold keep in refl

      none_seen : (k : ℕ) → days_for k [] ≡ 0
      none_seen k = no-days (visits_for k []) (none-visits k)

      first-of-all : breaking_from p (releases_of rs) [] 1 vs ≡ first_breaking p (releases_of rs) vs
      first-of-all = unfold first_breaking in refl

  -- what is refused before the first record
  pub far-refused : (e : Refusal) → run_check p rs ≡ Err e → visits_check p rs vs ≡ Err e
  unfolding visits_check
  far-refused e h = rw h

  module _ (i : ℕ) (v : Visit) (rest : List Visit) (book : Book) where
    -- one record more
    pub far-next : Far p rs vs i (v ∷ rest) book → Reached p rs vs (i + 1) rest (kept_check book v (i + 1)) (book_after book v)
    unfolding kept_check book_after
    far-next (far seen g) =
        by_bool (kept_by book v)
        (λ t. rw (t, add-one i) (going refl (far (v ∷ seen) (going_next p rs vs i v rest seen book g t))))
        (λ e.
        rw e
        (ended (record { fault = VisitUnlawful; at = i + 1 }) refl
        (broken-said p rs vs i v rest seen book g e ∙ ap (Refused VisitUnlawful) (sym (add-one i)))))

    pub far-kept : Far p rs vs i (v ∷ rest) book → Lawful ≡ kept_check book v (i + 1) → Far p rs vs (i + 1) rest (book_after book v)
    far-kept f said =
        elim (far-next f) [
          | going is g ↦ g
          | ended e is all ↦ absurd (never e (said ∙ is))
        ]
      where
        never : (e : Refusal) → Lawful ≡ Err e → ⊥
        never e h = cc

    pub far-broken : (e : Refusal) → Far p rs vs i (v ∷ rest) book → Err e ≡ kept_check book v (i + 1) → Err e ≡ visits_check p rs vs
    far-broken e f said =
        elim (far-next f) [
          | going is g ↦ absurd (never e (said ∙ is))
          | ended d is all ↦ said ∙ is ∙ sym all
        ]
      where
        never : (e : Refusal) → ◌≡◌ {A = Checked} (Err e) Lawful → ⊥
        never e h = cc

    -- the same where a rule may be broken already
    pub reached-next : (broken : Checked) → is_ok broken ≡ true → Reached p rs vs i (v ∷ rest) broken book
        → Reached p rs vs (i + 1) rest (kept_check book v (i + 1)) (book_after book v)
    reached-next broken ok (going is g) = far-next g
    reached-next broken ok (ended e is said) = absurd (true-not-false (sym ok ∙ ap is_ok is))

    pub reached-broken : (broken : Checked) → is_ok broken ≡ false → Reached p rs vs i (v ∷ rest) broken book
        → Reached p rs vs (i + 1) rest broken book
    reached-broken broken ill (going is g) = absurd (true-not-false (sym (ap is_ok is) ∙ ill))
    reached-broken broken ill (ended e is said) = ended e is said

    -- the whole: what was refused stays, and so does the book
    pub reached-after : (broken : Checked) → Reached p rs vs i (v ∷ rest) broken book
        → Reached p rs vs (i + 1) rest (then broken (kept_check book v (i + 1))) (cond (is_ok broken) (book_after book v) book)
    reached-after broken (going is g) = rw is (far-next g)
    reached-after broken (ended e is said) = rw is (ended e refl said)

  -- at the end
  pub far-end : (i : ℕ) (book : Book) → Far p rs vs i [] book → sums_by book ≡ visits_check p rs vs
  unfolding sums_by visits_check visit_list_check breaking_from first_short
  far-end i book (far seen g) =
      let none : first_breaking p (releases_of rs) vs ≡ 0 = sym g.breaks in
      let accounts = take book.count book.accounts in
      let many : length accounts ≡ length (releases_of rs) =
      length-take-le book.count book.accounts (omega (arith, few, g.count-is, g.books.size))
      ∙ g.count-is in
      rw (g.run, none) (short-first (λ m. not (adds_up p (releases_of rs) vs m)) (length (releases_of rs)) accounts many agree)
    where
      few : length (releases_of rs) ≤ 1000
      few = omega (arith, g.lawful.few, length-take rs.count rs.list)

      agree : (j : ℕ) → j < length (releases_of rs)
          → short_of (get_or (take book.count book.accounts) j no_account) ≡ not (adds_up p (releases_of rs) vs (suc j))
      agree j h =
          let m = suc j in
          let a = g.books.account m (omega arith) (omega arith) in
          let place : m - 1 ≡ j = omega arith in
          let read : get_or (take book.count book.accounts) j no_account ≡ account_at book m =
          get_or-take book.count book.accounts j no_account (omega (arith, g.count-is))
          ∙ ap (λ i. get_or book.accounts i no_account) (sym place) in
          let none : length (visits_for m []) ≡ 0 = unfold keep in refl in
          let days : days_for m seen ≡ days_for m vs = omega (arith, g.days-all m, no-days (visits_for m []) none) in
          let visits : length (visits_for m seen) ≡ length (visits_for m vs) = omega (arith, g.visits-all m) in
          let fee = moving_cost p (string_at p (released (releases_of rs) m).place) in
          ap short_of read
          ∙ ap (λ x. not (eqb x (account_at book m).asked.0)) (a.had_is ∙ days)
          ∙ ap (λ x. not (eqb (days_for m vs) x))
          (a.asked_is ∙ ap (λ n. (released (releases_of rs) m).need.0 + fee * (n - 1)) visits)

  pub reached-fit : (i : ℕ) (rest : List Visit) (broken : Checked) (book : Book) → is_ok broken ≡ true → Reached p rs vs i rest broken book
      → Fit book
  reached-fit i rest broken book ok (going is g) = far-fit p rs vs i rest book g
  reached-fit i rest broken book ok (ended e is said) = absurd (true-not-false (sym ok ∙ ap is_ok is))

  pub reached-lawful : (i : ℕ) (broken : Checked) (book : Book) → broken ≡ Lawful → Reached p rs vs i [] broken book
      → sums_by book ≡ visits_check p rs vs
  reached-lawful i broken book none (going is g) = far-end i book g
  reached-lawful i broken book none (ended e is said) =
      let both : ◌≡◌ {A = Checked} Lawful (Err e) = sym none ∙ is in
      absurd (cc)

  pub reached-refused : (i : ℕ) (rest : List Visit) (broken : Checked) (book : Book) (e : Refusal) → broken ≡ Err e
      → Reached p rs vs i rest broken book → Err e ≡ visits_check p rs vs
  reached-refused i rest broken book e some (going is g) =
      let both : ◌≡◌ {A = Checked} Lawful (Err e) = sym is ∙ some in
      absurd (cc)
  reached-refused i rest broken book e some (ended d is said) = sym some ∙ is ∙ sym said

  -- the whole: what was refused, or what the sums say
  pub reached-end : (i : ℕ) (broken : Checked) (book : Book) → Reached p rs vs i [] broken book
      → then broken (sums_by book) ≡ visits_check p rs vs
  reached-end i broken book (going is g) = rw is (far-end i book g)
  reached-end i broken book (ended e is said) = rw is (sym said)

-- ---- Record by record

module _ (p : Plan) (rs : Releases) (vs : List Visit) (i : ℕ) (book : Book) (g : Far p rs vs i (drop i vs) book) where
  pub far-whole : length vs ≤ i → sums_by book ≡ visits_check p rs vs
  far-whole over =
      let none : drop i vs ≡ [] = drop_of_length-le vs {i = i} over in
      far-end p rs vs i book (subst (λ left. Far p rs vs i left book) none g)

  module _ (inside : i < length vs) where
    abbrev this : Visit
    this = get_or vs i no_visit

    here-now : Far p rs vs i (this ∷ drop (i + 1) vs) book
    here-now =
        let split : drop i vs ≡ this ∷ drop (i + 1) vs = drop-cons vs i no_visit inside ∙ ap (λ k. this ∷ drop k vs) (sym (add-one i)) in
        subst (λ left. Far p rs vs i left book) split g

    pub far-more : Lawful ≡ kept_check book this (i + 1) → Far p rs vs (i + 1) (drop (i + 1) vs) (book_after book this)
    far-more said = far-kept p rs vs i this (drop (i + 1) vs) book here-now said

    pub far-stop : (e : Refusal) → Err e ≡ kept_check book this (i + 1) → Err e ≡ visits_check p rs vs
    far-stop e said = far-broken p rs vs i this (drop (i + 1) vs) book e here-now said
