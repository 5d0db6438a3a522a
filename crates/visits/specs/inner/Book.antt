-- What the records so far leave to be remembered. The book has an account of each release; beside them stand the end of the last visit and
-- the release that it served, 0 and 0 before the first: a visit that overlaps or touches one before it overlaps or touches the last.
--     account_at book k     the account of the k-th release
--     account_of p r        that of the release r before its first visit; Opens p r: its numbers have room
--     BookEntry p rs seen a k   the account a says of the k-th release what the visits seen leave
--     Books p rs seen book  the book says so of each release of rs
--     BeforeFirst p rs book the run is lawful, and the book is as it stands before the first record
--     Opened p rs r         what comes of opening a book: that, or why the run is refused
--     kept_by book v        v breaks no rule, by the book
--     meets_last book v     v starts on the day on which the last visit ended, and serves its release
--     asked_again sofar more    what a visit asks for, where a release has had so many days: its moving cost, but for the first
--     account_after a n     the account a with a visit of n days
--     booked book v         the book with the visit v
--     kept_check, book_after    what is said of one record more, which has the given number, and the book behind it
--     short book            where the first account stands that has not had what is asked for, from 0
--     sums_by book          15 with that release
--     Fit book              the numbers leave room for one visit more
use Rattle.std.specs.Prelude.{ℕ, ◌+◌, ◌-◌, ◌≤◌, ◌<◌, ◌^◌, ◌≡◌, Bool, not, cond, ◌&&◌, List, leb, eqb, length, get_or, set, take, position, Option, Some, None, Result, Ok, Err}
use Rattle.faults.specs.Checks.{Refused, Lawful, Checked, in_bounds, refuse_if}
use Rattle.faults.specs.declared.Refusal.{Refusal}
use Rattle.days.specs.Days.{day, days}
use Rattle.faults.specs.declared.Fault.TheVariants.{VisitUnlawful, SumDiffers}
use Rattle.rules.specs.declared.Plan.{Plan}
use Rattle.rules.specs.declared.Release.{Release}
use Rattle.rules.specs.declared.Releases.{Releases}
use Rattle.rules.specs.Plan.{string_at}
use Rattle.rules.specs.Demand.{moving_cost}
use Rattle.rules.specs.Release.{released, deadline_of, no_release}
use Rattle.rules.specs.Refusal.{run_check}
use Rattle.visits.specs.declared.Visit.{Visit}
use Rattle.visits.specs.declared.book.Account.{Account}
use Rattle.visits.specs.declared.book.Book.{Book}
use Rattle.visits.specs.Visits.{end_of_visit, days_for, days_asked}

-- ---- The book

abbrev pub no_account : Account
no_account = record { opens = day 0; due = day 0; cost = days 0; asked = days 0; had = days 0 }

abbrev pub account_at : Book → ℕ → Account
account_at book k = get_or book.accounts (k - 1) no_account

pub record Opens (p : Plan) (r : Release) : Type 0 where
  pub n_max : p.n ≤ 10
  pub low : 1 ≤ r.place
  pub high : r.place ≤ p.n
  pub due_fits : deadline_of p r < 2 ^ 32

-- none of its days has been had
unfoldable pub account_of : Plan → Release → Account
account_of p r =
    record {
      opens = r.day;
      due = day (deadline_of p r);
      cost = days (moving_cost p (string_at p r.place));
      asked = r.need;
      had = days 0;
    }

pub record BookEntry (p : Plan) (rs : List Release) (seen : List Visit) (a : Account) (k : ℕ) : Type 0 where
  pub opens_is : a.opens.0 ≡ (released rs k).day.0
  pub due_is : a.due.0 ≡ deadline_of p (released rs k)
  pub cost_is : a.cost.0 ≡ moving_cost p (string_at p (released rs k).place)
  pub asked_is : a.asked.0 ≡ days_asked p rs seen k
  pub had_is : a.had.0 ≡ days_for k seen

pub record Books (p : Plan) (rs : List Release) (seen : List Visit) (book : Book) : Type 0 where
  pub size : length book.accounts ≡ 1000
  pub account : (k : ℕ) → 1 ≤ k → k ≤ length rs → BookEntry p rs seen (account_at book k) k

-- ---- One record

unfoldable pub meets_last : Book → Visit → Bool
meets_last book v = eqb v.release book.release && eqb v.first.0 book.end.0

unfoldable pub kept_by : Book → Visit → Bool
kept_by book v =
    in_bounds 1 v.release book.count
    && leb 1 v.length.0
    && leb book.end.0 v.first.0
    && not (meets_last book v)
    && leb (account_at book v.release).opens.0 v.first.0
    && leb (end_of_visit v) (account_at book v.release).due.0

-- what a visit asks for: nothing for the first, the moving cost for every later one
unfoldable pub asked_again : ℕ → ℕ → ℕ
asked_again sofar more = cond (eqb sofar 0) 0 more

unfoldable pub account_after : Account → ℕ → Account
account_after a n =
    record {
      opens = a.opens;
      due = a.due;
      cost = a.cost;
      asked = days (a.asked.0 + asked_again a.had.0 a.cost.0);
      had = days (a.had.0 + n);
    }

unfoldable pub booked : Book → Visit → Book
booked book v =
    record {
      count = book.count;
      accounts = set book.accounts (v.release - 1) (account_after (account_at book v.release) v.length.0);
      end = day (end_of_visit v);
      release = v.release;
    }

unfoldable pub kept_check : Book → Visit → ℕ → Checked
kept_check book v number = refuse_if (not (kept_by book v)) VisitUnlawful number

unfoldable pub book_after : Book → Visit → Book
book_after book v = cond (kept_by book v) (booked book v) book

-- ---- The end of the list

abbrev pub short_of : Account → Bool
short_of a = not (eqb a.had.0 a.asked.0)

abbrev pub short : Book → Option ℕ
short book = position short_of (take book.count book.accounts)

abbrev pub short_check : Option ℕ → Checked
short_check None = Lawful
short_check (Some i) = Refused SumDiffers (i + 1)

unfoldable pub sums_by : Book → Checked
sums_by book = short_check (short book)

pub record Fit (book : Book) : Type 0 where
  pub few : book.count ≤ 1000
  pub due_room : (k : ℕ) → 1 ≤ k → k ≤ book.count → (account_at book k).due.0 < 2 ^ 32
  pub had_room : (k : ℕ) → 1 ≤ k → k ≤ book.count → (account_at book k).had.0 ≤ book.end.0
  pub asked_room : (k : ℕ) → 1 ≤ k → k ≤ book.count → (account_at book k).asked.0 + (account_at book k).cost.0 < 2 ^ 32

-- ---- Before the first record

pub record BeforeFirst (p : Plan) (rs : Releases) (book : Book) : Type 0 where
  pub run : run_check p rs ≡ Lawful
  pub count : book.count ≡ rs.count
  pub size : length book.accounts ≡ 1000
  pub first : (i : ℕ) → i < rs.count → get_or book.accounts i no_account ≡ account_of p (get_or rs.list i no_release)
  pub end : book.end.0 ≡ 0
  pub release : book.release ≡ 0

abbrev pub Opened : Plan → Releases → Result Book Refusal → Type 0
Opened p rs (Ok book) = BeforeFirst p rs book
Opened p rs (Err e) = run_check p rs ≡ Err e
