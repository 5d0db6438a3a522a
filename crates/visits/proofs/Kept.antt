-- Laws of the check of one record by the book: every rule that fails denies it, and all that hold are it.
--     KeptBy book v         what the check asks
use Rattle.base.proofs.Prelude.{◌+◌, ◌≤◌, ◌<◌, ◌^◌, arith, ◌≡◌, true, false, not, ◌&&◌, leb-true, le-leb, not-true, leb}
use Rattle.base.proofs.Lists.{and_left, and_right}
use Rattle.faults.specs.Checks.{in_bounds}
use Rattle.faults.proofs.Checks.{in_bounds-low, in_bounds-high, in_bounds-yes}
use Rattle.visits.specs.{declared.Visit.Visit, declared.book.Book.Book, Visits.end_of_visit, inner.Book.{account_at, meets_last, kept_by, Fit}}

pub record KeptBy (book : Book) (v : Visit) : Type 0 where
  pub low : 1 ≤ v.release
  pub high : v.release ≤ book.count
  pub long : 1 ≤ v.length.0
  pub after : book.end.0 ≤ v.first.0
  pub apart : meets_last book v ≡ false
  pub since : (account_at book v.release).opens.0 ≤ v.first.0
  pub until : end_of_visit v ≤ (account_at book v.release).due.0

module _ (book : Book) (v : Visit) where
  pub kept_by-is : kept_by book v ≡ true → KeptBy book v
  unfolding kept_by
  kept_by-is h =
      let N = in_bounds 1 v.release book.count in
      let L = leb 1 v.length.0 in
      let E = leb book.end.0 v.first.0 in
      let M = not (meets_last book v) in
      let O = leb (account_at book v.release).opens.0 v.first.0 in
      let D = leb (end_of_visit v) (account_at book v.release).due.0 in
      let nlemo = and_left (N && L && E && M && O) D h in
      let nlem = and_left (N && L && E && M) O nlemo in
      let nle = and_left (N && L && E) M nlem in
      let nl = and_left (N && L) E nle in
      let named = and_left N L nl in
      record {
        low = in_bounds-low 1 v.release book.count named;
        high = in_bounds-high 1 v.release book.count named;
        long = leb-true _ _ (and_right N L nl);
        after = leb-true _ _ (and_right (N && L) E nle);
        apart = not-true _ (and_right (N && L && E) M nlem);
        since = leb-true _ _ (and_right (N && L && E && M) O nlemo);
        until = leb-true _ _ (and_right (N && L && E && M && O) D h);
      }

  pub kept_by-yes : KeptBy book v → kept_by book v ≡ true
  unfolding kept_by
  kept_by-yes k =
      rw (
        in_bounds-yes 1 v.release book.count k.low k.high,
        le-leb 1 v.length.0 k.long,
        le-leb book.end.0 v.first.0 k.after,
        k.apart,
        le-leb (account_at book v.release).opens.0 v.first.0 k.since,
        le-leb (end_of_visit v) (account_at book v.release).due.0 k.until,
      )

-- a visit that is kept has room in the book: its release has had no more days than lie before the end of the last visit, and it ends by its
-- deadline
pub record RoomFor (book : Book) (v : Visit) : Type 0 where
  pub named : (1 ≤ v.release) × (v.release ≤ 1000)
  pub ends : end_of_visit v < 2 ^ 32
  pub had : (account_at book v.release).had.0 + v.length.0 < 2 ^ 32
  pub asked : (account_at book v.release).asked.0 + (account_at book v.release).cost.0 < 2 ^ 32

pub kept-fits : (book : Book) (v : Visit) → Fit book → kept_by book v ≡ true → RoomFor book v
kept-fits book v fit kept =
    let k = kept_by-is book v kept in
    let ends : end_of_visit v < 2 ^ 32 = omega (arith, k.until, fit.due_room v.release k.low k.high) in
    record {
      named = (k.low, omega (arith, k.high, fit.few));
      ends = ends;
      had = omega (arith, ends, k.after, fit.had_room v.release k.low k.high);
      asked = fit.asked_room v.release k.low k.high;
    }
