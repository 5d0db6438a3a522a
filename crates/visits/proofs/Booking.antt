-- Laws of the book: as it is opened it says what no visits leave, and a lawful release may be opened in it.
use Rattle.base.proofs.Prelude.{ℕ, ◌-◌, ◌≤◌, ◌<◌, ◌*◌, ◌≡◌, refl, sym, ap, ◌∙◌, List, [], arith, length, length-take-le, get_or, get_or-take, mul-zero}
use Rattle.base.proofs.Lists.{all-at}
use Rattle.base.specs.Count.{sum_of, keep}
use Rattle.rules.specs.{declared.Plan.Plan, declared.Release.Release, declared.Releases.Releases, Plan.{strings_of, string_at, no_string}, Demand.moving_cost, Release.{releases_of, released, no_release}}
use Rattle.laws.proofs.{Lawful.{LawfulString, LawfulPlan}, ReleaseList.{LawfulRelease}}
use Rattle.visits.specs.{Visits.{days_for, days_asked}, declared.book.Account.Account, declared.book.Book.Book, inner.Book.{account_at, account_of, Opens, BookEntry, Books, BeforeFirst}}

asked-first : (p : Plan) (rs : List Release) (k : ℕ) → (released rs k).need.0 ≡ days_asked p rs [] k
unfolding keep
asked-first p rs k =
    let a = moving_cost p (string_at p (released rs k).place) in
    let none : a * (0 - 1) ≡ 0 = mul-zero a in
    omega arith

none-had : (k : ℕ) → 0 ≡ days_for k []
unfolding sum_of keep
none-had k = refl

first-entry : (p : Plan) (rs : List Release) (a : Account) (k : ℕ) → a ≡ account_of p (released rs k) → BookEntry p rs [] a k
unfolding account_of
first-entry p rs a k is =
    rw is (record { opens_is = refl; due_is = refl; cost_is = refl; asked_is = asked-first p rs k; had_is = none-had k })

pub books-first : (p : Plan) (rs : Releases) (book : Book) → rs.count ≤ length rs.list → BeforeFirst p rs book
    → Books p (releases_of rs) [] book
books-first p rs book room start =
    record {
      size = start.size;
      account = λ k low high.
          let within : k - 1 < rs.count = omega (arith, length-take-le rs.count rs.list room) in
          let listed : released (releases_of rs) k ≡ get_or rs.list (k - 1) no_release =
          get_or-take rs.count rs.list (k - 1) no_release within in
          first-entry p (releases_of rs) (account_at book k) k (start.first (k - 1) within ∙ sym (ap (account_of p) listed));
    }

-- ---- A lawful release may be opened in it

pub listed-opens : (p : Plan) (r : Release) → LawfulPlan p → length p.strings ≡ 10 → LawfulRelease p r → Opens p r
listed-opens p r plan ten listed =
    let count = length-take-le p.n p.strings (omega (arith, plan.n_max)) in
    let some : r.place - 1 < length (strings_of p) = omega (arith, listed.place_pos, listed.place_max) in
    let string = all-at LawfulString (strings_of p) no_string plan.each (r.place - 1) some in
    record {
      n_max = plan.n_max;
      low = listed.place_pos;
      high = listed.place_max;
      due_fits = omega (arith, string.t_max, string.d_max, listed.early, plan.run_max);
    }
