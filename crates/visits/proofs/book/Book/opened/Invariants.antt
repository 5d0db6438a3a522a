-- The accounts so far are those of the releases.
use Rattle.std.proofs.Common.{◌≡◌, ℕ, ◌<◌, length, get_or}
use Rattle.rules.specs.Release.{releases_of, no_release}
use Rattle.visits.specs.inner.Book.{no_account, account_of}
use Rattle.visits.proofs.book.Book.opened.Given as goal

abbrev pub invariant-loop-i : goal.invariant-loop-i
invariant-loop-i l = record {
  listed : l.r-items ≡ releases_of l.fn.rs;
  size : length l.accounts ≡ 1000;
  first : (j : ℕ) → j < l.i → get_or l.accounts j no_account ≡ account_of l.fn.p (get_or l.fn.rs.list j no_release);
}
