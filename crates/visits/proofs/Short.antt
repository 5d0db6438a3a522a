-- The first account that has not had what is asked for: where it stands, from 0, and the number of its release, from 1.
use Rattle.base.proofs.Prelude.{ℕ, zero, suc, ◌+◌, ◌<◌, ◌≡◌, sym, ap, ◌∙◌, Bool, true, false, List, [], ◌∷◌, arith, leb, le-leb, lt-leb, length, get_or}
use Rattle.std.specs.Prelude.{position}
use Rattle.std.specs.List.{position_from}
use Rattle.std.proofs.lemmas.Iterator.Adapters.{position_from-zero}
use Rattle.base.specs.Count.{least_from}
use Rattle.base.proofs.{Lists.by_bool}
use Rattle.faults.specs.Checks.{refuse_if}
use Rattle.faults.specs.declared.Fault.TheVariants.{SumDiffers}
use Rattle.visits.specs.{declared.book.Account.Account, inner.Book.{no_account, short_of, short_check}}

short-from : (f : ℕ → Bool) (i n m : ℕ) (accounts : List Account) → length accounts ≡ n → i + n ≡ m
    → ((j : ℕ) → j < n → short_of (get_or accounts j no_account) ≡ f (suc i + j))
    → short_check (position_from short_of i accounts) ≡ refuse_if (leb (least_from f (suc i) n) m) SumDiffers (least_from f (suc i) n)
unfolding least_from
short-from f i zero m [] size all agree =
    let over : leb (suc i) m ≡ false = lt-leb (suc i) m (omega arith) in
    rw over
short-from f i zero m (a ∷ accounts) size all agree = absurd (omega arith)
short-from f i (suc n) m [] size all agree = absurd (omega arith)
short-from f i (suc n) m (a ∷ accounts) size all agree =
    let here : suc i + 0 ≡ suc i = omega arith in
    let this : f (suc i) ≡ short_of a = ap f (sym here) ∙ sym (agree 0 (omega arith)) in
    let next : i + 1 ≡ suc i = omega arith in
    let within : leb (suc i) m ≡ true = le-leb (suc i) m (omega arith) in
    by_bool (short_of a)
    (λ t. rw (this, t, within, next))
    (λ e.
    rw (this, e, next)
    (short-from f (suc i) n m accounts (omega arith) (omega arith)
    (λ j h.
    let more : suc i + suc j ≡ suc (suc i) + j = omega arith in
    agree (suc j) (omega arith) ∙ ap f more)))

pub short-first : (f : ℕ → Bool) (n : ℕ) (accounts : List Account) → length accounts ≡ n
    → ((j : ℕ) → j < n → short_of (get_or accounts j no_account) ≡ f (suc j))
    → short_check (position short_of accounts) ≡ refuse_if (leb (least_from f 1 n) n) SumDiffers (least_from f 1 n)
short-first f n accounts size agree = rw (position_from-zero short_of accounts)
    (short-from f 0 n n accounts size (omega arith)
    (λ j h.
    let one : suc j ≡ 1 + j = omega arith in
    agree j h ∙ ap f one))
