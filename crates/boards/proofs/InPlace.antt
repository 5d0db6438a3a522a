-- Texts put into a page from a place on, one behind the other.
use Rattle.base.proofs.Prelude.{ℕ, ◌+◌, ◌-◌, ◌≤◌, ◌≡◌, sym, ap, ◌∙◌, List, [], ◌++◌, append_assoc, arith, length, take, drop, length-append, length-drop, length-take-le, take_at, drop_at, drop-drop, take-append-drop, put_mid}
use Rattle.base.specs.Count.{put_at}

module _ (at : ℕ) (a xs : List ℕ) (room : at + length a ≤ length xs) where
  abbrev held : List ℕ
  held = take at xs ++ a

  abbrev behind : List ℕ
  behind = drop (at + length a) xs

  held-length : length held ≡ at + length a
  held-length = length-append (take at xs) a ∙ ap (λ n. n + length a) (length-take-le at xs (omega arith))

  split : put_at at a xs ≡ held ++ behind
  split = sym (append_assoc (take at xs) a behind)

  pub put_at-length : length (put_at at a xs) ≡ length xs
  put_at-length =
      let whole = ap length split ∙ length-append held behind in
      omega (arith, held-length, length-drop (at + length a) xs)

  -- what is put right behind it
  pub put_at-next : (b : List ℕ) → at + length a + length b ≤ length xs → put_at (at + length a) b (put_at at a xs) ≡ put_at at (a ++ b) xs
  put_at-next b more =
      let size : at + length (a ++ b) ≡ at + length a + length b = omega (arith, length-append a b) in
      let front : take (at + length a) (put_at at a xs) ≡ held =
      ap (take (at + length a)) split ∙ take_at held behind (at + length a) held-length in
      let back : drop (at + length a + length b) (put_at at a xs) ≡ drop (at + length a + length b) xs =
      sym (drop-drop (length b) (at + length a) (put_at at a xs))
      ∙ ap (λ l. drop (length b) l) (ap (drop (at + length a)) split ∙ drop_at held behind (at + length a) held-length)
      ∙ drop-drop (length b) (at + length a) xs in
      rw (front, back, size)
      (append_assoc (take at xs) a (b ++ drop (at + length a + length b) xs)
      ∙ ap (λ l. take at xs ++ l) (sym (append_assoc a b (drop (at + length a + length b) xs))))

pub put_at-none : (at : ℕ) (xs : List ℕ) → put_at at [] xs ≡ xs
put_at-none at xs =
    let none : at + 0 ≡ at = omega arith in
    rw none (take-append-drop at xs)

-- a text that was copied into its part of a page
pub copied-in : (at : ℕ) (text page : List ℕ) → put_mid at (at + length text - at) page text ≡ put_at at text page
copied-in at text page =
    let size : at + length text - at ≡ length text = omega arith in
    rw (size, drop-drop (length text) at page)
