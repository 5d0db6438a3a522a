-- A list whose elements are changed one after the other, in place: those done, and those left as they will be, are the whole. What will
-- stand in place of xs from place i on is `rest i xs`.
--     Changing n rest now all i     the first i of the n of `now` are done, and the whole will be `all`
use Rattle.base.proofs.Prelude.{ℕ, suc, ◌+◌, ◌≤◌, ◌<◌, ◌≡◌, sym, ap, ◌∙◌, List, [], ◌∷◌, ◌++◌, append_assoc, append-nil, arith, add-one, length, take, drop, get_or, set, drop_of_length-le, drop-cons, take_all, length-set}
use Rattle.std.proofs.lemmas.List.{drop-set-lt}
use lib.Seq.{take-suc-set}

pub record Changing {A : Type 0} (n : ℕ) (rest : ℕ → List A → List A) (now all : List A) (i : ℕ) : Type 0 where
  pub long : length now ≡ n
  pub whole : take i now ++ rest i (drop i now) ≡ all

module _ {A : Type 0} {n : ℕ} {rest : ℕ → List A → List A} {now all : List A} {i : ℕ} (c : Changing n rest now all i) where
  -- one more is done
  pub changed-next : (v z : A) → i < n → ((xs : List A) → rest i (get_or now i z ∷ xs) ≡ v ∷ rest (i + 1) xs)
      → Changing n rest (set now i v) all (i + 1)
  changed-next v z within next =
      let inside : i < length now = omega (arith, c.long) in
      let past : i < i + 1 = omega arith in
      let left : drop i now ≡ get_or now i z ∷ drop (i + 1) now = drop-cons now i z inside ∙ rw (add-one i) in
      record {
        long = length-set now i v ∙ c.long;
        whole = ap (λ k. take k (set now i v) ++ rest (i + 1) (drop (i + 1) (set now i v))) (add-one i)
            ∙ ap (λ xs. xs ++ rest (i + 1) (drop (i + 1) (set now i v))) (take-suc-set now i v inside)
            ∙ ap (λ xs. (take i now ++ v ∷ []) ++ rest (i + 1) xs) (drop-set-lt (i + 1) now i v past)
            ∙ append_assoc (take i now) (v ∷ []) (rest (i + 1) (drop (i + 1) now))
            ∙ ap (λ xs. take i now ++ xs) (sym (ap (rest i) left ∙ next (drop (i + 1) now)))
            ∙ c.whole;
      }

  -- all are done
  pub changed_all : n ≤ i → rest i [] ≡ [] → now ≡ all
  changed_all past none =
      let h : length now ≤ i = omega (arith, c.long) in
      sym (ap (λ xs. take i now ++ xs) (ap (rest i) (drop_of_length-le now h) ∙ none) ∙ append-nil (take i now) ∙ take_all i now h)
      ∙ c.whole
