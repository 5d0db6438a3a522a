-- The code's list as it is filled.
--     Packing all left list count     the first `count` places of the list hold what comes before `left` in `all`; there is nothing behind
use Rattle.base.proofs.Prelude.{ℕ, ◌+◌, ◌≤◌, ◌<◌, min, ◌≡◌, refl, sym, ap, ◌∙◌, List, [], ◌∷◌, ◌++◌, append_assoc, append-nil, arith, length, take, set, replicate, length-append, take_all, take_at}
use Rattle.std.specs.Prelude.{Option, Some, None, option_to_list}
use Rattle.base.specs.Count.{filled}
use Rattle.base.proofs.Filling.{filled-set}
use Rattle.rules.specs.{declared.Release.Release, declared.Releases.Releases, Release.no_release}
use Rattle.tries.specs.{Tries.packed, declared.openings.Opening.Opening, inner.Openings.head_of}

pub record Packing (all left list : List Release) (count : ℕ) : Type 0 where
  pub done : List Release
  pub whole : done ++ left ≡ all
  pub many : length done ≡ count
  pub few : count ≤ 1000
  pub stored : list ≡ filled 1000 no_release done

abbrev listing : ℕ → List Release → Releases
listing count list = record { count = count; list = list }

-- what is counted and what is stored is the code's list
same-list : (count k : ℕ) (list xs : List Release) → count ≡ k → list ≡ xs → listing count list ≡ listing k xs
same-list count k list xs e f = ap (λ n. listing n list) e ∙ ap (listing k) f

module _ (all left list : List Release) (count : ℕ) (s : Packing all left list count) where
  -- the same is left, said otherwise
  pub packing-as : (other : List Release) → left ≡ other → Packing all other list count
  packing-as other e =
      record { done = s.done; whole = ap (λ xs. s.done ++ xs) (sym e) ∙ s.whole; many = s.many; few = s.few; stored = s.stored }

  pub packing-more : (r : Release) (rest : List Release) → left ≡ r ∷ rest → count < 1000 → Packing all rest (set list count r) (count + 1)
  packing-more r rest next room =
      let many = s.many in
      record {
        done = s.done ++ (r ∷ []);
        whole = append_assoc s.done (r ∷ []) rest ∙ ap (λ xs. s.done ++ xs) (sym next) ∙ s.whole;
        many = omega (arith, length-append s.done (r ∷ []));
        few = omega arith;
        stored = ap (λ xs. set xs count r) s.stored
            ∙ ap (λ k. set (filled 1000 no_release s.done) k r) (sym many)
            ∙ filled-set 1000 no_release r s.done (omega arith);
      }

  pub packing-end : left ≡ [] → listing count list ≡ packed all
  packing-end none_left =
      let all_done : s.done ≡ all = sym (append-nil s.done) ∙ ap (λ xs. s.done ++ xs) (sym none_left) ∙ s.whole in
      let many = s.many in
      let few = s.few in
      let size : length all ≡ count = ap length (sym all_done) ∙ many in
      let front : take 1000 all ≡ all = take_all 1000 all (omega arith) in
      same-list count (min (length all) 1001) list (filled 1000 no_release (take 1000 all)) (omega arith)
      (s.stored ∙ ap (filled 1000 no_release) (all_done ∙ sym front))

  -- one more is left than the list has room for
  pub packing-full : (r : Release) (rest : List Release) → left ≡ r ∷ rest → 999 < count → listing 1001 list ≡ packed all
  packing-full r rest next full =
      let many = s.many in
      let few = s.few in
      let whole : s.done ++ r ∷ rest ≡ all = ap (λ xs. s.done ++ xs) (sym next) ∙ s.whole in
      let size = ap length (sym whole) ∙ length-append s.done (r ∷ rest) in
      let front : take 1000 all ≡ s.done = ap (take 1000) (sym whole) ∙ take_at s.done (r ∷ rest) 1000 (omega arith) in
      same-list 1001 (min (length all) 1001) list (filled 1000 no_release (take 1000 all)) (omega arith)
      (s.stored ∙ ap (filled 1000 no_release) (sym front))

-- ---- The first releases

pub begun_none : (all : List Release) → Packing all all (replicate 1000 no_release) 0
begun_none all = record { done = []; whole = refl; many = refl; few = omega arith; stored = refl }

-- a list that begins so, and what comes behind it
pub packed-begins : (head left all : List Release) → length head ≤ 1000 → head ++ left ≡ all
    → Packing all left (packed head).list (packed head).count
packed-begins head left all few whole =
    record {
      done = head;
      whole = whole;
      many = omega arith;
      few = omega arith;
      stored = ap (filled 1000 no_release) (take_all 1000 head few);
    }

module _ (o : Opening) where
  pub begun-first : (r : Release) → o.first ≡ Some r
      → Packing (head_of o) (option_to_list o.taker) (set (replicate 1000 no_release) 0 r) 1
  begun-first r is =
      packing-more (head_of o) (head_of o) (replicate 1000 no_release) 0 (begun_none (head_of o)) r (option_to_list o.taker)
      (ap (λ q. option_to_list q ++ option_to_list o.taker) is) (omega arith)

  pub begun-without : o.first ≡ None → Packing (head_of o) (option_to_list o.taker) (replicate 1000 no_release) 0
  begun-without is =
      packing-as (head_of o) (head_of o) (replicate 1000 no_release) 0 (begun_none (head_of o)) (option_to_list o.taker)
      (ap (λ q. option_to_list q ++ option_to_list o.taker) is)

  pub head-few : length (head_of o) ≤ 2
  head-few = go o.first o.taker
    where
      go : (a b : Option Release) → length (option_to_list a ++ option_to_list b) ≤ 2
      go None None = omega arith
      go None (Some s) = omega arith
      go (Some r) None = omega arith
      go (Some r) (Some s) = omega arith
