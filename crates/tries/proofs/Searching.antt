-- A search place by place: what it finds in the places left is what it finds in all.
--     Left f row n k        of what `row` has for n places, the first that passes f is among what it has from place k on
use Rattle.base.proofs.Prelude.{ℕ, ◌+◌, ◌≤◌, ◌<◌, ◌≡◌, refl, sym, ap, ◌∙◌, subst, Bool, true, false, not, List, [], ◌∷◌, ◌++◌, map, none, some, arith}
use mathlib.Core.List.{flat_map}
use Rattle.std.specs.Prelude.{Some, None, Option, is_some, MatchOption}
use Rattle.std.specs.Bool.{then_some}
use Rattle.base.proofs.Lists.{true-not-false}
use Rattle.std.proofs.Math.Option as math
use Rattle.base.specs.Count.{up_from, first_of}
use Rattle.base.proofs.FirstOf.{first_of-end, first_of-here, first_of-later, first_of-front, first_of-rest}
use Rattle.rules.specs.{declared.Plan.Plan, Plan.{strings_of, string_at, no_string}}
use Rattle.verdict.specs.inner.Asked.{Ready}
use Rattle.verdict.proofs.StringSums.{strings-count}
use Rattle.tries.specs.{Tries.{Break, Try, break_at, blocked_breaks, is_broken, is_whole}, declared.search.Tried.Tried, declared.breaks.FirstBreak.FirstBreak, inner.Openings.{try_of, Small, Finds, Points}}
use Rattle.tries.proofs.Places.{from, from-all, from_next, from-end}

-- one to each place
pub mapped : {A : Type 0} (try : ℕ → A) (ks : List ℕ) → map try ks ≡ flat_map (λ k. try k ∷ []) ks
unfolding flat_map
mapped try [] = refl
mapped try (k ∷ ks) = ap (λ xs. try k ∷ xs) (mapped try ks)

pub record Left {A : Type 0} (f : A → Bool) (row : ℕ → List A) (n k : ℕ) : Type 0 where
  pub same : first_of f (flat_map row (from k n)) ≡ first_of f (flat_map row (up_from 1 n))

module _ {A : Type 0} {f : A → Bool} {row : ℕ → List A} {n : ℕ} where
  pub left_start : Left f row n 1
  left_start = record { same = ap (λ ks. first_of f (flat_map row ks)) (from-all n) }

  module _ {k : ℕ} (left : Left f row n k) where
    into-row : k ≤ n → first_of f (row k ++ flat_map row (from (k + 1) n)) ≡ first_of f (flat_map row (up_from 1 n))
    unfolding flat_map
    into-row h = sym (ap (λ ks. first_of f (flat_map row ks)) (from_next k n (omega arith))) ∙ left.same

    pub tries-left-next : k ≤ n → first_of f (row k) ≡ none → Left f row n (k + 1)
    tries-left-next h e = record { same = sym (first_of-rest f (row k) (flat_map row (from (k + 1) n)) e) ∙ into-row h }

    pub left_found : k ≤ n → (x : A) → first_of f (row k) ≡ some x → first_of f (flat_map row (up_from 1 n)) ≡ some x
    left_found h x is = sym (into-row h) ∙ first_of-front f (row k) (flat_map row (from (k + 1) n)) x is

    pub left-none : n < k → first_of f (flat_map row (up_from 1 n)) ≡ none
    unfolding flat_map
    left-none h = sym left.same ∙ ap (λ ks. first_of f (flat_map row ks)) (from-end k n (omega arith)) ∙ first_of-end f

  -- the last place is as the others
  pub left-last : {k : ℕ} → Left f row n k → k ≤ n → n ≤ k → first_of f (row k) ≡ none → first_of f (flat_map row (up_from 1 n)) ≡ none
  left-last left h last e = left-none (tries-left-next left h e) (omega arith)

-- ---- The search for a try

pub finds-as : (t : Option Tried) (a b : math.Option Try) → a ≡ b → Finds t a → Finds t b
finds-as t a b e h = subst (Finds t) e h

pub finds_here : {f : Try → Bool} {row : ℕ → List Try} {n k : ℕ} → Left f row n k → k ≤ n → (t : Tried)
    → Finds (Some t) (first_of f (row k))
    → Finds (Some t) (first_of f (flat_map row (up_from 1 n)))
finds_here left h t found = (found.0, found.1, left_found left h _ found.2)

-- ---- The search for a break

pub blocked-flat : (p : Plan) → Ready p → (l b : ℕ)
    → first_of (is_broken p) (flat_map (λ q. break_at l b q ∷ []) (up_from 1 p.n)) ≡ first_of (is_broken p) (blocked_breaks p l b)
blocked-flat p ready l b =
    ap (first_of (is_broken p)) (sym (mapped (break_at l b) (up_from 1 p.n)))
    ∙ ap (λ n. first_of (is_broken p) (map (break_at l b) (up_from 1 n))) (sym (strings-count p ready))

pub points-as : (t : Option FirstBreak) (a b : math.Option Break) → a ≡ b → Points t a → Points t b
points-as t a b e h = subst (Points t) e h

pub points_here : {f : Break → Bool} {row : ℕ → List Break} {n k : ℕ} → Left f row n k → k ≤ n → (t : FirstBreak)
    → Points (Some t) (first_of f (row k)) → Points (Some t) (first_of f (flat_map row (up_from 1 n)))
points_here left h t found = (found.0, left_found left h _ found.1)

pub whole_points : (t : Option FirstBreak) (y : math.Option Break) (b : Bool) → Points t y → is_some t ≡ not b → b ≡ is_whole y
whole_points None y true points said = rw points
whole_points None y false points said = absurd (true-not-false (sym said))
whole_points (Some f) y true points said = absurd (true-not-false said)
whole_points (Some f) y false points said = rw points.1

-- ---- One try, and one search after another

pub finds_tested : (f : Try → Bool) (b : Bool) (t : Tried) → Small t.opening → t.l ≤ 101000 → b ≡ f (try_of t.opening t.l)
    → Finds (then_some b t) (first_of f (try_of t.opening t.l ∷ []))
finds_tested f true t small short e = (small, short, first_of-here f (try_of t.opening t.l) [] (sym e))
finds_tested f false t small short e = first_of-later f (try_of t.opening t.l) [] (sym e) ∙ first_of-end f

pub finds_or : (f : Try → Bool) (xs ys : List Try) (t r : Option Tried) → Finds t (first_of f xs)
    → MatchOption t (Finds r (first_of f ys)) (λ x. r ≡ Some x) → Finds r (first_of f (xs ++ ys))
finds_or f xs ys None r e h = finds-as r _ _ (sym (first_of-rest f xs ys e)) h
finds_or f xs ys (Some t) r found h =
    subst (λ o. Finds o (first_of f (xs ++ ys))) (sym h) (found.0, found.1, first_of-front f xs ys _ found.2)
