-- The verdict and the search do not look at N.
use Rattle.base.proofs.Prelude.{ℕ, ◌≡◌, refl, ap, ◌∙◌, fun_ext, cond, List, [], ◌∷◌, Option, none, some, length}
use Rattle.base.specs.Count.{first_of}
use Rattle.rules.specs.{declared.Plan.Plan, declared.Verdict.TheVariants.Overload, Plan.{multiple_of, leeway_min, d_max, with_run}, Demand.{moving_cost, hold_of, blocker_hold, block_limit, need, demand, load, overloaded}, Verdict.{Pair, pairs_at, all_pairs, broken, first_broken, compared, judged, verdict_over, verdict_of, is_pass}, Search.{with_set, set_passes, ordered, assigned, search_of}}

module _ (p : Plan) (n : ℕ) where
  judged-run : (o : Option Pair) (k : ℕ) → judged (with_run p n) o k ≡ judged p o k
  unfolding judged demand need hold_of moving_cost
  judged-run none k = refl
  judged-run (some q) k = refl

  compared-run : (qs : List Pair) → compared (with_run p n) qs ≡ compared p qs
  unfolding compared broken demand need hold_of moving_cost
  compared-run [] = refl
  compared-run (q ∷ qs) = rw (compared-run qs)

  pub verdict-run : verdict_of (with_run p n) ≡ verdict_of p
  unfolding
      verdict_over overloaded load multiple_of all_pairs pairs_at block_limit leeway_min d_max blocker_hold broken demand need hold_of
      moving_cost
  verdict-run =
      let qs = all_pairs p in
      ap (λ v. cond (overloaded p) Overload v)
      (judged-run (first_broken p qs) (length (compared (with_run p n) qs))
      ∙ ap (λ cs. judged p (first_broken p qs) (length cs)) (compared-run qs))

pub search-run : (p : Plan) (n : ℕ) → search_of (with_run p n) ≡ search_of p
unfolding search_of set_passes with_set
search-run p n =
    ap (λ f. assigned (first_of f (ordered p.n))) (fun_ext (λ m. ap is_pass (verdict-run (with_set p m) n)))
