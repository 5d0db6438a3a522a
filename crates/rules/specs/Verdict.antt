-- The verdict (document 01, "The verdict").
--     Pair                  an interval and a blocking
--     all_pairs p            the pairs (l, b), in order of l, then b, for l from 1 to Dmax + H − 1
--     broken p q            the demand at the pair q exceeds its interval
--     first_broken p qs      the first of qs that is broken
--     broken_at q            the same as the code says it: nowhere, or the pair
--     compared p qs         qs up to and including the first broken one, all of them where none is
--     verdict_over p qs      the verdict on a lawful plan by the pairs qs: overload first, then the first broken one
--     verdict_of p           the verdict on a lawful plan: by all pairs
--     is_pass v              the verdict v is a pass
use Rattle.std.specs.Prelude.{ℕ, suc, ◌+◌, ◌-◌, Bool, true, false, cond, ltb, length}
use Rattle.std.specs.Prelude.{None}
use Rattle.rules.specs.Found.{At, FirstBroken}
use mathlib.Core.List.{List, [], ◌∷◌, map, flat_map}
use Rattle.std.proofs.Math.Option.{Option, none, some}
use Rattle.days.specs.Days.{days}
use Rattle.rules.specs.declared.Plan.{Plan}
use Rattle.rules.specs.declared.Verdict.{Verdict}
use Rattle.rules.specs.declared.Verdict.TheVariants.{Overload, Fail, Pass}
use Rattle.base.specs.Count.{up_from, first_of}
use Rattle.rules.specs.Plan.{multiple_of, d_max}
use Rattle.rules.specs.Demand.{block_limit, demand, overloaded}

pub record Pair : Type 0 where
  pub l : ℕ
  pub b : ℕ

unfoldable pub pairs_at : Plan → ℕ → List Pair
pairs_at p l = map (λ b. record { l = l; b = b }) (up_from 0 (suc (block_limit p l)))

unfoldable pub all_pairs : Plan → List Pair
all_pairs p = flat_map (pairs_at p) (up_from 1 (d_max p + multiple_of p - 1))

unfoldable pub broken : Plan → Pair → Bool
broken p q = ltb q.l (demand p q.l q.b)

abbrev pub first_broken : Plan → List Pair → Option Pair
first_broken p qs = first_of (broken p) qs

unfoldable pub broken_at : Option Pair → FirstBroken
broken_at none = None
broken_at (some q) = At (days q.l) (days q.b)

unfoldable pub compared : Plan → List Pair → List Pair
compared p [] = []
compared p (q ∷ qs) =
    let later = compared p qs in
    q ∷ cond (broken p q) [] later

-- a fail names its pair and the demand there; both carry how many pairs were compared
unfoldable pub judged : Plan → Option Pair → ℕ → Verdict
judged p none k = Pass k
judged p (some q) k = Fail (days q.l) (days q.b) (days (demand p q.l q.b)) k

unfoldable pub verdict_over : Plan → List Pair → Verdict
verdict_over p qs =
    let rule = judged p (first_broken p qs) (length (compared p qs)) in
    cond (overloaded p) Overload rule

abbrev pub verdict_of : Plan → Verdict
verdict_of p = verdict_over p (all_pairs p)

unfoldable pub is_pass : Verdict → Bool
is_pass Overload = false
is_pass (Fail l b d k) = false
is_pass (Pass k) = true
