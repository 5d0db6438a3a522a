-- What the rules said before late access (document 02, W-213), of plans without late days (`OnTime`, in laws). Each definition that W-213
-- changed stands here as it was before; all others call these with the same text.
--     DueOnRelease rs       each release of rs is due on its release day
--     string_lawful_before s  T 1 to 1,000; D 1 to T; C 1 to D; X 0 or 1; a lawful moving cost
--     jobs_before s w        the jobs of s in a window of w days: 0 if w < D, else (w − D) / T rounded down, plus 1
--     limit_before p l       the blocking limit: 0 unless the smallest D ≤ l < the largest D
--     need_before, demand_before    what a string asks, and the demand, with these jobs
--     deadline_before p r    release day plus D
--     too_close_before t r seen     fewer than t days lie between the releases
--     release_lawful_before p seen r, unlawful_before p seen k rs    r may stand after those seen; the first that may not
use Rattle.std.specs.Prelude.{ℕ, suc, ◌+◌, ◌-◌, ◌*◌, ◌/◌, min, ◌≡◌, Bool, false, not, cond, ◌&&◌, List, [], ◌∷◌, leb, ltb, eqb}
use Rattle.base.specs.Count.{All, sum_of, largest, smallest}
use Rattle.faults.specs.Checks.{in_bounds}
use Rattle.rules.specs.declared.BatteryString.{BatteryString}
use Rattle.rules.specs.declared.Plan.{Plan}
use Rattle.rules.specs.declared.Release.{Release}
use Rattle.rules.specs.Plan.{strings_of, string_at, cost_lawful, d_max}
use Rattle.rules.specs.Demand.{hold_of, blocker_hold}
use Rattle.rules.specs.Release.{out_of_order}

abbrev pub DueOnRelease : List Release → Type 0
DueOnRelease rs = All (λ r. r.due.0 ≡ r.day.0) rs

unfoldable pub string_lawful_before : BatteryString → Bool
string_lawful_before s =
    in_bounds 1 s.t.0 1000
    && in_bounds 1 s.d.0 s.t.0
    && in_bounds 1 s.c.0 s.d.0
    && in_bounds 0 s.x 1
    && cost_lawful s.a.0

unfoldable pub jobs_before : BatteryString → ℕ → ℕ
jobs_before s w = cond (ltb w s.d.0) 0 ((w - s.d.0) / s.t.0 + 1)

unfoldable pub limit_before : Plan → ℕ → ℕ
limit_before p l =
    cond (leb (smallest (λ s. s.d.0) (strings_of p)) l && ltb l (d_max p))
    (min l (largest (blocker_hold p l) (strings_of p)))
    0

unfoldable pub need_before : Plan → ℕ → ℕ → BatteryString → ℕ
need_before p l b s =
    cond (eqb s.x 1)
    (jobs_before s (l - b) * hold_of p s)
    (jobs_before s l * s.c.0)

unfoldable pub demand_before : Plan → ℕ → ℕ → ℕ
demand_before p l b = b + sum_of (need_before p l b) (strings_of p)

abbrev pub deadline_before : Plan → Release → ℕ
deadline_before p r = r.day.0 + (string_at p r.place).d.0

unfoldable pub too_close_before : ℕ → Release → List Release → Bool
too_close_before t r [] = false
too_close_before t r (q ∷ seen) =
    let earlier = too_close_before t r seen in
    cond (eqb q.place r.place) (ltb r.day.0 (q.day.0 + t)) earlier

unfoldable pub release_lawful_before : Plan → List Release → Release → Bool
release_lawful_before p seen r =
    in_bounds 1 r.place p.n
    && in_bounds 1 r.need.0 (string_at p r.place).c.0
    && ltb r.day.0 p.run.0
    && not (out_of_order r seen)
    && not (too_close_before (string_at p r.place).t.0 r seen)

unfoldable pub unlawful_before : Plan → List Release → ℕ → List Release → ℕ
unlawful_before p seen k [] = 0
unlawful_before p seen k (r ∷ rs) =
    let later = unlawful_before p (r ∷ seen) (suc k) rs in
    cond (release_lawful_before p seen r) later k
