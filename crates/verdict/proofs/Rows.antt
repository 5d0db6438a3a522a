-- What the walk over pairs knows in the row of an interval, and that its sum is the demand.
--     Latest p l takers     takers holds, at its remainder by 1,024, what the takers ask within w days, for the latest w before l
--     Row p l top keepers takers
--                           in the row of l: its blocking limit, what the keepers ask, what the takers ask within l days and fewer
use Rattle.base.proofs.Prelude.{ℕ, ◌+◌, ◌-◌, ◌%◌, ◌≤◌, ◌<◌, ◌≡◌, sym, ap, ◌∙◌, List, arith, ℕ_discrete, length, get_or, set, replicate, get_or-set_same, get_or-set_other}
use lib.ListN.{get_or-replicate}
use Rattle.rules.specs.{declared.Plan.Plan, Demand.{block_limit, demand}}
use Rattle.laws.proofs.{Lawful.LawfulPlan, Demand.block_limit-interval}
use Rattle.verdict.specs.inner.Asked.{asked_by}
use Rattle.verdict.proofs.{Asked.{asked_by-none, demand-parts}, Blocking.block_limit-short}

abbrev pub Latest : Plan → ℕ → List ℕ → Type 0
Latest p l takers = (w : ℕ) → w < l → l ≤ w + 1024 → get_or takers (w % 1024) 0 ≡ asked_by p 1 w

pub record Row (p : Plan) (l top keepers : ℕ) (takers : List ℕ) : Type 0 where
  pub limit : top ≡ block_limit p l
  pub kept : keepers ≡ asked_by p 0 l
  pub size : length takers ≡ 1024
  pub known : Latest p (l + 1) takers

-- no job fits no day
pub latest-start : (p : Plan) → LawfulPlan p → Latest p 1 (replicate 1024 0)
latest-start p ok w h k =
    let none : w ≡ 0 = omega arith in
    let place : w % 1024 < 1024 = omega arith in
    get_or-replicate 1024 (w % 1024) 0 0 place ∙ sym (ap (asked_by p 1) none ∙ asked_by-none p 1 ok)

-- one more is put in the place of the oldest
pub latest-next :
    (p : Plan) (l v : ℕ) (takers : List ℕ) → length takers ≡ 1024 → v ≡ asked_by p 1 l → Latest p l takers
    → Latest p (l + 1) (set takers (l % 1024) v)
latest-next p l v takers size e known w h k =
    elim (ℕ_discrete w l) [
      | yes same ↦
          let place : l % 1024 < length takers = omega arith in
          ap (λ i. get_or (set takers (l % 1024) v) (i % 1024) 0) same ∙ get_or-set_same takers (l % 1024) v 0 place ∙ e
          ∙ sym (ap (asked_by p 1) same)
      | no other ↦
          let apart : w % 1024 ≡ l % 1024 → ⊥ = λ z. omega arith in
          get_or-set_other takers (l % 1024) (w % 1024) v 0 apart ∙ known w (omega arith) (omega arith)
    ]

module _ (p : Plan) (l top keepers : ℕ) (takers : List ℕ) (ok : LawfulPlan p) (row : Row p l top keepers takers) where
  pub row-short : top ≤ 1000
  row-short = omega (arith, row.limit, block_limit-short p l ok)

  pub row_within : top ≤ l
  row_within = omega (arith, row.limit, block_limit-interval p l)

  pub row-limit : (b : ℕ) → b ≤ top → b ≤ block_limit p l
  row-limit b h = omega (arith, row.limit)

  pub row-past : (b : ℕ) → top < b → block_limit p l < b
  row-past b h = omega (arith, row.limit)

  -- what is looked up for a blocking
  pub row-takers : (b : ℕ) → b ≤ top → get_or takers ((l - b) % 1024) 0 ≡ asked_by p 1 (l - b)
  row-takers b h = row.known (l - b) (omega (arith, row_within)) (omega (arith, row-short, row_within))

  pub row-demand : (b : ℕ) → b ≤ top → b + keepers + get_or takers ((l - b) % 1024) 0 ≡ demand p l b
  row-demand b h = omega (arith, row.kept, row-takers b h, demand-parts p l b ok)
