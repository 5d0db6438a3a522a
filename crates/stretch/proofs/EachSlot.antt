-- What a step of a day keeps of every slot.
use Rattle.base.proofs.Prelude.{ℕ, ◌-◌, ◌≤◌, ◌≡◌, List, arith, ℕ_discrete, length, length-set}
use Rattle.rules.specs.{declared.Plan.Plan, declared.Job.Job, declared.Slot.Slot, Demand.moving_cost, Run.{no_slot, slot_at, put_job, with_job, holder, payer, stopped, charged, stop, taken, next_up, seated, given, spent_job, spent}}
use Rattle.base.proofs.Lists.{All, all-at, all_map, all_set}
use Rattle.laws.proofs.Steps.{taken_free, taken-kept, taken-over, given-held, given-nobody, given-next, spent-free, spent-held, holder-le, payer-le, next_up-le}

module _ (P Q : Slot → Type 0) (weaker : (s : Slot) → P s → Q s) where
  change-all : (f : Slot → Job) → ((s : Slot) → P s → Q (put_job s (f s))) → (i : ℕ) (ss : List Slot) → 1 ≤ i → i ≤ length ss → All P ss
      → All Q (with_job ss i (f (slot_at ss i)))
  change-all f changed i ss low high h =
      all_set Q ss (i - 1) _ (all_map P Q weaker ss h) (changed (slot_at ss i) (all-at P ss no_slot h (i - 1) (omega arith)))

pub stop-all : (P : Slot → Type 0) → ((s : Slot) → P s → P (put_job s (stopped s.job))) → (ss : List Slot) → (holder ss ≡ 0 → ⊥)
    → All P ss → All P (stop ss (holder ss))
stop-all P stops ss held = change-all P P (λ s k. k) (λ s. stopped s.job) stops (holder ss) ss (omega arith) (holder-le ss)

pub taken-all : (P Q : Slot → Type 0) → ((s : Slot) → P s → Q s) → (p : Plan) (t : ℕ) → ((s : Slot) → P s → P (put_job s (stopped s.job)))
    → ((s : Slot) → P s → Q (put_job s (charged (moving_cost p s.string) s.job))) → (ss : List Slot) → All P ss
    → All Q (taken p t ss)
taken-all P Q weaker p t stops charges ss h =
    elim (ℕ_discrete (holder ss) 0) [
      | yes free ↦ rw (taken_free p t ss free) (all_map P Q weaker ss h)
      | no held ↦
          elim (ℕ_discrete (payer t ss) 0) [
            | yes kept ↦ rw (taken-kept p t ss held kept) (all_map P Q weaker ss h)
            | no paid ↦
                let freed = stop ss (holder ss) in
                let room : payer t ss ≤ length freed = simp length-set (payer-le t ss) in
                rw (taken-over p t ss held paid)
                (change-all P Q weaker (λ s. charged (moving_cost p s.string) s.job) charges (payer t ss) freed (omega arith) room
                (stop-all P stops ss held h))
          ]
    ]

module _ (P : Slot → Type 0) where
  pub given-all : ((s : Slot) → P s → P (put_job s (seated s.job))) → (ss : List Slot) → All P ss → All P (given ss)
  given-all seats ss h =
      elim (ℕ_discrete (holder ss) 0) [
        | yes free ↦
            elim (ℕ_discrete (next_up ss) 0) [
              | yes nobody ↦ rw (given-nobody ss free nobody) h
              | no some ↦
                  rw (given-next ss free some)
                  (change-all P P (λ s k. k) (λ s. seated s.job) seats (next_up ss) ss (omega arith) (next_up-le ss) h)
            ]
        | no held ↦ rw (given-held ss held) h
      ]

  pub spent_all : ((s : Slot) → P s → P (put_job s (spent_job s.job))) → (ss : List Slot) → All P ss → All P (spent ss)
  spent_all spends ss h =
      elim (ℕ_discrete (holder ss) 0) [
        | yes free ↦ rw (spent-free ss free) h
        | no held ↦
            rw (spent-held ss held)
            (change-all P P (λ s k. k) (λ s. spent_job s.job) spends (holder ss) ss (omega arith) (holder-le ss) h)
      ]
