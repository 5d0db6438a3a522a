-- What the contracts of the steps of a day say beside the definitions of `rules`.
--     Affords p ss                  whichever job of ss pays, what it then has of moving fits the code's word
--     Event ss t until e            e is a day after t, at the latest `until`, and no deadline after t of a job with something left lies
--                                   before it
--     EndedBy slots later t until s     step 5 on the days from t to the next event, which are the stint s, makes of the slots those later
use Rattle.std.specs.Prelude.{ℕ, ◌+◌, ◌≤◌, ◌<◌, ◌^◌, max, ◌≡◌, List, get_or}
use Rattle.rules.specs.declared.Plan.{Plan}
use Rattle.rules.specs.declared.Slot.{Slot}
use Rattle.rules.specs.Demand.{moving_cost}
use Rattle.rules.specs.Run.{left, no_slot, slot_at, holder, use_of}
use Rattle.base.proofs.Lists.{All}
use Rattle.laws.proofs.JobParts.{moving_of}
use Rattle.stretch.specs.Stretch.{part_days, days_off}
use Rattle.days.specs.declared.Day.{Day}
use Rattle.rules.specs.declared.Stint.{Stint}

abbrev pub Affords : Plan → List Slot → Type 0
Affords p ss = All (λ s. moving_of s.job + moving_cost p s.string < 2 ^ 32) ss

-- no deadline after t of a job with something left lies before e
abbrev pub NoneDue : List Slot → ℕ → ℕ → Type 0
NoneDue ss t e =
    (j : ℕ) → 1 ≤ left (get_or ss j no_slot).job → t < (get_or ss j no_slot).deadline.0 → e ≤ (get_or ss j no_slot).deadline.0

pub record Event (ss : List Slot) (t until e : ℕ) : Type 0 where
  pub after : t < e
  pub latest : e ≤ until
  pub none-due : NoneDue ss t e

pub record EndedBy (slots later : List Slot) (today : Day) (until : ℕ) (s : Stint) : Type 0 where
  pub first : s.first ≡ today
  pub used : s.used ≡ use_of slots
  pub after : later ≡ days_off s.length.0 slots
  pub some : 1 ≤ s.length.0
  pub part : (holder slots ≡ 0 → ⊥) → s.length.0 ≤ max 1 (part_days (slot_at slots (holder slots)).job)
  pub latest : today.0 + s.length.0 ≤ until
  pub none-due : NoneDue slots today.0 (today.0 + s.length.0)
