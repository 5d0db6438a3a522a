-- The releases that miss, of what `miss` answered. Its arguments are the text, the page and the place; what it wrote is what stands in the
-- page from the place on.
use Rattle.base.proofs.Prelude.{ℕ, ◌≡◌, refl, sym, ap, ◌∙◌, subst, ◌⊎◌, inl, inr, ◌↔◌, List, arith, take, drop}
use Rattle.faults.specs.Checks.{Refused, Lawful, Checked}
use Rattle.faults.specs.declared.Refusal.{Refusal}
use Rattle.std.specs.Prelude.{Result, Ok, Err}
use Rattle.faults.specs.declared.Fault.{Fault}
use Rattle.faults.specs.declared.Fault.TheVariants.{NoRoom}
use Rattle.rules.specs.{Answer.{answered, answer_of}, Demand.Passes, Text.reading_of}
use Rattle.sound.specs.Sharp.{SharplyPasses}
use Rattle.exact.specs.Missing.{freely, NeverMisses, FreeMoving}
use Rattle.charging.specs.Payable.{payable}
use Rattle.tries.specs.Shown.{MissesOverMany}
use Rattle.missed.specs.{declared.Missed.Missed, declared.Missed.TheVariants.{Never, NoneFound, TooMany, Text}, ShowsMiss.ShowsMiss}
use Rattle.missed.proofs.OfText.{missed-refuses, missed-refused, missed-passes, missed-none, missed-never-rule, missed-never, missed-none-free, missed-none-payable, missed-none-paid, missed-text, missed-keeps, missed-many, missed-many-list}
use Rattle.missed.specs.declared.Missed.TheVariants as missed
use Rattle.missed.proofs.miss.Reads as miss
use contract.Lifetimes.{Lfts}

-- ---- What the desk refuses

module _ (text : List ℕ) (f : Fault) (k : ℕ) where
  desk-refuses : (reading_of text).checked ≡ Refused f k → answer_of text ≡ Refused f k
  unfolding answer_of answered
  desk-refuses h = rw h

  desk-refused : answer_of text ≡ Refused f k → (reading_of text).checked ≡ Refused f k
  unfolding answer_of answered
  desk-refused h = go (reading_of text).checked refl
    where
      go : (c : Checked) → (reading_of text).checked ≡ c → (reading_of text).checked ≡ Refused f k
      go (Ok _) is =
          let said = rw is at h in
          let z : ◌≡◌ {A = ℕ} 0 1 = cc in
          absurd (omega arith)
      go (Err e) is =
          let said = rw is at h in
          let fault : e.fault ≡ f = cc in
          let place : e.at ≡ k = cc in
          is ∙ ap (λ x. Refused x e.at) fault ∙ ap (Refused f) place

-- ---- What `miss` answered

module _ (κs : Lfts 2) (a : _) (e : _) (r : Result Missed Refusal) (did : miss.Learnt κs a r e) where
  -- a text that is written is the text of the same plan, N raised, and of releases over which it misses: the desk's third line is a miss
  pub text-shows : (len : ℕ) → r ≡ Ok (Text len) → ShowsMiss a.0.now (take len (drop a.1.1.0 e.1.0.now))
  text-shows len is =
      subst (λ page. ShowsMiss a.0.now (take len (drop a.1.1.0 page))) (sym did.1.0)
      (missed-text a.0.now a.1.0.now a.1.1.0 len (sym did.0 ∙ is))

  -- exactly where the text is lawful and the rule holds
  pub passes-exactly : (r ≡ Ok missed.Passes) ↔ ((reading_of a.0.now).checked ≡ Lawful) × Passes (reading_of a.0.now).plan
  passes-exactly =
      let exactly = missed-passes a.0.now a.1.0.now a.1.1.0 in
      (λ is. exactly.0 (sym did.0 ∙ is), λ rule. did.0 ∙ exactly.1 rule)

  -- exactly where the text is lawful, the rule does not hold, and the payable plan passes sharply; so no list misses, whatever N
  pub never-exactly : (r ≡ Ok Never)
      ↔ ((reading_of a.0.now).checked ≡ Lawful) × (Passes (reading_of a.0.now).plan → ⊥)
      × SharplyPasses (payable (reading_of a.0.now).plan)
  never-exactly =
      let exactly = missed-never-rule a.0.now a.1.0.now a.1.1.0 in
      (λ is. exactly.0 (sym did.0 ∙ is), λ rule. did.0 ∙ exactly.1 rule)

  pub fails-never-misses : r ≡ Ok Never → NeverMisses (reading_of a.0.now).plan
  fails-never-misses is = missed-never a.0.now a.1.0.now a.1.1.0 (sym did.0 ∙ is)

  -- where none is found, the rule does not hold, nor the sharp rule of the payable plan; with free moving it would. So where moving is free
  -- this is not answered
  pub none-breaks : r ≡ Ok NoneFound → ((reading_of a.0.now).checked ≡ Lawful) × (Passes (reading_of a.0.now).plan → ⊥)
  none-breaks is = missed-none a.0.now a.1.0.now a.1.1.0 (sym did.0 ∙ is)

  pub none_free : r ≡ Ok NoneFound → SharplyPasses (freely (reading_of a.0.now).plan)
  none_free is = missed-none-free a.0.now a.1.0.now a.1.1.0 (sym did.0 ∙ is)

  pub none-payable : r ≡ Ok NoneFound → SharplyPasses (payable (reading_of a.0.now).plan) → ⊥
  none-payable is = missed-none-payable a.0.now a.1.0.now a.1.1.0 (sym did.0 ∙ is)

  pub none-paid : r ≡ Ok NoneFound → FreeMoving (reading_of a.0.now).plan → ⊥
  none-paid is = missed-none-paid a.0.now a.1.0.now a.1.1.0 (sym did.0 ∙ is)

  -- where there are too many, the rule does not hold either, and a list misses that has more than 1,000 releases
  pub many-breaks : r ≡ Ok TooMany → ((reading_of a.0.now).checked ≡ Lawful) × (Passes (reading_of a.0.now).plan → ⊥)
  many-breaks is = missed-many a.0.now a.1.0.now a.1.1.0 (sym did.0 ∙ is)

  pub many-miss : r ≡ Ok TooMany → MissesOverMany (reading_of a.0.now).plan
  many-miss is = missed-many-list a.0.now a.1.0.now a.1.1.0 (sym did.0 ∙ is)

  -- what the desk refuses is refused with the same number and line, and nothing else is but for the room
  pub refuses-as-desk : (f : Fault) (k : ℕ) → answer_of a.0.now ≡ Refused f k → r ≡ Refused f k
  refuses-as-desk f k h = did.0 ∙ missed-refuses a.0.now a.1.0.now a.1.1.0 f k (desk-refused a.0.now f k h)

  pub refused-as-desk : (f : Fault) (k : ℕ) → r ≡ Refused f k
      → (answer_of a.0.now ≡ Refused f k) ⊎ (((reading_of a.0.now).checked ≡ Lawful) × (f ≡ NoRoom) × (k ≡ 0))
  refused-as-desk f k is = go (missed-refused a.0.now a.1.0.now a.1.1.0 f k (sym did.0 ∙ is))
    where
      go : ((reading_of a.0.now).checked ≡ Refused f k)
          ⊎ (((reading_of a.0.now).checked ≡ Lawful) × (f ≡ NoRoom) × (k ≡ 0))
          → (answer_of a.0.now ≡ Refused f k) ⊎ (((reading_of a.0.now).checked ≡ Lawful) × (f ≡ NoRoom) × (k ≡ 0))
      go (inl h) = inl (desk-refuses a.0.now f k h)
      go (inr h) = inr h

  -- but for a text, no byte of the page is another
  pub no-text-keeps : ((len : ℕ) → r ≡ Ok (Text len) → ⊥) → e.1.0.now ≡ a.1.0.now
  no-text-keeps no_text =
      did.1.0 ∙ missed-keeps a.0.now a.1.0.now a.1.1.0 (λ len h. no_text len (did.0 ∙ h))
