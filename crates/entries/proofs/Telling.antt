-- Rows and texts in lent memory: where there is room and where there is none, and that an entry which told a row or a text told what it is.
use Rattle.base.proofs.Prelude.{ℕ, ◌≤◌, ◌<◌, ◌≡◌, refl, ap, ◌∙◌, List, lt-ltb, le-ltb, length, set}
use lib.Seq.{sets-eq}
use Rattle.rules.specs.declared.Plan.{Plan}
use Rattle.lines.specs.Pages.{length_told, page_told}
use Rattle.entries.specs.{declared.told.Row.Row, Given.plan_given, Told.{numbers_of, kind_told, places_told, list_told}}

-- ---- A row

module _ (r : Row) (places : List ℕ) where
  pub none_told : length places < 4 → (9 ≡ kind_told r places) × (places ≡ places_told r places)
  unfolding kind_told places_told
  none_told h = rw (lt-ltb _ _ h) (refl, refl)

  pub four-told : 4 ≤ length places → (r.kind ≡ kind_told r places)
      × (set (set (set (set places 0 r.first) 1 r.second) 2 r.third) 3 r.fourth ≡ places_told r places)
  unfolding kind_told places_told
  four-told h = rw (le-ltb _ _ h) (refl, sets-eq (numbers_of r) places 0 h)

-- a list beside the places
module _ (told : List ℕ → List ℕ) (list places : List ℕ) where
  pub none-listed : length places < 4 → list ≡ list_told told list places
  unfolding list_told
  none-listed h = rw (lt-ltb _ _ h)

  pub list-told : 4 ≤ length places → told list ≡ list_told told list places
  unfolding list_told
  list-told h = rw (le-ltb _ _ h)

-- it told a row, so it told what the row is
pub told-as : (r s : Row) (places after : List ℕ) (kind : ℕ) → r ≡ s → (kind ≡ kind_told r places) × (after ≡ places_told r places)
    → (kind ≡ kind_told s places) × (after ≡ places_told s places)
told-as r s places after kind same told = (told.0 ∙ ap (λ q. kind_told q places) same, told.1 ∙ ap (λ q. places_told q places) same)

-- the row of what is answered for a plan that was given in numbers
pub told-plan : {A : Type 0} (says : A → Row) (answer : Plan → A) (ns : List ℕ) (p : Plan) (v : A) (r : Row) (places after : List ℕ)
    (kind : ℕ)
    → p ≡ plan_given ns → v ≡ answer p → r ≡ says v → (kind ≡ kind_told r places) × (after ≡ places_told r places)
    → (kind ≡ kind_told (says (answer (plan_given ns))) places) × (after ≡ places_told (says (answer (plan_given ns))) places)
told-plan says answer ns p v r places after kind given answered said told =
    told-as r _ places after kind (said ∙ ap says (answered ∙ ap answer given)) told

pub text-as : (t u page after : List ℕ) (count : ℕ) → t ≡ u → (count ≡ length_told t page) × (after ≡ page_told t page)
    → (count ≡ length_told u page) × (after ≡ page_told u page)
text-as t u page after count same told = (told.0 ∙ ap (λ q. length_told q page) same, told.1 ∙ ap (λ q. page_told q page) same)
