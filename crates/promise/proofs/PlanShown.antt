-- A plan shown: the lines that the code gave for the plan, for each place and for each release, put together, are the whole text.
use Rattle.base.proofs.Prelude.{ℕ, ◌≡◌, refl, ap, ◌∙◌, List, [], ◌∷◌, ◌++◌}
use Rattle.faults.specs.Checks.{Lawful}
use mathlib.Core.List.{flat_map}
use Rattle.base.specs.Count.{up_from}
use Rattle.faults.proofs.Checks.{then-first}
use Rattle.rules.specs.{declared.Plan.Plan, declared.Releases.Releases, Refusal.{plan_check, releases_check, run_check}, Text.reading_of}
use Rattle.laws.proofs.ReadLawful.{read-lawful}
use Rattle.lines.specs.{declared.Page.Page, Pages.{page_of, text_of}}
use Rattle.lines.proofs.Growing.{text_of-page_of}
use Rattle.showing.specs.Shown.{string_shown, release_shown, shown_text}
use Rattle.showing.proofs.Whole.{shown-whole}
use Rattle.showing.proofs.plan_shown.Reads as plan-shown
use Rattle.showing.proofs.string_shown.Reads as string-shown
use Rattle.showing.proofs.load_shown.Reads as load-shown
use Rattle.showing.proofs.release_shown.Reads as release-shown
use contract.Lifetimes.{Lfts}

text-is : (page : Page) (text : List ℕ) → page ≡ page_of text → text_of page ≡ text
text-is page text e = ap text_of e ∙ text_of-page_of text

flat_map-same : (f g : ℕ → List ℕ) → ((i : ℕ) → f i ≡ g i) → (xs : List ℕ) → flat_map f xs ≡ flat_map g xs
unfolding flat_map
flat_map-same f g h [] = refl
flat_map-same f g h (x ∷ xs) = rw (h x, flat_map-same f g h xs)

-- head and load are the pages of the plan and of the load, strings i that of place i, releases k that of the k-th release
module _ (κs : Lfts 0) (p : Plan) (rs : Releases) (head load : Page) (strings releases : ℕ → Page) (d e : _) (f g : ℕ → _)
    (headed : plan-shown.Learnt κs (p, tt) head d) (placed : (i : ℕ) → string-shown.Learnt κs (p, (i, tt)) (strings i) (f i))
    (loaded : load-shown.Learnt κs (p, tt) load e) (listed : (k : ℕ) → release-shown.Learnt κs (rs, (k, tt)) (releases k) (g k)) where
  -- the clerk writes them in this order
  pub shows-whole : plan_check p ≡ Lawful
      → text_of head
      ++ flat_map (λ i. text_of (strings i)) (up_from 1 p.n)
      ++ text_of load
      ++ flat_map (λ k. text_of (releases k)) (up_from 1 rs.count)
      ≡ shown_text p rs
  shows-whole lawful =
      let by_place = flat_map-same (λ i. text_of (strings i)) (string_shown p) (λ i. text-is (strings i) _ (placed i)) (up_from 1 p.n) in
      let by-list = flat_map-same (λ k. text_of (releases k)) (release_shown rs) (λ k. text-is (releases k) _ (listed k))
      (up_from 1 rs.count) in
      rw (text-is head _ headed, by_place, text-is load _ loaded, by-list) (shown-whole p rs lawful)

-- the plan of a text that is read without a fault is lawful, so it is shown whole
pub read-plan-lawful : (text : List ℕ) → (reading_of text).checked ≡ Lawful → plan_check (reading_of text).plan ≡ Lawful
unfolding run_check
read-plan-lawful text lawful =
    let r = reading_of text in
    then-first (plan_check r.plan) (releases_check r.plan r.releases) (read-lawful text lawful)
