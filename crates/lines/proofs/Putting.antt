-- A text put at the head of a lent page.
use Rattle.base.proofs.Prelude.{◌≤◌, ◌<◌, ◌≡◌, refl, List, ℕ, ◌++◌, lt-ltb, le-ltb, length, drop}
use Rattle.lines.specs.Pages.{length_told, page_told}

module _ (text page : List ℕ) where
  pub no-room : length page < length text → (0 ≡ length_told text page) × (page ≡ page_told text page)
  unfolding length_told page_told
  no-room h = rw (lt-ltb _ _ h) (refl, refl)

  pub room : length text ≤ length page
      → (length text ≡ length_told text page) × (text ++ drop (length text) page ≡ page_told text page)
  unfolding length_told page_told
  room h = rw (le-ltb _ _ h) (refl, refl)
