-- The lines that are asked for one by one, put together, are the whole text.
use Rattle.base.proofs.Prelude.{ℕ, zero, suc, ◌+◌, ◌-◌, ◌≤◌, ◌≡◌, sym, ap, ◌∙◌, List, ◌++◌, arith, dec_le, length, drop, length-take, drop_of_length-le, drop-cons}
use Rattle.faults.specs.Checks.{Lawful}
use mathlib.Core.List.{flat_map}
use Rattle.base.specs.Count.{up_from}
use Rattle.rules.specs.{declared.Plan.Plan, declared.Releases.Releases, Plan.{strings_of, no_string}, Release.{releases_of, no_release}, Refusal.plan_check}
use Rattle.lines.specs.Shown.{release_line}
use Rattle.showing.specs.Shown.{in_place, in_order, on_text, string_words, plan_shown, string_shown, load_shown, release_shown, shown_text}
use Rattle.showing.proofs.InPlace.{in_place-there, in_place-none}

module _ {A : Type 0} (line : ℕ → A → List ℕ) (z : A) (xs : List A) where
  -- the lines of m places after the k-th, where no more are left
  from_place : (k m : ℕ) → length xs ≤ k + m → flat_map (in_place line z xs) (up_from (suc k) m) ≡ in_order line (suc k) (drop k xs)
  unfolding flat_map up_from in_order
  from_place k zero h = sym (ap (in_order line (suc k)) (drop_of_length-le xs {i = k} (omega arith)))
  from_place k (suc m) h =
      let later = from_place (suc k) m (omega arith) in
      let before : suc k - 1 ≡ k = omega arith in
      elim (dec_le (suc k) (length xs)) [
        | yes inside ↦ rw (in_place-there line z xs (suc k) (omega arith) inside, before, drop-cons xs k z inside, later)
        | no past ↦
            let none = drop_of_length-le xs {i = k} (omega arith) in
            let none-later = drop_of_length-le xs {i = suc k} (omega arith) in
            rw (in_place-none line z xs (suc k) (λ low high. past high), later, none-later, none)
      ]

  pub all-places : (m : ℕ) → length xs ≤ m → flat_map (in_place line z xs) (up_from 1 m) ≡ in_order line 1 xs
  all-places m h = from_place 0 m (omega arith)

-- for a lawful plan
pub shown-whole : (p : Plan) (rs : Releases) → plan_check p ≡ Lawful
    → plan_shown p ++ flat_map (string_shown p) (up_from 1 p.n) ++ load_shown p ++ flat_map (release_shown rs) (up_from 1 rs.count)
    ≡ shown_text p rs
unfolding plan_shown string_shown load_shown release_shown shown_text
shown-whole p rs lawful =
    let strings : flat_map (string_shown p) (up_from 1 p.n) ≡ in_order (string_words p) 1 (strings_of p) =
    ap (λ check. flat_map (λ i. on_text check (in_place (string_words p) no_string (strings_of p) i)) (up_from 1 p.n)) lawful
    ∙ all-places (string_words p) no_string (strings_of p) p.n (omega (arith, length-take p.n p.strings)) in
    let releases : flat_map (release_shown rs) (up_from 1 rs.count) ≡ in_order release_line 1 (releases_of rs) =
    all-places release_line no_release (releases_of rs) rs.count (omega (arith, length-take rs.count rs.list)) in
    rw (strings, releases, lawful)
