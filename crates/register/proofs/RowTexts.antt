-- The rows of a plan as text: one row more, and what fits.
use Rattle.base.proofs.Prelude.{ℕ, ◌+◌, ◌-◌, subst, take_all, put_mid, ◌≤◌, ◌<◌, ◌≡◌, refl, sym, ap, ◌∙◌, List, [], ◌∷◌, ◌++◌, append-nil, arith, add-one, le-ltb, length, take, drop, get_or, length-append, take-suc, take-append-drop}
use mathlib.Core.List.{flat_map}
use lib.Seq.{take-take}
use Rattle.rules.specs.{declared.BatteryString.BatteryString, Lines.row_line}
use Rattle.lines.specs.Pages.{length_told, page_told}
use Rattle.writing.proofs.Texts.{flat_map-append, flat_map-one, lent-part, TextStands, stands-next}

abbrev pub rows_text : List BatteryString → List ℕ
rows_text ss = flat_map row_line ss

module _ (ss : List BatteryString) (z : BatteryString) (i : ℕ) (inside : i < length ss) where
  pub rows_more : rows_text (take (i + 1) ss) ≡ rows_text (take i ss) ++ row_line (get_or ss i z)
  rows_more =
      ap rows_text (rw (add-one i) (take-suc ss i z inside))
      ∙ flat_map-append row_line (take i ss) (get_or ss i z ∷ [])
      ∙ ap (λ row. rows_text (take i ss) ++ row) (flat_map-one row_line (get_or ss i z) ∙ append-nil (row_line (get_or ss i z)))

  pub rows-longer : length (rows_text (take (i + 1) ss)) ≡ length (rows_text (take i ss)) + length (row_line (get_or ss i z))
  rows-longer = ap length rows_more ∙ length-append (rows_text (take i ss)) (row_line (get_or ss i z))

-- the first rows are no longer than more of them
pub rows-within : (ss : List BatteryString) (i n : ℕ) → i ≤ n → length (rows_text (take i ss)) ≤ length (rows_text (take n ss))
rows-within ss i n h =
    let first : take i (take n ss) ≡ take i ss = take-take i n ss h in
    let whole : rows_text (take n ss) ≡ rows_text (take i ss) ++ rows_text (drop i (take n ss)) =
    ap rows_text (sym (take-append-drop i (take n ss)))
    ∙ flat_map-append row_line (take i (take n ss)) (drop i (take n ss)) ∙ rw first in
    omega (arith, ap length whole, length-append (rows_text (take i ss)) (rows_text (drop i (take n ss))))

-- ---- A text that fits

module _ (text page : List ℕ) (fits : length text ≤ length page) where
  pub told-length : length_told text page ≡ length text
  unfolding length_told
  told-length = rw (le-ltb (length page) (length text) fits)

  pub told-page : page_told text page ≡ text ++ drop (length text) page
  unfolding page_told
  told-page = rw (le-ltb (length page) (length text) fits)

-- ---- One row more

module _ (ss : List BatteryString) (z : BatteryString) (i : ℕ) (inside : i < length ss) (before part : List ℕ) (at : ℕ)
    (long : at ≡ length (rows_text (take i ss))) (rows : TextStands before (rows_text (take i ss)) part)
    (room : length (rows_text ss) ≤ length before)
  where
    pub next-row-room : at + length (row_line (get_or ss i z)) ≤ length part
    next-row-room =
        let whole : rows_text (take (length ss) ss) ≡ rows_text ss = ap rows_text (take_all (length ss) ss (omega arith)) in
        omega (arith, long, rows-longer ss z i inside, rows-within ss (i + 1) (length ss) (omega arith), ap length whole, room, rows.size)

    pub next-row : (told : ℕ) → told ≡ length (row_line (get_or ss i z)) → (next : List ℕ)
        → next ≡ row_line (get_or ss i z) ++ drop (length (row_line (get_or ss i z))) (drop at part)
        → record {
          long : at + told ≡ length (rows_text (take (i + 1) ss));
          rows : TextStands before (rows_text (take (i + 1) ss)) (put_mid at (length part - at) part next);
        }
    next-row told is next got =
        record {
          long = omega (arith, is, long, rows-longer ss z i inside);
          rows =
              subst (λ t. TextStands before t (put_mid at (length part - at) part next)) (sym (rows_more ss z i inside))
              (stands-next before (rows_text (take i ss)) (row_line (get_or ss i z)) part next at (length (row_line (get_or ss i z))) rows
              (sym long) refl next-row-room
              (got ∙ ap (λ there. row_line (get_or ss i z) ++ drop (length (row_line (get_or ss i z))) there) (sym (lent-part at part))));
        }
