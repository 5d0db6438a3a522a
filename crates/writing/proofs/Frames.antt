-- A frame's cells, written one after the other into a part of a page.
--     WritingStanding before cells part at i    the digits of the first i cells stand at the head of the part, so many bytes; what stood
-- behind
--                           them stays
use Rattle.base.proofs.Prelude.{ℕ, ◌+◌, ◌*◌, ◌-◌, ◌≤◌, ◌<◌, ◌≡◌, refl, sym, ap, ◌∙◌, subst, List, [], ◌∷◌, ◌++◌, arith, length, take, drop, get_or, length-append, take_all, put_mid}
use mathlib.Core.List.{flat_map}
use Rattle.base.specs.Count.{sum_of}
use Rattle.writing.specs.{declared.cells.Cell.Cell, inner.Cells.{number_text, cells_size, cells_text, Room}}
use Rattle.writing.proofs.Texts.{TextStands, stands-none, stands-next, number_text-length, cells_text-length, cells_size-step, cells_text-step, cells_size-within}

-- stands where there is no cell
abbrev pub no_cell : Cell
no_cell = record { size = 0; value = 0 }

pub record WritingStanding (before : List ℕ) (cells : List Cell) (part : List ℕ) (at i : ℕ) : Type 0 where
  pub place : at ≡ cells_size (take i cells)
  pub text : TextStands before (cells_text (take i cells)) part

module _ (before : List ℕ) (cells : List Cell) where
  pub stands-first : WritingStanding before cells before 0 0
  unfolding cells_size cells_text sum_of flat_map
  stands-first = record { place = refl; text = stands-none before }

  module _ (part : List ℕ) (at i : ℕ) (s : WritingStanding before cells part at i) (room : Room cells (length before)) where
    -- there is room for the next cell and for the end
    pub next-room : i < length cells → at * 2 + (get_or cells i no_cell).size * 2 + 1 ≤ length part
    next-room h = omega (arith, s.place, s.text.size, room.bytes, cells_size-within cells no_cell i h)

    -- one cell more stands
    pub next-stands : (next : List ℕ) → i < length cells
        → next ≡ number_text (get_or cells i no_cell).size (get_or cells i no_cell).value ++ drop ((get_or cells i no_cell).size * 2)
        (take (length part - at * 2) (drop (at * 2) part))
        → WritingStanding before cells (put_mid (at * 2) (length part - at * 2) part next) (at + (get_or cells i no_cell).size) (i + 1)
    next-stands next h got =
        let cell = get_or cells i no_cell in
        let so_far : length (cells_text (take i cells)) ≡ at * 2 = cells_text-length (take i cells) ∙ ap (λ k. k * 2) (sym s.place) in
        record {
          place = ap (λ k. k + cell.size) s.place ∙ sym (cells_size-step cells no_cell i h);
          text =
              subst (λ text. TextStands before text (put_mid (at * 2) (length part - at * 2) part next))
              (sym (cells_text-step cells no_cell i h))
              (stands-next before (cells_text (take i cells)) (number_text cell.size cell.value) part next (at * 2) (cell.size * 2)
              s.text so_far (number_text-length cell.size cell.value) (omega (arith, next-room h)) got);
        }

    module _ (all : i ≡ length cells) where
      whole : take i cells ≡ cells
      whole = take_all i cells (omega arith)

      -- all cells stand: there is room for the end
      pub end-room : at * 2 + 1 ≤ length part
      end-room = omega (arith, s.place, ap cells_size whole, s.text.size, room.bytes)

      pub end-stands : (next : List ℕ) → next ≡ (0x0a ∷ []) ++ drop 1 (take (length part - at * 2) (drop (at * 2) part))
          → TextStands before (cells_text cells ++ (0x0a ∷ [])) (put_mid (at * 2) (length part - at * 2) part next)
      end-stands next got =
          let so_far : length (cells_text (take i cells)) ≡ at * 2 = cells_text-length (take i cells) ∙ ap (λ k. k * 2) (sym s.place) in
          subst (λ cs. TextStands before (cells_text cs ++ (0x0a ∷ [])) (put_mid (at * 2) (length part - at * 2) part next)) whole
          (stands-next before (cells_text (take i cells)) (0x0a ∷ []) part next (at * 2) 1 s.text so_far refl end-room got)

    -- the line is as long as its cells
    pub line-is : (done : List ℕ) → TextStands before (cells_text cells ++ (0x0a ∷ [])) done
        → done ≡ (cells_text cells ++ (0x0a ∷ [])) ++ drop (cells_size cells * 2 + 1) before
    line-is done t =
        let long : length (cells_text cells ++ (0x0a ∷ [])) ≡ cells_size cells * 2 + 1 =
        length-append (cells_text cells) (0x0a ∷ []) ∙ ap (λ k. k + 1) (cells_text-length cells) in
        t.is ∙ ap (λ k. (cells_text cells ++ (0x0a ∷ [])) ++ drop k before) long
