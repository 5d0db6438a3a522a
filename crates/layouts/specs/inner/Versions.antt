-- For the proofs of the reader and the writer: the code's layouts, and the definitions' that they stand for.
--     offset_in l f, size_in l f   the bytes that stand ahead of the field f in a frame of the layout l, and its own
--     layouts_for v          the layouts of the version v as the code holds them
--     meant_by version       the version that one of the code stands for
--     Sound v               what the proofs ask of a version: the fields that all versions have are of one size, one frame says the moving
--                           cost, late days and due days take a number's bytes or none, and the lines are short enough for a text of
--                           65,536 bytes
use Rattle.std.specs.Prelude.{ℕ, ◌+◌, ◌%◌, ◌≤◌, ◌<◌, ◌≡◌, cond, List, [], ◌∷◌, eqb}
use Rattle.rules.specs.Layout as rule
use Rattle.rules.specs.Layout.{frame_size, line_size, header_frame, string_frame, release_frame, held_to}
use Rattle.rules.specs.Layout.{Number, Count, Common, Run, X, T, C, D, Own, Late, Place, Day, Need, Due}
use Rattle.layouts.specs.declared.Field.{Field}
use Rattle.layouts.specs.declared.Layout.{Layout}
use Rattle.layouts.specs.declared.Layouts.{Layouts}
use Rattle.layouts.specs.declared.Version.{Version}
use Rattle.layouts.specs.declared.Version.TheVariants.{First, Second, Third}

module _ {F : Type 0} (l : rule.Layout F) where
  -- ---- Where a field stands

  abbrev pub offset_among : List F → F → ℕ
  offset_among [] f = 0
  offset_among (g ∷ rest) f = cond (eqb (l.rank g) (l.rank f)) 0 (l.size g + offset_among rest f)

  abbrev pub size_among : List F → F → ℕ
  size_among [] f = 0
  size_among (g ∷ rest) f = cond (eqb (l.rank g) (l.rank f)) (l.size g) (size_among rest f)

  abbrev pub offset_in : F → ℕ
  offset_in f = 1 + offset_among l.fields f

  abbrev pub size_in : F → ℕ
  size_in f = size_among l.fields f

  -- ---- As the code holds it

  abbrev pub field_for : F → Field
  field_for f = record { at = offset_in f; size = size_in f }

  abbrev pub layout_for : Layout
  layout_for = record { kind = l.kind; size = frame_size l; line = line_size l }

abbrev pub layouts_for : rule.Version → Layouts
layouts_for v =
    record {
      number = v.number;
      header = layout_for (header_frame v);
      common = field_for (header_frame v) Common;
      run = field_for (header_frame v) Run;
      string = layout_for (string_frame v);
      own = field_for (string_frame v) Own;
      late = field_for (string_frame v) Late;
      release = layout_for (release_frame v);
      due = field_for (release_frame v) Due;
    }

abbrev pub layouts_number_of : Version → ℕ
layouts_number_of First = 1
layouts_number_of Second = 2
layouts_number_of Third = 3

abbrev pub meant_by : Version → rule.Version
meant_by version = held_to (layouts_number_of version)

-- ---- What is asked of every version

abbrev pub Sound : rule.Version → Type 0
Sound v =
    (v.number < 256) × (v.header Number ≡ 1) × (v.header Count ≡ 1) × (v.header Run ≡ 4)
    × (v.string X ≡ 1) × (v.string T ≡ 2) × (v.string C ≡ 2) × (v.string D ≡ 2)
    × (v.release Place ≡ 1) × (v.release Day ≡ 4) × (v.release Need ≡ 2)
    × (v.header Common + v.string Own ≡ 2) × (v.header Common % 2 ≡ 0)
    × (v.string Late ≤ 2) × (v.string Late % 2 ≡ 0) × (v.release Due ≤ 4) × (v.release Due % 4 ≡ 0)
    × (line_size (header_frame v) ≤ 60) × (line_size (string_frame v) ≤ 60) × (line_size (release_frame v) ≤ 60)
