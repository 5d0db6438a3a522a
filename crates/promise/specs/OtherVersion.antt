-- A text that is no plan file of a version (document 02, W-208: "another version than the one to be turned is 3 at line 1").
--     headed v line         the line writes a header of the version v: a frame of its length, its kind and its version
--     NoHeader v lines      there is no line, or the first writes a frame that is no header of the version v
use Rattle.std.specs.Prelude.{◌≡◌, Bool, true, false, ◌&&◌, List, [], ◌∷◌, eqb, length}
use Rattle.rules.specs.Layout.{Version, frame_size, kind_in, header_frame, Number}
use Rattle.rules.specs.Text.{Line, well_formed, frame_of, field_of}

unfoldable pub headed : Version → Line → Bool
headed v line =
    (eqb (length (frame_of line)) (frame_size (header_frame v)) && eqb (kind_in (frame_of line)) (header_frame v).kind)
    && eqb (field_of (header_frame v) Number line) v.number

abbrev pub NoHeader : Version → List Line → Type 0
NoHeader v [] = Unit {0}
NoHeader v (line ∷ lines) = (well_formed line ≡ true) × (headed v line ≡ false)
