-- Refusal 3, by name: the line is missing; else its kind is another; else, of a header, its version is none; else its length is another. A
-- header's version comes ahead of its length, which hangs on it.
--     missing_reason n k          line k of a plan of n strings is missing
--     kind_due n k, length_due v n k    the kind and the bytes of the frame that is due there
--     header_reason v bytes       of a header of the right kind, by its bytes
--     frame_reason v n k bytes    of line k
-- v is the version that the text is held to: a number that no version has is held to 01.
use Rattle.std.specs.Prelude.{ℕ, ◌-◌, ◌/◌, cond, not, List, ltb, leb, eqb, length}
use Rattle.rules.specs.Layout.{Version, frame_size, kind_in, version_in, header_frame, string_frame, release_frame}
use Rattle.rules.specs.Text.{hex_bytes}
use Rattle.lines.specs.declared.reasons.Reason.{Reason}
use Rattle.lines.specs.declared.reasons.Reason.TheVariants.{NoHeader, StringMissing, OtherKind, OtherVersion, OtherLength}

unfoldable pub missing_reason : ℕ → ℕ → Reason
missing_reason n k = cond (leb k 1) NoHeader (StringMissing (k - 1) n)

unfoldable pub kind_due : ℕ → ℕ → ℕ
kind_due n k = cond (leb k 1) 1 (cond (leb (k - 1) n) 2 3)

unfoldable pub length_due : Version → ℕ → ℕ → ℕ
length_due v n k =
    cond (leb k 1) (frame_size (header_frame v)) (cond (leb (k - 1) n) (frame_size (string_frame v)) (frame_size (release_frame v)))

unfoldable pub header_reason : Version → List ℕ → Reason
header_reason v bytes =
    let other = OtherLength (length bytes / 2) (frame_size (header_frame v)) in
    cond (ltb (length bytes / 2) 2) other (cond (eqb (version_in (hex_bytes bytes)) v.number) other (OtherVersion (version_in
    (hex_bytes bytes))))

unfoldable pub frame_reason : Version → ℕ → ℕ → List ℕ → Reason
frame_reason v n k bytes =
    cond (eqb (length bytes) 0) (missing_reason n k)
    (cond (not (eqb (kind_in (hex_bytes bytes)) (kind_due n k))) (OtherKind (kind_in (hex_bytes bytes)) (kind_due n k))
    (cond (leb k 1) (header_reason v bytes) (OtherLength (length bytes / 2) (length_due v n k))))
