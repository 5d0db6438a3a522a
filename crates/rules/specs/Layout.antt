-- Layouts of frames (document 01, "Frames of the plan file"; document 02, W-207 and W-213): which bytes of a frame say what.
--     HeaderField, StringField, ReleaseField    what the fields of each frame say
--     Layout F              a frame whose fields are those of F: its kind, its fields in the page's order, the rank of a field in that
--                           order, and its size in bytes. A field of no byte is one that the frame does not have
--     frame_size l           the bytes of a frame: one for its kind, then those of its fields
--     line_length size       the bytes of text that a frame of that size takes: two digits a byte, and the 0a
--     line_size l            the same of a frame of the layout l
--     number_of bytes        the number that bytes write, high byte first
--     kind_in frame          the kind of a frame, its first byte
--     version_in frame       the version that a header names, its second byte, whatever the version
--     has_field l f          the layout l has the field f
--     field_in l f frame     the number that the field f of a frame says; 0 where the layout has no such field
--     Version               a version of the plan file: its number, and the sizes of the fields of its three frames
--     version01             document 01's: the header says the moving cost of every string
--     version02             document 02's, W-207: each string says its own
--     version03             document 02's, W-213: each string says its late days too, and each release its due day
--     header_frame v, string_frame v, release_frame v    the layouts of the frames of the version v
--     held_to number         the version that a header which names the number is held to. A number that none has is held to 01, which
--                           refuses it
-- A field starts where the one before it ends.
use Rattle.std.specs.Prelude.{ℕ, ◌+◌, ◌*◌, Bool, cond, List, [], ◌∷◌, ltb, eqb, take, drop}
use Rattle.base.specs.Digits.{value_of}

-- the version's number, n, the moving cost of every string, N
pub data HeaderField : Type 0 where
  Number : HeaderField
  Count : HeaderField
  Common : HeaderField
  Run : HeaderField

-- X, T, C, D, the string's own moving cost, its late days
pub data StringField : Type 0 where
  X : StringField
  T : StringField
  C : StringField
  D : StringField
  Own : StringField
  Late : StringField

pub data ReleaseField : Type 0 where
  Place : ReleaseField
  Day : ReleaseField
  Need : ReleaseField
  Due : ReleaseField

pub record Layout (F : Type 0) : Type 0 where
  pub kind : ℕ
  pub fields : List F
  pub rank : F → ℕ
  pub size : F → ℕ

-- ---- Sizes

abbrev pub line_length : ℕ → ℕ
line_length size = size * 2 + 1

module _ {F : Type 0} where
  abbrev pub size_of : (F → ℕ) → List F → ℕ
  size_of size [] = 0
  size_of size (f ∷ rest) = size f + size_of size rest

  abbrev pub frame_size : Layout F → ℕ
  frame_size l = 1 + size_of l.size l.fields

  abbrev pub line_size : Layout F → ℕ
  line_size l = line_length (frame_size l)

-- ---- Numbers

abbrev pub number_of : List ℕ → ℕ
number_of bytes = value_of 256 bytes

abbrev pub kind_in : List ℕ → ℕ
kind_in frame = number_of (take 1 frame)

abbrev pub version_in : List ℕ → ℕ
version_in frame = number_of (take 1 (drop 1 frame))

module _ {F : Type 0} (l : Layout F) where
  unfoldable pub has_field : F → Bool
  has_field f = ltb 0 (l.size f)

  unfoldable pub field_among : List F → F → List ℕ → ℕ
  field_among [] f bytes = 0
  field_among (g ∷ rest) f bytes =
      let later = field_among rest f (drop (l.size g) bytes) in
      cond (eqb (l.rank g) (l.rank f)) (number_of (take (l.size g) bytes)) later

  unfoldable pub field_in : F → List ℕ → ℕ
  field_in f frame = field_among l.fields f (drop 1 frame)

-- ---- Versions

pub record Version : Type 0 where
  pub number : ℕ
  pub header : HeaderField → ℕ
  pub string : StringField → ℕ
  pub release : ReleaseField → ℕ

-- sizes in the page's order
abbrev pub header_row : ℕ → ℕ → ℕ → ℕ → HeaderField → ℕ
header_row number count common run Number = number
header_row number count common run Count = count
header_row number count common run Common = common
header_row number count common run Run = run

abbrev pub string_row : ℕ → ℕ → ℕ → ℕ → ℕ → ℕ → StringField → ℕ
string_row x t c d own late X = x
string_row x t c d own late T = t
string_row x t c d own late C = c
string_row x t c d own late D = d
string_row x t c d own late Own = own
string_row x t c d own late Late = late

abbrev pub release_row : ℕ → ℕ → ℕ → ℕ → ReleaseField → ℕ
release_row place day need due Place = place
release_row place day need due Day = day
release_row place day need due Need = need
release_row place day need due Due = due

-- header: 01, version (1), n (1), A (2), N (4); string: 02, X (1), T (2), C (2), D (2); release: 03, place (1), day (4), need (2)
abbrev pub version01 : Version
version01 = record { number = 1; header = header_row 1 1 2 4; string = string_row 1 2 2 2 0 0; release = release_row 1 4 2 0 }

-- header: 01, version (1), n (1), N (4); string: 02, X (1), T (2), C (2), D (2), moving cost (2); release as in 01
abbrev pub version02 : Version
version02 = record { number = 2; header = header_row 1 1 0 4; string = string_row 1 2 2 2 2 0; release = release_row 1 4 2 0 }

-- header as in 02; string: 02, X (1), T (2), C (2), D (2), moving cost (2), J (2); release: 03, place (1), day (4), need (2), due day (4)
abbrev pub version03 : Version
version03 = record { number = 3; header = header_row 1 1 0 4; string = string_row 1 2 2 2 2 2; release = release_row 1 4 2 4 }

abbrev pub later_versions : List Version
later_versions = version02 ∷ version03 ∷ []

abbrev pub versions : List Version
versions = version01 ∷ later_versions

abbrev pub version_among : ℕ → List Version → Version
version_among number [] = version01
version_among number (v ∷ vs) = cond (eqb number v.number) v (version_among number vs)

unfoldable pub held_to : ℕ → Version
held_to number = version_among number later_versions

-- ---- Frames

abbrev pub header_frame : Version → Layout HeaderField
header_frame v =
    record { kind = 1; fields = Number ∷ Count ∷ Common ∷ Run ∷ []; rank = header_row 0 1 2 3; size = v.header }

abbrev pub string_frame : Version → Layout StringField
string_frame v =
    record { kind = 2; fields = X ∷ T ∷ C ∷ D ∷ Own ∷ Late ∷ []; rank = string_row 0 1 2 3 4 5; size = v.string }

abbrev pub release_frame : Version → Layout ReleaseField
release_frame v =
    record { kind = 3; fields = Place ∷ Day ∷ Need ∷ Due ∷ []; rank = release_row 0 1 2 3; size = v.release }
