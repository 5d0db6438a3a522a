-- The text of a plan (document 02, W-201, W-207, W-213): its frames, written from the layouts that the reader uses.
--     number_bytes size n    n in size bytes, high byte first
--     digit_text v           the lowercase hexadecimal digit of v, which is below 16
--     byte_text b            the two digits of a byte
--     frame_bytes l says     the frame of the layout l whose fields say what says gives them
--     line_text frame        the line of a frame: the digits of its bytes, and the 0a
--     header_says, string_says, release_says     what each field of a frame says
--     plan_text v p rs       the text of a plan and its releases in the version v: the header's line, a line for each string, a line for
--                           each release
-- A header that says the moving cost of every string says that of the first.
use Rattle.std.specs.Prelude.{ℕ, ◌+◌, ◌/◌, ◌%◌, cond, ltb}
use mathlib.Core.List.{List, [], ◌∷◌, ◌++◌, flat_map}
use Rattle.base.specs.Digits.{places_of}
use Rattle.rules.specs.declared.BatteryString.{BatteryString}
use Rattle.rules.specs.declared.Plan.{Plan}
use Rattle.rules.specs.declared.Release.{Release}
use Rattle.rules.specs.Plan.{strings_of, string_at}
use Rattle.rules.specs.Layout.{HeaderField, StringField, ReleaseField, Layout, Version, header_frame, string_frame, release_frame}
use Rattle.rules.specs.Layout as layout

abbrev pub number_bytes : ℕ → ℕ → List ℕ
number_bytes size n = places_of 256 size n

unfoldable pub digit_text : ℕ → ℕ
digit_text v = cond (ltb v 10) (0x30 + v) (0x57 + v)

unfoldable pub byte_text : ℕ → List ℕ
byte_text b = digit_text (b / 16) ∷ digit_text (b % 16) ∷ []

unfoldable pub frame_bytes : {F : Type 0} → Layout F → (F → ℕ) → List ℕ
frame_bytes l says = l.kind ∷ flat_map (λ f. number_bytes (l.size f) (says f)) l.fields

unfoldable pub line_text : List ℕ → List ℕ
line_text frame = flat_map byte_text frame ++ (0x0a ∷ [])

-- ---- What the fields say

abbrev pub header_says : ℕ → Plan → HeaderField → ℕ
header_says number p layout.Number = number
header_says number p layout.Count = p.n
header_says number p layout.Common = (string_at p 1).a.0
header_says number p layout.Run = p.run.0

abbrev pub string_says : BatteryString → StringField → ℕ
string_says s layout.X = s.x
string_says s layout.T = s.t.0
string_says s layout.C = s.c.0
string_says s layout.D = s.d.0
string_says s layout.Own = s.a.0
string_says s layout.Late = s.j.0

abbrev pub release_says : Release → ReleaseField → ℕ
release_says r layout.Place = r.place
release_says r layout.Day = r.day.0
release_says r layout.Need = r.need.0
release_says r layout.Due = r.due.0

-- ---- The text

unfoldable pub header_text : Version → Plan → List ℕ
header_text v p = line_text (frame_bytes (header_frame v) (header_says v.number p))

unfoldable pub string_text : Version → BatteryString → List ℕ
string_text v s = line_text (frame_bytes (string_frame v) (string_says s))

unfoldable pub release_text : Version → Release → List ℕ
release_text v r = line_text (frame_bytes (release_frame v) (release_says r))

unfoldable pub plan_text : Version → Plan → List Release → List ℕ
plan_text v p rs = header_text v p ++ flat_map (string_text v) (strings_of p) ++ flat_map (release_text v) rs
