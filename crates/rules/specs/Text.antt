-- The plan file (document 01, "Frames of the plan file" and "Refusal numbers"; document 02, W-207 and W-213). A text is the list of its
-- bytes.
--     lines_of text          the lines of a text: a line is what stands up to its 0a; only the last can lack one
--     digit_of b             the value of a lowercase hexadecimal digit; 16 stands for any other character
--     well_formed line       not empty, of even length, hexadecimal digits only, and ended by its 0a
--     frame_of line          the bytes that a line writes
--     field_of l f line      the number that the field f says, where the line writes a frame of the layout l
--     layout_check k l line  2, then 3, where line k writes no frame of the layout l
-- v is the version of the plan file:
--     cost_of v header line  the moving cost of a string: where the header says one it goes to every string, else the string line says it
--     string_of v header line     what a string line says, under the header of its text
--     due_in v line          the due day of a release: where its line says none it is the release day
--     release_of v line      what a release line says
--     plan_in v lines, list_in v lines    the plan and the releases that lines write, where they are lawful
--     lines_check v lines    the first fault, with its line; the order of faults is document 01's
--     reading_in v text      what reading a text of that version gives: on a refusal an empty plan and no releases
--     version_of lines       the version that lines are held to: the one that the first of them names
--     reading_of text        what reading a text gives: its lines are held to the version that its header names
--     said_in r              what is answered for what reading gives
-- Versions 01, 02 and 03 are read; in 01 and 02 every J is 0. A header of another version, or of another length than its version's, is 3
-- at line 1; a string or release line of another length than its version's is 3 at its line.
use Rattle.std.specs.Prelude.{ℕ, zero, suc, ◌+◌, ◌-◌, ◌*◌, ◌%◌, Bool, true, false, not, cond, ◌&&◌, List, [], ◌∷◌, map, ltb, eqb, length, take, drop, replicate}
use Rattle.std.specs.Prelude.{Result, Ok}
use Rattle.faults.specs.Checks.{Refused, Lawful, Checked}
use Rattle.faults.specs.declared.Refusal.{Refusal}
use Rattle.rules.specs.declared.PlanFile.{PlanFile}
use Rattle.days.specs.Days.{day, days}
use Rattle.faults.specs.declared.Fault.{Fault}
use Rattle.faults.specs.declared.Fault.TheVariants.{TextTooLong, LineMalformed, FrameWrong, ReleaseUnlawful}
use Rattle.faults.specs.Checks.{in_bounds, then, refuse_if, or_refused}
use Rattle.base.specs.Count.{every, filled}
use Rattle.rules.specs.declared.BatteryString.{BatteryString}
use Rattle.rules.specs.declared.Plan.{Plan}
use Rattle.rules.specs.declared.Release.{Release}
use Rattle.rules.specs.declared.Releases.{Releases}
use Rattle.rules.specs.Plan.{no_string}
use Rattle.rules.specs.Release.{release_lawful, no_release}
use Rattle.rules.specs.Refusal.{head_check, cost_check, string_check, multiple_check, many_check}
use Rattle.rules.specs.Layout.{Layout, Version, frame_size, kind_in, version_in, has_field, field_in, version01, held_to}
use Rattle.rules.specs.Layout.{header_frame, string_frame, release_frame, Number, Count, Common, Run, X, T, C, D, Own, Late, Place, Day, Need, Due}

-- ---- Lines

pub record Line : Type 0 where
  pub bytes : List ℕ
  pub ended : Bool

-- a byte put in front of what the lines hold
unfoldable pub before : ℕ → List Line → List Line
before b [] = record { bytes = b ∷ []; ended = false } ∷ []
before b (line ∷ lines) = record { bytes = b ∷ line.bytes; ended = line.ended } ∷ lines

unfoldable pub lines_of : List ℕ → List Line
lines_of [] = []
lines_of (b ∷ bs) = cond (eqb b 0x0a) (record { bytes = []; ended = true } ∷ lines_of bs) (before b (lines_of bs))

-- ---- Digits and frames

-- 0 to 9 are the bytes 30 to 39, a to f the bytes 61 to 66
unfoldable pub digit_of : ℕ → ℕ
digit_of b = cond (in_bounds 0x30 b 0x39) (b - 0x30) (cond (in_bounds 0x61 b 0x66) (b - 0x57) 16)

unfoldable pub well_formed : Line → Bool
well_formed line =
    line.ended
    && ltb 0 (length line.bytes)
    && eqb (length line.bytes % 2) 0
    && every (λ b. ltb (digit_of b) 16) line.bytes

unfoldable pub hex_bytes : List ℕ → List ℕ
hex_bytes [] = []
hex_bytes (high ∷ []) = []
hex_bytes (high ∷ low ∷ bs) = (digit_of high * 16 + digit_of low) ∷ hex_bytes bs

unfoldable pub frame_of : Line → List ℕ
frame_of line = hex_bytes line.bytes

unfoldable pub field_of : {F : Type 0} → Layout F → F → Line → ℕ
field_of l f line = field_in l f (frame_of line)

abbrev pub no_plan : Plan
no_plan = record { n = 0; run = days 0; strings = replicate 10 no_string }

abbrev pub no_releases : Releases
no_releases = record { count = 0; list = replicate 1000 no_release }

pub record Reading : Type 0 where
  pub checked : Checked
  pub plan : Plan
  pub releases : Releases

abbrev pub refused_reading : Fault → ℕ → Reading
refused_reading f at = record { checked = Refused f at; plan = no_plan; releases = no_releases }

-- 2, then 3 for the kind and the size of a frame; k is the number of the line
unfoldable pub frame_check : ℕ → ℕ → ℕ → Line → Checked
frame_check k kind size line =
    then (refuse_if (not (well_formed line)) LineMalformed k)
    (refuse_if (not (eqb (length (frame_of line)) size && eqb (kind_in (frame_of line)) kind)) FrameWrong k)

abbrev pub layout_check : {F : Type 0} → ℕ → Layout F → Line → Checked
layout_check k l line = frame_check k l.kind (frame_size l) line

module _ (v : Version) where
  -- ---- What lines say

  unfoldable pub n_in : Line → ℕ
  n_in line = field_of (header_frame v) Count line

  unfoldable pub run_in : Line → ℕ
  run_in line = field_of (header_frame v) Run line

  -- A, the moving cost that the header says; 0 where it says none
  unfoldable pub a_in : Line → ℕ
  a_in line = field_of (header_frame v) Common line

  unfoldable pub cost_of : Line → Line → ℕ
  cost_of header line = cond (has_field (header_frame v) Common) (a_in header) (field_of (string_frame v) Own line)

  unfoldable pub string_of : Line → Line → BatteryString
  string_of header line =
      record {
        t = days (field_of (string_frame v) T line);
        c = days (field_of (string_frame v) C line);
        d = days (field_of (string_frame v) D line);
        x = field_of (string_frame v) X line;
        a = days (cost_of header line);
        j = days (field_of (string_frame v) Late line);
      }

  unfoldable pub due_in : Line → ℕ
  due_in line = cond (has_field (release_frame v) Due) (field_of (release_frame v) Due line) (field_of (release_frame v) Day line)

  unfoldable pub release_of : Line → Release
  release_of line =
      record {
        day = day (field_of (release_frame v) Day line);
        place = field_of (release_frame v) Place line;
        need = days (field_of (release_frame v) Need line);
        due = day (due_in line);
      }

  unfoldable pub plan_in : List Line → Plan
  plan_in [] = no_plan
  plan_in (header ∷ lines) =
      record {
        n = n_in header;
        run = days (run_in header);
        strings = filled 10 no_string (map (string_of header) (take (n_in header) lines));
      }

  unfoldable pub list_in : List Line → Releases
  list_in [] = no_releases
  list_in (header ∷ lines) =
      let rs = map release_of (drop (n_in header) lines) in
      record { count = length rs; list = filled 1000 no_release rs }

  -- ---- The order of faults

  unfoldable pub version_check : Line → Checked
  version_check line = refuse_if (not (eqb (field_of (header_frame v) Number line) v.number)) FrameWrong 1

  unfoldable pub header_check : Line → Checked
  header_check line =
      then (layout_check 1 (header_frame v) line)
      (then (version_check line) (then (head_check 1 (n_in line) (run_in line)) (cost_check 1 (a_in line))))

  unfoldable pub string_line_check : Line → ℕ → Line → Checked
  string_line_check header k line = then (layout_check k (string_frame v) line) (string_check k (string_of header line))

  -- m strings are still to come
  unfoldable pub string_lines_check : Line → ℕ → ℕ → List Line → Checked
  string_lines_check header k zero lines = Lawful
  string_lines_check header k (suc m) [] = Refused FrameWrong k
  string_lines_check header k (suc m) (line ∷ lines) =
      let later = string_lines_check header (suc k) m lines in
      then (string_line_check header k line) later

  -- the line writes the j-th release; those seen stand ahead of it, the latest first
  unfoldable pub release_line_check : Plan → ℕ → ℕ → List Release → Line → Checked
  release_line_check p k j seen line =
      then (layout_check k (release_frame v) line)
      (then (many_check k j) (refuse_if (not (release_lawful p seen (release_of line))) ReleaseUnlawful k))

  unfoldable pub release_lines_check : Plan → ℕ → ℕ → List Release → List Line → Checked
  release_lines_check p k j seen [] = Lawful
  release_lines_check p k j seen (line ∷ lines) =
      let later = release_lines_check p (suc k) (suc j) (release_of line ∷ seen) lines in
      then (release_line_check p k j seen line) later

  -- the lines after the header: strings, then 6 at the last of them, then releases
  unfoldable pub body_check : Line → Plan → List Line → Checked
  body_check header p lines =
      let releases = release_lines_check p (p.n + 2) 1 [] (drop p.n lines) in
      let rest = then (multiple_check (p.n + 1) p) releases in
      then (string_lines_check header 2 p.n lines) rest

  unfoldable pub lines_check : List Line → Checked
  lines_check [] = Refused FrameWrong 1
  lines_check (header ∷ lines) =
      let body = body_check header (plan_in (header ∷ lines)) lines in
      then (header_check header) body

  unfoldable pub text_check : List ℕ → Checked
  text_check text =
      let lines = lines_check (lines_of text) in
      then (refuse_if (ltb 65536 (length text)) TextTooLong 0) lines

  unfoldable pub lawful_reading : Checked → List Line → Reading
  lawful_reading c lines = or_refused refused_reading c (record { checked = Lawful; plan = plan_in lines; releases = list_in lines })

-- ---- Reading

unfoldable pub reading_in : Version → List ℕ → Reading
reading_in v text = lawful_reading v (text_check v text) (lines_of text)

-- a text without a line is refused by any version
unfoldable pub version_of : List Line → Version
version_of [] = version01
version_of (header ∷ lines) = held_to (version_in (frame_of header))

unfoldable pub reading_of : List ℕ → Reading
reading_of text = reading_in (version_of (lines_of text)) text

-- what is answered: the plan and the releases where nothing is found, else the refusal
abbrev pub said_in : Reading → Result PlanFile Refusal
said_in r = or_refused Refused r.checked (Ok (record { plan = r.plan; releases = r.releases }))
