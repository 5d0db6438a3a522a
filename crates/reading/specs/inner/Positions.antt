-- For the proofs inside this crate: a text by positions, as the code walks it. `at` is a position, from 0.
--     is_digit b             b is a hexadecimal digit
--     digits_ahead bytes     how many hexadecimal digits stand at the head
--     lines_from text at     the lines from `at` on
--     line_at text at        the first of them; an empty line without its 0a where the text has ended
--     Frame text at size    a line of 2 × size digits starts at `at`, with its 0a
--     byte_in text at        the byte that two digits write
--     number_in text at k size    the number that size bytes write, after k bytes of the frame that starts at `at`
--     lines_at text at step n     n lines, the first at `at`, each step bytes after the one before
--     Stand text at size n  n frames of that size, one line after the other, from `at` on
--     frames_in l k room lines    of lines from number k on, how many are frames of the layout l, up to room, and the fault that ends them
--     strings_at v, releases_at v  where the string lines and the release lines of a plan of n strings start
--     HeaderRead v text, StringsRead v text p    what is known once the header, once the strings of the plan p have been read
--     said_of v c lines      what is answered where c is what the lines are refused for
--     body_said v text, rest_said v text p, list_said v text p    what is answered from the strings, from H, from the releases on
use Rattle.std.specs.Prelude.{ℕ, zero, suc, ◌+◌, ◌*◌, ◌≤◌, ◌<◌, ◌≡◌, Result, Ok, Bool, false, cond, List, [], ◌∷◌, map, ltb, length, get_or, take, drop}
use Rattle.faults.specs.Checks.{Refused, Lawful, Checked}
use Rattle.faults.specs.declared.Fault.TheVariants.{ReleaseTooMany}
use Rattle.faults.specs.Checks.{then, or_refused}
use Rattle.base.specs.Count.{filled}
use Rattle.rules.specs.declared.Plan.{Plan}
use Rattle.rules.specs.declared.Releases.{Releases}
use Rattle.rules.specs.declared.PlanFile.{PlanFile}
use Rattle.faults.specs.declared.Refusal.{Refusal}
use Rattle.rules.specs.Release.{no_release}
use Rattle.rules.specs.Refusal.{head_check, cost_check, multiple_check}
use Rattle.rules.specs.Layout.{Layout, Version, frame_size, line_length, number_of, line_size, header_frame, string_frame, release_frame}
use Rattle.rules.specs.Text.{Line, lines_of, digit_of, hex_bytes, n_in, a_in, run_in, release_of, plan_in, list_in, version_check, layout_check}
use Rattle.rules.specs.Text.{string_lines_check, release_lines_check, body_check}
use Rattle.reading.specs.declared.Framed.{Framed}

-- ---- Lines

abbrev pub is_digit : ℕ → Bool
is_digit b = ltb (digit_of b) 16

unfoldable pub digits_ahead : List ℕ → ℕ
digits_ahead [] = 0
digits_ahead (b ∷ bs) = cond (is_digit b) (suc (digits_ahead bs)) 0

abbrev pub head_line : List Line → Line
head_line [] = record { bytes = []; ended = false }
head_line (line ∷ lines) = line

abbrev pub lines_from : List ℕ → ℕ → List Line
lines_from text at = lines_of (drop at text)

unfoldable pub line_at : List ℕ → ℕ → Line
line_at text at = head_line (lines_from text at)

unfoldable pub lines_at : List ℕ → ℕ → ℕ → ℕ → List Line
lines_at text at step zero = []
lines_at text at step (suc n) = line_at text at ∷ lines_at text (at + step) step n

-- ---- Frames

-- what the code knows of a line that was not refused
pub record Frame (text : List ℕ) (at size : ℕ) : Type 0 where
  pub digits : digits_ahead (drop at text) ≡ size * 2
  pub inside : at + size * 2 < length text
  pub newline : get_or text (at + size * 2) 0 ≡ 0x0a

pub record Stand (text : List ℕ) (at size n : ℕ) : Type 0 where
  pub each : (i : ℕ) → i < n → Frame text (at + i * line_length size) size
  pub inside : at + n * line_length size ≤ length text
  pub first : take n (lines_from text at) ≡ lines_at text at (line_length size) n
  pub rest : drop n (lines_from text at) ≡ lines_from text (at + n * line_length size)

abbrev pub byte_in : List ℕ → ℕ → ℕ
byte_in text at = digit_of (get_or text at 0) * 16 + digit_of (get_or text (at + 1) 0)

unfoldable pub number_in : List ℕ → ℕ → ℕ → ℕ → ℕ
number_in text at k size = number_of (take size (drop k (hex_bytes (drop at text))))

-- ---- Release frames

-- a refused line ends the frames
abbrev pub framed_or : Checked → Framed → Framed
framed_or = or_refused (λ f at. record { count = 0; checked = Refused f at })

abbrev pub one_more : Framed → Framed
one_more later = record { count = suc later.count; checked = later.checked }

unfoldable pub frames_in : {F : Type 0} → Layout F → ℕ → ℕ → List Line → Framed
frames_in l k room [] = record { count = 0; checked = Lawful }
frames_in l k zero (line ∷ lines) =
    framed_or (layout_check k l line) (record { count = 0; checked = Refused ReleaseTooMany k })
frames_in l k (suc room) (line ∷ lines) =
    framed_or (layout_check k l line) (one_more (frames_in l (suc k) room lines))

-- ---- What is known after each part of the text

module _ (v : Version) where
  abbrev pub strings_at : ℕ
  strings_at = line_size (header_frame v)

  abbrev pub releases_at : ℕ → ℕ
  releases_at n = strings_at + n * line_size (string_frame v)

  -- the faults of a header that is a frame
  abbrev pub header_numbers : Line → Checked
  header_numbers line = then (version_check v line) (then (head_check 1 (n_in v line) (run_in v line)) (cost_check 1 (a_in v line)))

  -- the first line is a lawful header
  pub record HeaderRead (text : List ℕ) : Type 0 where
    pub frame : Frame text 0 (frame_size (header_frame v))
    pub head : head_check 1 (n_in v (line_at text 0)) (run_in v (line_at text 0)) ≡ Lawful

  -- the string lines are lawful too, and p is the plan
  pub record StringsRead (text : List ℕ) (p : Plan) : Type 0 where
    pub header : HeaderRead text
    pub plan : p ≡ plan_in v (lines_of text)
    pub strings : string_lines_check v (line_at text 0) 2 p.n (lines_from text strings_at) ≡ Lawful

  abbrev pub said_of : Checked → List Line → Result PlanFile Refusal
  said_of c lines = then c (Ok (record { plan = plan_in v lines; releases = list_in v lines }))

  unfoldable pub body_said : List ℕ → Result PlanFile Refusal
  body_said text = said_of (body_check v (line_at text 0) (plan_in v (lines_of text)) (lines_from text strings_at)) (lines_of text)

  unfoldable pub list_check : List ℕ → Plan → Checked
  list_check text p = release_lines_check v p (p.n + 2) 1 [] (lines_from text (releases_at p.n))

  unfoldable pub list_said : List ℕ → Plan → Result PlanFile Refusal
  list_said text p = said_of (list_check text p) (lines_of text)

  unfoldable pub rest_said : List ℕ → Plan → Result PlanFile Refusal
  rest_said text p = then (multiple_check (p.n + 1) p) (list_said text p)

  -- the releases that n lines from `at` on write, as the code stores them
  unfoldable pub release_list : List ℕ → ℕ → ℕ → Releases
  release_list text at n =
      record { count = n; list = filled 1000 no_release (map (release_of v) (lines_at text at (line_size (release_frame v)) n)) }
