-- The whole text: its parts, read one after the other, decide as the definition does.
use Rattle.base.proofs.Prelude.{ℕ, ◌+◌, ◌-◌, ◌≤◌, ◌<◌, ◌≡◌, refl, sym, ap, ◌∙◌, List, ◌∷◌, map, arith, lt-ltb, le-ltb, length, length-map, take_at, take_all}
use Rattle.faults.specs.Checks.{Refused, Lawful, Checked}
use Rattle.faults.specs.declared.Refusal.{Refusal}
use Rattle.std.specs.Prelude.{Result, Ok, Err}
use Rattle.days.specs.Days.{days}
use Rattle.faults.specs.declared.Fault.{Fault}
use Rattle.faults.specs.declared.Fault.TheVariants.{TextTooLong, FrameWrong, ReleaseUnlawful}
use Rattle.faults.specs.Checks.{then}
use Rattle.faults.proofs.Checks.{then-first, then-second, then-lawful}
use Rattle.base.specs.Count.{filled}
use Rattle.rules.specs.{declared.BatteryString.BatteryString, declared.Plan.Plan, Plan.no_string, Refusal.{head_check, cost_check, multiple_check}, Release.{releases_of, first_unlawful}, Layout.{Version, frame_size, line_size, header_frame, string_frame, release_frame}, Text.{Line, lines_of, n_in, a_in, run_in, string_of, release_of, plan_in, list_in, version_check, header_check, layout_check, string_lines_check, body_check, lines_check, text_check, lawful_reading, reading_in, said_in}}
use Rattle.laws.proofs.{Lawful.head_check-lawful, Releases.first_unlawful-le}
use Rattle.reading.specs.{declared.Framed.Framed, inner.Positions.{lines_from, line_at, lines_at, Frame, Stand, frames_in, header_numbers, strings_at, releases_at, HeaderRead, StringsRead, said_of, body_said, list_check, list_said, rest_said, release_list}}
use Rattle.reading.proofs.{Lines.{line-here, lines_none}, Framing.{frame_check-frame, frame-next}, Standing.lines_at-length, StringLines.strings-stand, ReleaseLines.{frames-few, frames-all, frames-stand, decided, release_lines-decided}}

-- checks one after the other
then-then : {A : Type 0} (a b : Checked) (x : Result A Refusal) → then (then a b) x ≡ then a (then b x)
then-then (Ok _) b x = refl
then-then (Err e) b x = refl

module _ (v : Version) (text : List ℕ) where
  -- ---- The header

  header-next : Frame text 0 (frame_size (header_frame v)) → lines_of text ≡ line_at text 0 ∷ lines_from text (strings_at v)
  header-next f =
      let here : 0 + strings_at v ≡ strings_at v = omega arith in
      frame-next text 0 (frame_size (header_frame v)) f ∙ rw here

  pub header_read : header_check v (line_at text 0) ≡ Lawful → HeaderRead v text
  unfolding header_check
  header_read h =
      let line = line_at text 0 in
      let frame = layout_check 1 (header_frame v) line in
      let head = head_check 1 (n_in v line) (run_in v line) in
      let cost = cost_check 1 (a_in v line) in
      record {
        frame = frame_check-frame text 0 1 (header_frame v).kind (frame_size (header_frame v)) (then-first frame (header_numbers v line) h);
        head = then-first head cost (then-second (version_check v line) (then head cost) (then-second frame (header_numbers v line) h));
      }

  pub plan-said : (start n : ℕ) → Frame text 0 (frame_size (header_frame v)) → start ≡ strings_at v → n ≡ n_in v (line_at text 0)
      → Stand text start (frame_size (string_frame v)) n → (run : ℕ) (strings : List BatteryString) → run ≡ run_in v (line_at text 0)
      → strings ≡ filled 10 no_string (map (string_of v (line_at text 0)) (lines_at text start (line_size (string_frame v)) n))
      → record { n = n; run = days run; strings = strings } ≡ plan_in v (lines_of text)
  unfolding plan_in
  plan-said start n f here count s run strings runs listed = rw (runs, listed, header-next f, ← here, ← count, s.first)

  module _ (h : HeaderRead v text) where
    pub header-few : n_in v (line_at text 0) ≤ 10
    header-few = (head_check-lawful 1 _ _ h.head).n_max

    pub header-inside : strings_at v ≤ length text
    header-inside = omega (arith, h.frame.inside)

    plan-n : (plan_in v (lines_of text)).n ≡ n_in v (line_at text 0)
    unfolding plan_in
    plan-n = rw (header-next h.frame)

    pub body_refused : (f : Fault) (a : ℕ)
        → string_lines_check v (line_at text 0) 2 (n_in v (line_at text 0)) (lines_from text (strings_at v)) ≡ Refused f a
        → body_said v text ≡ Refused f a
    unfolding body_said body_check
    body_refused f a e = rw (plan-n, e)

  -- ---- The strings

  pub planned : (p : Plan) → HeaderRead v text → p ≡ plan_in v (lines_of text) → (n : ℕ) → n ≡ n_in v (line_at text 0)
      → string_lines_check v (line_at text 0) 2 n (lines_from text (strings_at v)) ≡ Lawful → StringsRead v text p
  planned p h e n count lawful =
      let same : p.n ≡ n = ap (λ (q : Plan). q.n) e ∙ plan-n h ∙ sym count in
      record { header = h; plan = e; strings = rw same lawful }

  module _ (p : Plan) (s : StringsRead v text p) where
    strings-n : p.n ≡ n_in v (line_at text 0)
    strings-n = ap (λ (q : Plan). q.n) s.plan ∙ plan-n s.header

    pub strings-few : p.n ≤ 10
    strings-few = omega (arith, strings-n, header-few s.header)

    standing : Stand text (strings_at v) (frame_size (string_frame v)) p.n
    standing = strings-stand v (line_at text 0) text (strings_at v) 2 p.n (header-inside s.header) s.strings

    pub body-rest : body_said v text ≡ rest_said v text p
    unfolding body_said rest_said list_said list_check body_check
    body-rest =
        ap (λ c. said_of v c (lines_of text)) (rw (← s.plan, standing.rest) (then-lawful _ _ s.strings))
        ∙ then-then (multiple_check (p.n + 1) p) _ _

    -- ---- The releases: where they start, the frames among their lines, and what these write

    abbrev pub start : ℕ
    start = releases_at v p.n

    abbrev pub framed : Framed
    framed = frames_in (release_frame v) (p.n + 2) 1000 (lines_from text start)

    abbrev pub unlawful : ℕ
    unlawful = first_unlawful p (releases_of (release_list v text start framed.count))

    pub start-inside : start ≤ length text
    start-inside = standing.inside

    pub framed-few : framed.count ≤ 1000
    framed-few = frames-few (release_frame v) (lines_from text start) (p.n + 2) 1000

    pub framed-stand : Stand text start (frame_size (release_frame v)) framed.count
    framed-stand = frames-stand (release_frame v) text (lines_from text start) start (p.n + 2) 1000 refl start-inside

    written : List Line
    written = lines_at text start (line_size (release_frame v)) framed.count

    many : length (map (release_of v) written) ≡ framed.count
    unfolding written
    many = length-map written (release_of v) ∙ lines_at-length text (line_size (release_frame v)) start framed.count

    list_of : releases_of (release_list v text start framed.count) ≡ map (release_of v) written
    unfolding release_list written
    list_of = take_at (map (release_of v) written) _ framed.count many

    pub unlawful-few : unlawful ≤ 1001
    unlawful-few =
        let listed = first_unlawful-le p (releases_of (release_list v text start framed.count)) in
        omega (arith, listed, ap length list_of, many, framed-few)

    list-decided : list_said v text p ≡ said_of v (decided (p.n + 2) 1 unlawful framed.checked) (lines_of text)
    unfolding list_said list_check first_unlawful written
    list-decided =
        ap (λ c. said_of v c (lines_of text))
        (release_lines-decided v p (lines_from text start) (p.n + 2) 1 1000 _ (omega arith) refl ∙ rw (framed-stand.first, list_of))

    pub list-unlawful : (u : ℕ) → u ≡ unlawful → 0 < u → list_said v text p ≡ Refused ReleaseUnlawful (p.n + 1 + u)
    unfolding decided
    list-unlawful u e h =
        let line : p.n + 2 + u - 1 ≡ p.n + 1 + u = omega arith in
        list-decided ∙ rw (← e, lt-ltb 0 u h, line)

    module _ (none : 0 ≡ unlawful) where
      pub list-refused : (r : Refusal) → framed.checked ≡ Err r → list_said v text p ≡ Err r
      unfolding decided
      list-refused r e = list-decided ∙ rw (← none, e)

      releases-said : framed.checked ≡ Lawful → list_in v (lines_of text) ≡ release_list v text start framed.count
      unfolding list_in release_list written
      releases-said e =
          let count = frames-all (release_frame v) (lines_from text start) (p.n + 2) 1000 e in
          let whole = take_all framed.count (lines_from text start) (omega arith) in
          let said = ap (map (release_of v)) (sym whole ∙ framed-stand.first) in
          rw (header-next s.header.frame, ← strings-n, standing.rest, said, many)

      pub releases-lawful : framed.checked ≡ Lawful
          → list_said v text p ≡ Ok (record { plan = p; releases = release_list v text start framed.count })
      unfolding decided
      releases-lawful e = list-decided ∙ rw (← none, e, releases-said e, ← s.plan)

-- ---- The whole

module _ (v : Version) (text : List ℕ) where
  said-is : (c : Checked) (lines : List Line) → said_in (lawful_reading v c lines) ≡ said_of v c lines
  unfolding lawful_reading
  said-is (Ok _) lines = refl
  said-is (Err e) lines = refl

  whole-said : said_in (reading_in v text) ≡ said_of v (text_check v text) (lines_of text)
  unfolding reading_in
  whole-said = said-is (text_check v text) (lines_of text)

  pub read-long : 65536 < length text → said_in (reading_in v text) ≡ Refused TextTooLong 0
  unfolding text_check
  read-long h = whole-said ∙ rw (lt-ltb 65536 (length text) h)

  module _ (fits : length text ≤ 65536) where
    pub read-empty : length text ≡ 0 → said_in (reading_in v text) ≡ Refused FrameWrong 1
    unfolding text_check lines_check
    read-empty none = whole-said ∙ rw (le-ltb 65536 (length text) fits, lines_none text 0 (omega arith))

    pub read-refused : 0 < length text → (r : Refusal) → header_check v (line_at text 0) ≡ Err r → said_in (reading_in v text) ≡ Err r
    unfolding text_check lines_check
    read-refused some r e = whole-said ∙ rw (le-ltb 65536 (length text) fits, (line-here text 0 some).1, e)

    pub read-body : header_check v (line_at text 0) ≡ Lawful → said_in (reading_in v text) ≡ body_said v text
    unfolding text_check lines_check body_said
    read-body e =
        whole-said
        ∙ ap (λ c. said_of v c (lines_of text))
        (rw (le-ltb 65536 (length text) fits, header-next v text (header_read v text e).frame) (then-lawful _ _ e))
