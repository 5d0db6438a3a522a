-- The lines of a visit text, taken one after the other: what is decided at each.
use Rattle.base.proofs.Prelude.{ℕ, ◌+◌, ◌-◌, ◌≤◌, ◌<◌, ◌≡◌, refl, sym, ap, ◌∙◌, subst, true, false, List, [], ◌∷◌, map, arith, add-one, lt-ltb, le-ltb, length, length-drop, drop, drop-drop, drop_of_length-le}
use Rattle.std.specs.Prelude.{Result, Ok, Err, Some, None}
use Rattle.std.specs.Result.{is_ok}
use Rattle.faults.specs.Checks.{Refused, Lawful, Checked, or_refused}
use Rattle.faults.proofs.Checks.{by-checked}
use Rattle.faults.specs.declared.Refusal.{Refusal}
use Rattle.faults.specs.declared.Fault.{Fault}
use Rattle.faults.specs.declared.Fault.TheVariants.{TextTooLong, RowMalformed}
use Rattle.rules.specs.{declared.Plan.Plan, declared.Releases.Releases, Refusal.run_check, declared.PlanFile.PlanFile, Text.{Line, lines_of, Reading, reading_of, said_in}}
use Rattle.visits.specs.{declared.Visit.Visit, declared.book.Book.Book, Visits.visits_check, Texts.{visit_said, visit_formed, visit_in, visit_lines_check, visit_text_check, visit_files_check}, inner.{Book.{kept_check, book_after, sums_by, Fit, BeforeFirst}, Lines.lines_answer}}
use Rattle.register.specs.{declared.LineRead.LineRead, Reader.{line_long, line_read_at}}
use Rattle.register.proofs.Walk.{first_line, first_some, next-within, next-lines, read-formed, read-unformed}
use Rattle.visits.proofs.Reached.{Reached, going, far-start, reached-next, reached-broken, reached-fit, reached-lawful, reached-refused}

-- ---- Line by line

module _ (p : Plan) (rs : Releases) (lines : List Line) where
  pub formed-refused : (f : Fault) (at : ℕ) → visit_lines_check 1 lines ≡ Refused f at → Refused f at ≡ lines_answer p rs lines
  unfolding lines_answer
  formed-refused f at e = rw e

  pub lines-formed : visit_lines_check 1 lines ≡ Lawful → visits_check p rs (map visit_in lines) ≡ lines_answer p rs lines
  unfolding lines_answer
  lines-formed e = rw e

  module _ (n : ℕ) (line : Line) (rest : List Line) (here : drop n lines ≡ line ∷ rest)
      (same : visit_lines_check 1 lines ≡ visit_lines_check (n + 1) (drop n lines))
    where
      pub no-visit : visit_formed line ≡ false → Refused RowMalformed (n + 1) ≡ lines_answer p rs lines
      unfolding visit_lines_check
      no-visit e = formed-refused RowMalformed (n + 1) (same ∙ rw (here, e))

      pub lines-later : drop (n + 1) lines ≡ rest
      lines-later = sym (drop-drop 1 n lines) ∙ ap (drop 1) here

      pub formed-next : visit_formed line ≡ true → visit_lines_check 1 lines ≡ visit_lines_check (n + 1 + 1) (drop (n + 1) lines)
      unfolding visit_lines_check
      formed-next t = same ∙ rw (here, lines-later, add-one (n + 1), t)

      -- the visit that it says is one record more of the list: it is looked at where none before it broke a rule
      here-visits : (broken : Checked) (book : Book) → Reached p rs (map visit_in lines) n (map visit_in (drop n lines)) broken book
          → Reached p rs (map visit_in lines) n (visit_in line ∷ map visit_in rest) broken book
      here-visits broken book far = subst (λ ls. Reached p rs (map visit_in lines) n (map visit_in ls) broken book) here far

      pub reached-line : (broken after : Checked) (book written : Book) (v : Visit) → v ≡ visit_in line → is_ok broken ≡ true
          → after ≡ kept_check book v (n + 1) → written ≡ book_after book v
          → Reached p rs (map visit_in lines) n (map visit_in (drop n lines)) broken book
          → Reached p rs (map visit_in lines) (n + 1) (map visit_in (drop (n + 1) lines)) after written
      reached-line broken after book written v is ok said wrote far =
          let one = reached-next p rs (map visit_in lines) n (visit_in line) (map visit_in rest) book broken ok
          (here-visits broken book far) in
          rw (said, wrote, is, lines-later) one

      pub reached-past : (broken : Checked) (book : Book) → is_ok broken ≡ false
          → Reached p rs (map visit_in lines) n (map visit_in (drop n lines)) broken book
          → Reached p rs (map visit_in lines) (n + 1) (map visit_in (drop (n + 1) lines)) broken book
      reached-past broken book ill far =
          let one = reached-broken p rs (map visit_in lines) n (visit_in line) (map visit_in rest) book broken ill
          (here-visits broken book far) in
          rw lines-later one

-- ---- The text, and the plan's file ahead of it

module _ (p : Plan) (rs : Releases) (text : List ℕ) where
  pub text-refused : (e : Refusal) → run_check p rs ≡ Err e → Err e ≡ visit_text_check p rs text
  unfolding visit_text_check
  text-refused e h = rw h

  module _ (run : run_check p rs ≡ Lawful) where
    pub text-over : 65536 < length text → Refused TextTooLong 0 ≡ visit_text_check p rs text
    unfolding visit_text_check
    text-over h = rw (run, lt-ltb 65536 (length text) h)

    pub text-lines : length text ≤ 65536 → lines_answer p rs (lines_of text) ≡ visit_text_check p rs text
    unfolding visit_text_check lines_answer visits_check
    text-lines h = rw (run, le-ltb 65536 (length text) h)

module _ (plan text : List ℕ) where
  abbrev read : Reading
  read = reading_of plan

  -- what reading gives, by its check
  by-check : (c : Checked) → read.checked ≡ c → said_in read ≡ or_refused {A = Result PlanFile Refusal} Refused c (Ok (record {
    plan = read.plan;
    releases = read.releases;
  }))
  by-check c h = ap (λ k. or_refused {A = Result PlanFile Refusal} Refused k (Ok (record { plan = read.plan; releases = read.releases }))) h

  pub files-refused : (e : Refusal) → Err e ≡ said_in read → Err e ≡ visit_files_check plan text
  unfolding visit_files_check
  files-refused e said =
      by-checked read.checked
      (λ h. absurd (never e _ (said ∙ by-check Lawful h)))
      (λ f at h. rw h (same e f at (said ∙ by-check (Refused f at) h)))
    where
      never : (e : Refusal) (file : PlanFile) → ◌≡◌ {A = Result PlanFile Refusal} (Err e) (Ok file) → ⊥
      never e file h = cc

      same : (e : Refusal) (f : Fault) (at : ℕ) → ◌≡◌ {A = Result PlanFile Refusal} (Err e) (Refused f at)
          → ◌≡◌ {A = Checked} (Err e) (Refused f at)
      same e f at h =
          let is : e ≡ record { fault = f; at = at } = cc in
          rw is

  pub files-said : (file : PlanFile) → Ok file ≡ said_in read → visit_text_check file.plan file.releases text ≡ visit_files_check plan text
  unfolding visit_files_check
  files-said file said =
      by-checked read.checked
      (λ h.
      let is = same file _ (said ∙ by-check Lawful h) in
      rw (h, is))
      (λ f at h. absurd (never file (record { fault = f; at = at }) (said ∙ by-check (Refused f at) h)))
    where
      never : (file : PlanFile) (e : Refusal) → ◌≡◌ {A = Result PlanFile Refusal} (Ok file) (Err e) → ⊥
      never file e h = cc

      same : (file other : PlanFile) → ◌≡◌ {A = Result PlanFile Refusal} (Ok file) (Ok other) → file ≡ other
      same file other h = cc

-- ---- How far a text has been read: the lines from here on are those of what stands from here on, those before are formed, and the list
-- that all lines say has been checked as far as they go

pub record Walked (p : Plan) (rs : Releases) (text : List ℕ) (line at : ℕ) (broken : Checked) (book : Book) : Type 0 where
  pub few : line ≤ at
  pub inside : at ≤ length text
  pub rest : drop line (lines_of text) ≡ lines_of (drop at text)
  pub same : visit_lines_check 1 (lines_of text) ≡ visit_lines_check (line + 1) (drop line (lines_of text))
  pub reached : Reached p rs (map visit_in (lines_of text)) line (map visit_in (drop line (lines_of text))) broken book

module _ (p : Plan) (rs : Releases) (text : List ℕ) where
  pub walked-start : (book : Book) → length rs.list ≡ 1000 → BeforeFirst p rs book → Walked p rs text 0 0 Lawful book
  walked-start book thousand o =
      record {
        few = omega arith;
        inside = omega arith;
        rest = refl;
        same = refl;
        reached = going refl (far-start p rs (map visit_in (lines_of text)) book thousand o);
      }

  module _ (line at : ℕ) (broken : Checked) (book : Book) (w : Walked p rs text line at broken book) where
    abbrev lines : List Line
    lines = lines_of text

    pub walked-fit : is_ok broken ≡ true → Fit book
    walked-fit ok = reached-fit p rs (map visit_in lines) line (map visit_in (drop line lines)) broken book ok w.reached

    -- ---- At the end of the text

    module _ (over : length text ≤ at) where
      none-left : drop line lines ≡ []
      unfolding lines_of
      none-left = w.rest ∙ ap lines_of (drop_of_length-le text over)

      all-formed : visits_check p rs (map visit_in lines) ≡ lines_answer p rs lines
      unfolding visit_lines_check
      all-formed = lines-formed p rs lines (w.same ∙ ap (visit_lines_check (line + 1)) none-left)

      at-end : Reached p rs (map visit_in lines) line [] broken book
      at-end = subst (λ ls. Reached p rs (map visit_in lines) line (map visit_in ls) broken book) none-left w.reached

      pub walked-kept : broken ≡ Lawful → sums_by book ≡ lines_answer p rs lines
      walked-kept none = reached-lawful p rs (map visit_in lines) line broken book none at-end ∙ all-formed

      pub walked-broken : (e : Refusal) → broken ≡ Err e → Err e ≡ lines_answer p rs lines
      walked-broken e some = reached-refused p rs (map visit_in lines) line [] broken book e some at-end ∙ all-formed

    -- ---- A line more

    module _ (inside : at < length text) (read : LineRead (List ℕ)) (is : read ≡ line_read_at 3 7 text at) where
      abbrev this : Line
      this = first_line (drop at text)

      stood : drop line lines ≡ this ∷ lines_of (drop (at + line_long this) text)
      stood = w.rest ∙ next-lines text at inside

      longer : 1 ≤ line_long this
      longer = first_some (drop at text) (omega (arith, length-drop at text))

      pub walked-no-visit : read.numbers ≡ None → Refused RowMalformed (line + 1) ≡ lines_answer p rs lines
      walked-no-visit none = no-visit p rs lines line this _ stood w.same (read-unformed text at inside 3 7 read is none).0

      module _ (ns : List ℕ) (some : read.numbers ≡ Some ns) where
        formed : visit_formed this ≡ true
        formed = (read-formed text at inside 3 7 read is ns some).0

        next-is : read.next ≡ at + line_long this
        next-is = (read-formed text at inside 3 7 read is ns some).2

        said-is : visit_said ns ≡ visit_in this
        unfolding visit_in
        said-is = ap visit_said (read-formed text at inside 3 7 read is ns some).1

        pub walked-smaller : length text - read.next < length text - at
        walked-smaller = omega (arith, next-is, longer, inside)

        walked-on : (after : Checked) (written : Book)
            → Reached p rs (map visit_in lines) (line + 1) (map visit_in (drop (line + 1) lines)) after written
            → Walked p rs text (line + 1) read.next after written
        walked-on after written reached =
            record {
              few = omega (arith, w.few, next-is, longer);
              inside = omega (arith, next-is, next-within text at inside);
              rest = lines-later p rs lines line this _ stood w.same ∙ ap (λ j. lines_of (drop j text)) (sym next-is);
              same = formed-next p rs lines line this _ stood w.same formed;
              reached = reached;
            }

        pub walked-visited : (after : Checked) (written : Book) (v : Visit) → v ≡ visit_said ns → is_ok broken ≡ true
            → after ≡ kept_check book v (line + 1) → written ≡ book_after book v → Walked p rs text (line + 1) read.next after written
        walked-visited after written v visit ok said wrote =
            walked-on after written
            (reached-line p rs lines line this _ stood w.same broken after book written v (visit ∙ said-is) ok said wrote w.reached)

        pub walked-past : is_ok broken ≡ false → Walked p rs text (line + 1) read.next broken book
        walked-past ill =
            walked-on broken book (reached-past p rs lines line this _ stood w.same broken book ill w.reached)
