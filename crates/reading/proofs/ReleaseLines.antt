-- The release lines: frames first, then the releases that they write. Together these decide as line after line does.
--     decided k j u end     the answer, where u is the place of the first unlawful release (0: none), the line of the release j has
--                           number k, and `end` is what ended the frames
use Rattle.base.proofs.Prelude.{ℕ, zero, suc, ◌+◌, ◌-◌, ◌*◌, ◌≤◌, ◌<◌, ◌≡◌, refl, sym, ap, ◌∙◌, cond, List, [], ◌∷◌, map, arith, add-one, suc-mul, le_refl, lt-ltb, le-ltb, ltb-true, ltb-false, ltb, length, take}
use Rattle.faults.specs.Checks.{Refused, Lawful, Checked}
use Rattle.faults.specs.Checks.{then}
use Rattle.faults.specs.declared.Refusal.{Refusal}
use Rattle.std.specs.Prelude.{Ok, Err}
use Rattle.rules.specs.Refusal.{many_check}
use Rattle.reading.specs.declared.Framed.{Framed}
use mathlib.Core.List.{tail-eq_of_cons-eq}
use Rattle.faults.specs.declared.Fault.{Fault}
use Rattle.faults.specs.declared.Fault.TheVariants.{ReleaseTooMany, ReleaseUnlawful}
use Rattle.faults.proofs.Checks.{by-checked, refused-not-lawful, err-not-ok, then-first, then-second}
use Rattle.base.proofs.Lists.{by_bool}
use Rattle.rules.specs.{declared.Plan.Plan, declared.Release.Release, Release.{release_lawful, unlawful_from}, Layout.{Layout, ReleaseField, Version, frame_size, line_size, release_frame}, Text.{Line, release_of, release_line_check, release_lines_check, layout_check}}
use Rattle.reading.specs.inner.Positions.{head_line, lines_from, line_at, Stand, one_more, frames_in}
use Rattle.reading.proofs.{Lines.{line-here, lines_none}, Framing.{frame_check-frame, frame-next}, Standing.{stand-none, stand-more}}

-- ---- The frames, line after line

module _ {F : Type 0} (l : Layout F) where
  frames-end : (k room : ℕ) → frames_in l k room [] ≡ record { count = 0; checked = Lawful }
  unfolding frames_in
  frames-end k room = refl

  module _ (k : ℕ) (line : Line) (lines : List Line) where
    frames-refused : (room : ℕ) (f : Fault) (a : ℕ) → layout_check k l line ≡ Refused f a
        → frames_in l k room (line ∷ lines) ≡ record { count = 0; checked = Refused f a }
    unfolding frames_in
    frames-refused zero f a e = rw e
    frames-refused (suc room) f a e = rw e

    frames-full : layout_check k l line ≡ Lawful
        → frames_in l k 0 (line ∷ lines) ≡ record { count = 0; checked = Refused ReleaseTooMany k }
    unfolding frames_in
    frames-full e = rw e

    frames-next : (room : ℕ) → layout_check k l line ≡ Lawful
        → frames_in l k (suc room) (line ∷ lines) ≡ one_more (frames_in l (suc k) room lines)
    unfolding frames_in
    frames-next room e = rw e

  pub frames-few : (lines : List Line) (k room : ℕ) → (frames_in l k room lines).count ≤ room
  frames-few [] k room = rw (frames-end k room) (omega arith)
  frames-few (line ∷ lines) k zero =
      by-checked (layout_check k l line)
      (λ e. rw (frames-full k line lines e) (le_refl 0))
      (λ f a e. rw (frames-refused k line lines 0 f a e) (le_refl 0))
  frames-few (line ∷ lines) k (suc room) =
      by-checked (layout_check k l line)
      (λ e. rw (frames-next k line lines room e) (omega (arith, frames-few lines (suc k) room)))
      (λ f a e. rw (frames-refused k line lines (suc room) f a e) (omega arith))

  -- where nothing ended the frames, every line was one
  pub frames-all : (lines : List Line) (k room : ℕ) → (frames_in l k room lines).checked ≡ Lawful
      → (frames_in l k room lines).count ≡ length lines
  frames-all [] k room h = rw (frames-end k room)
  frames-all (line ∷ lines) k zero h =
      by-checked (layout_check k l line)
      (λ e. absurd (refused-not-lawful ReleaseTooMany k (rw (frames-full k line lines e) at h)))
      (λ f a e. absurd (refused-not-lawful f a (rw (frames-refused k line lines 0 f a e) at h)))
  frames-all (line ∷ lines) k (suc room) h =
      by-checked (layout_check k l line)
      (λ e.
      let next = frames-next k line lines room e in
      rw next (ap suc (frames-all lines (suc k) room (rw next at h))))
      (λ f a e. absurd (refused-not-lawful f a (rw (frames-refused k line lines (suc room) f a e) at h)))

  -- ---- By positions of the text

  module _ (text : List ℕ) where
    module _ (at k : ℕ) where
      pub frames-none-at : (room : ℕ) → length text ≤ at → frames_in l k room (lines_from text at) ≡ record { count = 0; checked = Lawful }
      frames-none-at room h = rw (lines_none text at h) (frames-end k room)

      pub frames-refused-at : (room : ℕ) → at < length text → (f : Fault) (a : ℕ) → layout_check k l (line_at text at) ≡ Refused f a
          → frames_in l k room (lines_from text at) ≡ record { count = 0; checked = Refused f a }
      frames-refused-at room h f a e = rw (line-here text at h).1 (frames-refused k (line_at text at) _ room f a e)

      module _ (e : layout_check k l (line_at text at) ≡ Lawful) where
        pub frames-full-at : at < length text
            → frames_in l k 0 (lines_from text at) ≡ record { count = 0; checked = Refused ReleaseTooMany k }
        frames-full-at h = rw (line-here text at h).1 (frames-full k (line_at text at) _ e)

        pub frames-next-at : (room : ℕ) → frames_in l k (suc room) (lines_from text at)
            ≡ one_more (frames_in l (suc k) room (lines_from text (at + line_size l)))
        frames-next-at room =
            let frame = frame_check-frame text at k l.kind (frame_size l) e in
            rw (frame-next text at (frame_size l) frame) (frames-next k (line_at text at) _ room e)

    pub frames-stand : (lines : List Line) (at k room : ℕ) → lines_from text at ≡ lines → at ≤ length text
        → Stand text at (frame_size l) (frames_in l k room lines).count
    unfolding line_at
    frames-stand [] at k room e inside = rw (frames-end k room) (stand-none text (frame_size l) at inside)
    frames-stand (line ∷ lines) at k zero e inside =
        let none : (frames_in l k 0 (line ∷ lines)).count ≡ 0 = omega (arith, frames-few (line ∷ lines) k 0) in
        rw none (stand-none text (frame_size l) at inside)
    frames-stand (line ∷ lines) at k (suc room) e inside =
        by-checked (layout_check k l line)
        (λ good.
        let head = ap head_line e in
        let frame = frame_check-frame text at k l.kind (frame_size l) (ap (layout_check k l) head ∙ good) in
        let next = sym (tail-eq_of_cons-eq (sym e ∙ frame-next text at (frame_size l) frame)) in
        rw (frames-next k line lines room good)
        (stand-more text (frame_size l) at (frames_in l (suc k) room lines).count frame
        (frames-stand lines (at + line_size l) (suc k) room next (omega (arith, frame.inside)))))
        (λ f a bad. rw (frames-refused k line lines (suc room) f a bad) (stand-none text (frame_size l) at inside))

-- ---- What the lines from the j-th on give; each takes step bytes

-- n frames stand ahead
abbrev pub after : ℕ → Framed → Framed
after n later = record { count = n + later.count; checked = later.checked }

-- the frames end here
ended : (j : ℕ) (here : Framed) (end : Checked) → here ≡ record { count = 0; checked = end }
    → record { count = j; checked = end } ≡ after j here
ended j here end e =
    let all : j + 0 ≡ j = omega arith in
    rw (e, all)

module _ (v : Version) (text : List ℕ) (step start k : ℕ) where
  abbrev layout : Layout ReleaseField
  layout = release_frame v

  abbrev pub frames_left : ℕ → Framed
  frames_left j = frames_in layout (k + j) (1000 - j) (lines_from text (start + j * step))

  module _ (j : ℕ) where
    pub frames-over : length text ≤ start + j * step → record { count = j; checked = Lawful } ≡ after j (frames_left j)
    frames-over h = ended j _ _ (frames-none-at layout text (start + j * step) (k + j) (1000 - j) h)

    module _ (h : start + j * step < length text) (few : j ≤ 1000) where
      -- the line is no frame, or there is no room
      pub frames-stop : (e : Refusal)
          → then (layout_check (k + j) layout (line_at text (start + j * step))) (many_check (k + j) (j + 1)) ≡ Err e
          → record { count = j; checked = Err e } ≡ after j (frames_left j)
      frames-stop e bad = ended j _ _ (stop (layout_check (k + j) layout (line_at text (start + j * step))) refl)
        where
          stop : (c : Checked) → layout_check (k + j) layout (line_at text (start + j * step)) ≡ c
              → frames_left j ≡ record { count = 0; checked = Err e }
          stop (Ok _) good =
              by_bool (ltb 1000 (j + 1))
              (λ t.
              let room : 1000 - j ≡ 0 = omega (arith, ltb-true 1000 (j + 1) t) in
              let line : Refused ReleaseTooMany (k + j) ≡ Err e = rw (good, t) at bad in
              rw room (frames-full-at layout text (start + j * step) (k + j) good h ∙ ap (λ c. record { count = 0; checked = c }) line))
              (λ f. absurd (err-not-ok e tt (sym (rw (good, f) at bad))))
          stop (Err r) refused =
              let line : ◌≡◌ {A = Checked} (Err r) (Err e) = rw refused at bad in
              frames-refused-at layout text (start + j * step) (k + j) (1000 - j) h r.fault r.at refused
              ∙ ap (λ c. record { count = 0; checked = c }) line

      module _ (good : then (layout_check (k + j) layout (line_at text (start + j * step))) (many_check (k + j) (j + 1)) ≡ Lawful) where
        pub frames-frame : layout_check (k + j) layout (line_at text (start + j * step)) ≡ Lawful
        frames-frame = then-first _ _ good

        pub frames-room : j < 1000
        frames-room =
            let second = then-second (layout_check (k + j) layout (line_at text (start + j * step))) (many_check (k + j) (j + 1)) good in
            by_bool (ltb 1000 (j + 1))
            (λ t. absurd (refused-not-lawful ReleaseTooMany (k + j) (rw t at second)))
            (λ f. omega (arith, ltb-false 1000 (j + 1) f))

        pub frames-onward : step ≡ line_size layout → after (j + 1) (frames_left (j + 1)) ≡ after j (frames_left j)
        frames-onward long =
            let room : 1000 - j ≡ suc (1000 - (j + 1)) = omega (arith, frames-room) in
            let line : suc (k + j) ≡ k + (j + 1) = omega arith in
            let more : (j + 1) * step ≡ j * step + step = rw (add-one j) (suc-mul j step) in
            let there : start + j * step + line_size layout ≡ start + (j + 1) * step = omega arith in
            let count : j + suc (frames_left (j + 1)).count ≡ j + 1 + (frames_left (j + 1)).count = omega arith in
            rw (room, frames-next-at layout text (start + j * step) (k + j) frames-frame (1000 - (j + 1)), line, there, count)

-- ---- Frames first, releases afterwards

unfoldable pub decided : ℕ → ℕ → ℕ → Checked → Checked
decided k j u end = cond (ltb 0 u) (Refused ReleaseUnlawful (k + u - j)) end

decided-none : (k j : ℕ) (end : Checked) → decided k j 0 end ≡ end
unfolding decided
decided-none k j end = refl

decided-later : (k j u : ℕ) (end : Checked) → decided (suc k) (suc j) u end ≡ decided k j u end
unfolding decided
decided-later k j u end =
    let same : suc k + u - suc j ≡ k + u - j = omega arith in
    rw same

decided-here : (k j : ℕ) (end : Checked) → 1 ≤ j → decided k j j end ≡ Refused ReleaseUnlawful k
unfolding decided
decided-here k j end h =
    let here : k + j - j ≡ k = omega arith in
    rw (lt-ltb 0 j h, here)

module _ (v : Version) (p : Plan) where
  -- the first line writes the release j, and room is left for as many as make 1,000
  pub release_lines-decided : (lines : List Line) (k j room : ℕ) (seen : List Release) → 1 ≤ j → j + room ≡ 1001
      → release_lines_check v p k j seen lines
      ≡ decided k j (unlawful_from p seen j (map (release_of v) (take (frames_in (release_frame v) k room lines).count lines)))
      (frames_in (release_frame v) k room lines).checked
  unfolding release_lines_check release_line_check unlawful_from frames_in
  release_lines-decided [] k j room seen low all = sym (decided-none k j Lawful)
  release_lines-decided (line ∷ lines) k j zero seen low all =
      let many : 1000 < j = omega arith in
      by-checked (layout_check k (release_frame v) line)
      (λ e. rw (e, lt-ltb 1000 j many) (sym (decided-none k j _)))
      (λ f a e. rw e (sym (decided-none k j _)))
  release_lines-decided (line ∷ lines) k j (suc room) seen low all =
      let few : j ≤ 1000 = omega arith in
      let later = release_lines-decided lines (suc k) (suc j) room (release_of v line ∷ seen) (omega arith) (omega arith) in
      by-checked (layout_check k (release_frame v) line)
      (λ e.
      by_bool (release_lawful p seen (release_of v line))
      (λ t. rw (e, le-ltb 1000 j few, t) (later ∙ decided-later k j _ _))
      (λ n. rw (e, le-ltb 1000 j few, n) (sym (decided-here k j _ low))))
      (λ f a e. rw e (sym (decided-none k j _)))
