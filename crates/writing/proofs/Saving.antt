-- What is answered and what the page holds: a refusal of the plan, no room, or the text in its place.
use Rattle.base.proofs.Prelude.{ℕ, ltb-false, ◌+◌, ◌*◌, ◌-◌, ◌≤◌, ◌<◌, ◌≡◌, refl, sym, ap, ◌∙◌, Bool, true, false, ◌||◌, List, ◌++◌, arith, lt-ltb, le-ltb, le-leb, lt-leb, ltb, length, take, drop, length-drop, length-take-le, drop-drop, put_mid}
use Rattle.faults.specs.Checks.{Refused, Lawful, Checked, refuse_if}
use Rattle.faults.specs.declared.Refusal.{Refusal}
use Rattle.std.specs.Prelude.{Ok, Result}
use Rattle.base.specs.Count.{All}
use Rattle.base.proofs.Lists.{by_bool, all-by}
use Rattle.faults.specs.declared.Fault.{Fault}
use Rattle.faults.specs.declared.Fault.TheVariants.{NoRoom, CostsDiffer}
use Rattle.faults.proofs.Checks.{then-first, then-lawful}
use Rattle.rules.specs.{declared.Plan.Plan, declared.Releases.Releases, Plan.strings_of, Release.{releases_of, no_release}, Refusal.run_check, Layout.{Version, has_field, header_frame, Common}}
use Rattle.layouts.specs.{declared.Layouts.Layouts, inner.Versions.{layouts_for, meant_by}}
use Rattle.layouts.proofs.Versions.{header-line, header-line-short, string-line, string-line-short, ten-short, release-line, release-line-short, thousand-short}
use Rattle.layouts.specs.declared.Version as code
use Rattle.laws.specs.Lawful.{LawfulRun}
use Rattle.laws.proofs.{Releases.run_check-lawful, ReleaseList.release-lawful}
use Rattle.writing.specs.{Written.plan_text, Saved.{lacks_room, no_room, fit_check, text_answer, text_page, first_other, alike_check, saved_text, writable_check, save_check, saved_answer, saved_page}}
use Rattle.writing.specs.inner.Cells.{PlanFits}
use Rattle.writing.proofs.{Texts.{lent-part, lent_back}, Rows.{long_as, text-long}}

-- ---- Room

no_room-beyond : (page : List ℕ) (at : ℕ) (text : List ℕ) → length page < at → no_room page at text ≡ true
unfolding no_room
no_room-beyond page at text h = rw (lt-ltb (length page) at h) (either (ltb (length (drop at page)) (length text)))
  where
    either : (b : Bool) → (b || true) ≡ true
    either true = refl
    either false = refl

no_room-short : (page : List ℕ) (at : ℕ) (text : List ℕ) → length page - at < length text → no_room page at text ≡ true
unfolding no_room
no_room-short page at text h = rw (lt-ltb (length (drop at page)) (length text) (omega (arith, length-drop at page)))

no_room-fits : (page : List ℕ) (at : ℕ) (text : List ℕ) → at ≤ length page → length text ≤ length page - at → no_room page at text ≡ false
unfolding no_room
no_room-fits page at text here h =
    rw (le-ltb (length (drop at page)) (length text) (omega (arith, length-drop at page)), le-ltb (length page) at here)

-- where the check of the room finds nothing, there is room
pub room-there : (page : List ℕ) (at k : ℕ) → refuse_if (lacks_room page at k) NoRoom 0 ≡ Lawful
    → (at ≤ length page) × (k ≤ length page - at)
room-there page at k h =
    by_bool (ltb (length (drop at page)) k)
    (λ t. absurd (let bad = rw t at h in cc))
    (λ short.
    by_bool (ltb (length page) at)
    (λ t. absurd (let bad = rw (short, t) at h in cc))
    (λ beyond. (ltb-false _ _ beyond, omega (arith, ltb-false _ _ short, length-drop at page))))

-- ---- Moving costs

module _ (v : Version) (p : Plan) where
  module _ (at : ℕ) where
    -- a header that says no moving cost asks nothing of them
    pub alike-none : v.header Common ≤ 0 → alike_check v at p ≡ Lawful
    unfolding alike_check has_field
    alike-none none = rw (le-ltb 0 (v.header Common) none)

    pub alike-yes : p.n < first_other p → alike_check v at p ≡ Lawful
    unfolding alike_check
    alike-yes high = rw (lt-leb (first_other p) p.n high) (by_bool (has_field (header_frame v) Common) (λ t. rw t) (λ e. rw e))

    pub alike-differs : 0 < v.header Common → first_other p ≤ p.n → alike_check v at p ≡ Refused CostsDiffer at
    unfolding alike_check has_field
    alike-differs some low = rw (lt-ltb 0 (v.header Common) some, le-leb (first_other p) p.n low)

  pub writable-run : (rs : Releases) → writable_check v p rs ≡ Lawful → run_check p rs ≡ Lawful
  unfolding writable_check
  writable-run rs h = then-first (run_check p rs) (alike_check v (first_other p) p) h

  -- so a lawful plan can be written where each string says its own moving cost
  pub writable-own : (rs : Releases) → v.header Common ≤ 0 → run_check p rs ≡ Lawful → writable_check v p rs ≡ Lawful
  unfolding writable_check
  writable-own rs none h = then-lawful (run_check p rs) _ h ∙ alike-none (first_other p) none

-- ---- How long the text of a lawful plan is

module _ (v : Version) (p : Plan) (rs : Releases) (run : run_check p rs ≡ Lawful) (ten : length p.strings ≡ 10)
    (thousand : length rs.list ≡ 1000)
  where
    run_is : LawfulRun p rs
    run_is = run_check-lawful p rs run

    strings-many : length (strings_of p) ≡ p.n
    strings-many = length-take-le p.n p.strings (omega (arith, run_is.plan.n_max))

    releases-many : length (releases_of rs) ≡ rs.count
    releases-many = length-take-le rs.count rs.list (omega (arith, run_is.few))

    pub saved-long : length (saved_text v p rs) ≡ long_as v p.n rs.count
    unfolding saved_text
    saved-long = text-long v p rs strings-many releases-many

-- and it is small
module _ (version : code.Version) (w : Layouts) (known : w ≡ layouts_for (meant_by version)) (p : Plan) (rs : Releases)
    (run : run_check p rs ≡ Lawful)
  where
    pub few-lines : (w.header.line ≤ 60) × (p.n * w.string.line ≤ 600) × (rs.count * w.release.line ≤ 60000)
    few-lines =
        let good = run_check-lawful p rs run in (
          header-line-short version w known,
          ten-short p.n w.string.line good.plan.n_max (string-line-short version w known),
          thousand-short rs.count w.release.line good.few (release-line-short version w known),
        )

    pub text-counted : length p.strings ≡ 10 → length rs.list ≡ 1000
        → w.header.line + p.n * w.string.line + rs.count * w.release.line ≡ length (saved_text (meant_by version) p rs)
    text-counted ten thousand =
        omega (
          arith,
          saved-long (meant_by version) p rs run ten thousand,
          header-line version w known,
          ap (λ k. p.n * k) (string-line version w known),
          ap (λ k. rs.count * k) (release-line version w known),
        )

-- ---- A text that goes into a page where a check finds nothing

module _ (c : Checked) (text page : List ℕ) (at : ℕ) where
  abbrev answers : Result ℕ Refusal → List ℕ → Type 0
  answers said after =
      (text_answer (fit_check c text page at) text ≡ said) × (text_page (fit_check c text page at) text page at ≡ after)

  pub fit_refused : (f : Fault) (k : ℕ) → c ≡ Refused f k → answers (Refused f k) page
  fit_refused f k h = (rw h, rw h)

  module _ (lawful : c ≡ Lawful) where
    fit-full : no_room page at text ≡ true → answers (Refused NoRoom 0) page
    fit-full full = (rw (lawful, full), rw (lawful, full))

    pub fit-beyond : length page < at → answers (Refused NoRoom 0) page
    fit-beyond h = fit-full (no_room-beyond page at text h)

    pub fit-short : length page - at < length text → answers (Refused NoRoom 0) page
    fit-short h = fit-full (no_room-short page at text h)

    -- the part from the place on comes back with the text at its head
    pub fit_written : at ≤ length page → length text ≤ length page - at → (next : List ℕ)
        → next ≡ text ++ drop (length text) (take (length page - at) (drop at page))
        → answers (Ok (length text)) (put_mid at (length page - at) page next)
    fit_written here room next got =
        let fits = no_room-fits page at text here room in (
          rw (lawful, fits),
          rw (lawful, fits) (sym (lent_back at page next here ∙ rw (got, lent-part at page, drop-drop (length text) at page))),
        )

    -- the same where the check of the room finds nothing
    pub fit-checked : refuse_if (lacks_room page at (length text)) NoRoom 0 ≡ Lawful → (next : List ℕ)
        → next ≡ text ++ drop (length text) (take (length page - at) (drop at page))
        → answers (Ok (length text)) (put_mid at (length page - at) page next)
    fit-checked room next got =
        let there = room-there page at (length text) room in
        fit_written there.0 there.1 next got

-- ---- The answer and the page

module _ (v : Version) (p : Plan) (rs : Releases) (page : List ℕ) (at : ℕ) where
  pub saved-refused : (f : Fault) (k : ℕ) → writable_check v p rs ≡ Refused f k
      → (saved_answer v p rs page at ≡ Refused f k) × (saved_page v p rs page at ≡ page)
  unfolding saved_answer saved_page save_check
  saved-refused f k h = fit_refused (writable_check v p rs) (saved_text v p rs) page at f k h

  module _ (lawful : writable_check v p rs ≡ Lawful) where
    pub saved-beyond : length page < at → (saved_answer v p rs page at ≡ Refused NoRoom 0) × (saved_page v p rs page at ≡ page)
    unfolding saved_answer saved_page save_check
    saved-beyond h = fit-beyond (writable_check v p rs) (saved_text v p rs) page at lawful h

    module _ (ten : length p.strings ≡ 10) (thousand : length rs.list ≡ 1000) where
      long-is : length (saved_text v p rs) ≡ long_as v p.n rs.count
      long-is = saved-long v p rs (writable-run v p rs lawful) ten thousand

      -- long is what the code computes
      module _ (long : ℕ) (counted : long ≡ long_as v p.n rs.count) where
        pub saved-short : length page - at < long → (saved_answer v p rs page at ≡ Refused NoRoom 0) × (saved_page v p rs page at ≡ page)
        unfolding saved_answer saved_page save_check
        saved-short h = fit-short (writable_check v p rs) (saved_text v p rs) page at lawful (omega (arith, long-is))

        module _ (here : at ≤ length page) (room : long ≤ length page - at) where
          -- the part comes back with the text at its head
          pub saved-written : (next : List ℕ)
              → next ≡ plan_text v p (releases_of rs)
              ++ drop (length (plan_text v p (releases_of rs))) (take (length page - at) (drop at page))
              → (saved_answer v p rs page at ≡ Ok long) × (saved_page v p rs page at ≡ put_mid at (length page - at) page next)
          unfolding saved_answer saved_page save_check saved_text
          saved-written next got =
              let text = plan_text v p (releases_of rs) in
              let size : length text ≡ long = long-is ∙ sym counted in
              let said = fit_written (writable_check v p rs) text page at lawful here (omega arith) next got in
              (said.0 ∙ ap (λ k. Ok k) size, said.1)

-- ---- What the writer of the plan asks of the part that it is lent

module _ (v : Version) (p : Plan) (rs : Releases) (run : run_check p rs ≡ Lawful) (ten : length p.strings ≡ 10)
    (thousand : length rs.list ≡ 1000) (page : List ℕ) (at : ℕ) (here : at ≤ length page)
    (room : length (saved_text v p rs) ≤ length page - at)
  where
    good : LawfulRun p rs
    good = run_check-lawful p rs run

    places : All (λ r. r.place ≤ 10) (releases_of rs)
    places =
        all-by (λ r. r.place ≤ 10) (releases_of rs) no_release
        (λ i h.
        let lawful = release-lawful p (releases_of rs) good.none_bad i h in
        omega (arith, lawful.within, strings-many v p rs run ten thousand, good.plan.n_max))

    pub plan-fits : PlanFits v p rs (length (take (length page - at) (drop at page)))
    unfolding saved_text
    plan-fits =
        let lent = ap length (lent-part at page) ∙ length-drop at page in
        let long = saved-long v p rs run ten thousand in
        record {
          strings = record { some = good.plan.n_pos; few = good.plan.n_max; ten = ten; bytes = omega arith };
          releases = record { few = good.few; thousand = thousand; places = places; bytes = omega arith };
          bytes = omega arith;
        }
