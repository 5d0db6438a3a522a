-- The asset register's table (document 02, W-210), of what `register` and `table` answered: written and read back gives the same strings,
-- read and written back the same bytes; and what is read is lawful.
-- The arguments of `register` are the text and N; those of `table` are the plan, the releases, the page and the place.
use Rattle.base.proofs.Prelude.{ℕ, ◌+◌, ◌≤◌, ◌≡◌, sym, ap, ◌∙◌, true, false, List, [], ◌∷◌, length, take, drop}
use Rattle.faults.specs.Checks.{Lawful}
use Rattle.std.specs.Prelude.{Result, Ok}
use Rattle.faults.specs.declared.Refusal.{Refusal}
use Rattle.rules.specs.declared.PlanFile.{PlanFile}
use Rattle.promise.proofs.Given.{GivenAs, given-as, given-lawful}
use Rattle.base.specs.Count.{put_at}
use Rattle.rules.specs.declared.Plan.{Plan}
use Rattle.rules.specs.declared.Releases.{Releases}
use Rattle.rules.specs.Text.{Line, lines_of, no_releases}
use Rattle.rules.specs.Plan.{strings_of}
use Rattle.rules.specs.Release.{releases_of}
use Rattle.rules.specs.Refusal.{run_check}
use Rattle.laws.proofs.Releases.{run_check-lawful}
use Rattle.roundtrip.proofs.InPage.{fit-lawful, fit-page, fit-stands}
use Rattle.register.specs.{Table.{row_formed, row_string, table_plan, table_check, table_reading}, Reader.{line_long, row_given, row_at, ended, no_row, row, row_says}, Export.{table_text, export_check, export_answer, export_page}}
use Rattle.register.proofs.BothWays.{strings-again, rows-written-read, table-checked, rows-read-written, table-lawful}
use Rattle.register.proofs.register.Reads as register
use Rattle.register.proofs.table.Reads as table
use contract.Lifetimes.{Lfts}

-- ---- The rows in the page

module _ (p : Plan) (rs : Releases) (page : List ℕ) (at len : ℕ) (h : export_answer p rs page at ≡ Ok len) where
  rows-lawful : run_check p rs ≡ Lawful
  unfolding export_answer export_check
  rows-lawful = fit-lawful (run_check p rs) (table_text p) page at len h

  rows-page : export_page p rs page at ≡ put_at at (table_text p) page
  unfolding export_answer export_page export_check
  rows-page = fit-page (run_check p rs) (table_text p) page at len h

  rows-stand : take len (drop at (export_page p rs page at)) ≡ table_text p
  unfolding export_answer export_page export_check
  rows-stand = fit-stands (run_check p rs) (table_text p) page at len h

-- ---- Both ways

module _ (κs κt : Lfts 1) (lent : _) (after : _) (r : Result PlanFile Refusal) (was_read : register.Learnt κs lent r after) where
  abbrev text : List ℕ
  text = lent.0.now

  abbrev run : ℕ
  run = lent.1.0.0

  -- the rows of a plan, read with a lawful N, are its strings again
  pub table-reads-back : (a : _) (e : _) (len : ℕ) → table.Learnt κt a (Ok len) e → length a.0.strings ≡ 10 → 1 ≤ run → run ≤ 1000000
      → text ≡ take len (drop a.1.1.1.0 e.1.1.0.now)
      → (o : PlanFile) × (r ≡ Ok o) × (strings_of o.plan ≡ strings_of a.0) × (o.plan.run.0 ≡ run) × (releases_of o.releases ≡ [])
  table-reads-back a e len wrote ten low high same =
      let p = a.0 in
      let page = a.1.1.0.now in
      let at = a.1.1.1.0 in
      let saved = sym wrote.0 in
      let ok = (run_check-lawful p a.1.0 (rows-lawful p a.1.0 page at len saved)).plan in
      let rows : text ≡ table_text p = same ∙ ap (λ pg. take len (drop at pg)) wrote.1 ∙ rows-stand p a.1.0 page at len saved in
      let is = ap (table_reading run) rows ∙ rows-written-read p ok ten run low high in (
        record { plan = (table_reading run text).plan; releases = (table_reading run text).releases },
        was_read.0 ∙ given-lawful (table_reading run text) (ap (λ s. s.checked) is),
        ap (λ s. strings_of s.plan) is ∙ strings-again p ok ten run low high,
        ap (λ s. s.plan.run.0) is,
        ap (λ s. releases_of s.releases) is,
      )

  module _ (o : PlanFile) (given : r ≡ Ok o) where
    parts : GivenAs (table_reading run text) o
    parts = given-as (table_reading run text) o (sym was_read.0 ∙ given)

    checked : table_check run text ≡ Lawful
    checked = table-checked run text parts.lawful

    is-plan : o.plan ≡ table_plan run (lines_of text)
    unfolding table_reading
    is-plan = sym parts.plan ∙ rw checked

    is-list : o.releases ≡ no_releases
    unfolding table_reading
    is-list = sym parts.releases ∙ rw checked

    -- what was read, written into a page, is the table byte for byte; the rest of the page stays
    pub table-writes-back : (a : _) (e : _) (len : ℕ) → table.Learnt κt a (Ok len) e → a.0 ≡ o.plan
        → e.1.1.0.now ≡ put_at a.1.1.1.0 text a.1.1.0.now
    table-writes-back a e len wrote plan =
        let page = a.1.1.0.now in
        let at = a.1.1.1.0 in
        wrote.1 ∙ rows-page a.0 a.1.0 page at len (sym wrote.0)
        ∙ ap (λ rows. put_at at rows page) (ap table_text (plan ∙ is-plan) ∙ rows-read-written run text checked)

    -- and no entry refuses it
    pub table-read-lawful : run_check o.plan o.releases ≡ Lawful
    table-read-lawful =
        ap (λ p. run_check p o.releases) is-plan ∙ ap (run_check (table_plan run (lines_of text))) is-list ∙ table-lawful run text checked

-- ---- A line, in the page's numbers

-- what `row_here` gives at a place of a text: its contract is `row_at`
module _ (text : List ℕ) (at : ℕ) where
  pub row_ends : lines_of (drop at text) ≡ [] → row_says (row_at text at) ≡ ended
  unfolding row_at row_given
  row_ends none = rw none

  module _ (line : Line) (rest : List Line) (here : lines_of (drop at text) ≡ line ∷ rest) where
    -- 13 for a line that is not six such numbers with CR LF
    pub row-thirteen : row_formed line ≡ false → row_says (row_at text at) ≡ no_row 13 (at + line_long line)
    unfolding row_at row_given
    row-thirteen other = rw (here, other)

    pub row-six-numbers : row_formed line ≡ true
        → let s = row_string line in
        row_says (row_at text at) ≡ row s.t.0 s.c.0 s.d.0 s.x s.a.0 s.j.0 (at + line_long line)
    unfolding row_at row_given
    row-six-numbers formed = rw (here, formed)
