-- The strings decide first, then what follows them.
use Rattle.std.proofs.Common.{◌≡◌, ℕ, List, ◌≤◌, sym, ap, ◌∙◌, arith}
use Rattle.std.proofs.lemmas.Result.{err_from_is_err_and}
use Rattle.faults.specs.Checks.{Checked}
use Rattle.rules.specs.{Layout.{Count, header_frame}, Text.{n_in, string_lines_check}}
use Rattle.layouts.specs.{declared.Version.Version, inner.Versions.{layouts_number_of, meant_by}}
use Rattle.layouts.proofs.Versions.{count-place, header-line, header-line-short}
use Rattle.reading.specs.inner.Positions.{lines_from, line_at, number_in, strings_at, HeaderRead}
use Rattle.reading.proofs.{Said.{field_room, field-said}, StringLines.strings-stand, Whole.{header-few, header-inside, planned, body-rest, body_refused}}
use Rattle.reading.proofs.read_body.Goals as goal

module _ (version : Version) (text : List ℕ) (h : HeaderRead (meant_by version) text) where
  -- n is the header's
  n-read : (n : ℕ) → n ≡ number_in text 0 2 1 → n ≡ n_in (meant_by version) (line_at text 0)
  unfolding n_in
  n-read n e = e ∙ field-said text 0 (header_frame (meant_by version)) Count _ (count-place (layouts_number_of version)) h.frame

  few : (n : ℕ) → n ≡ number_in text 0 2 1 → n ≤ 10
  few n e = omega (arith, n-read n e, header-few (meant_by version) text h)

  -- what the check of the strings says, from where the code says that they start
  checked : (c : Checked) (start n : ℕ) → start ≡ strings_at (meant_by version)
      → c ≡ string_lines_check (meant_by version) (line_at text 0) 2 n (lines_from text start)
      → string_lines_check (meant_by version) (line_at text 0) 2 n (lines_from text (strings_at (meant_by version))) ≡ c
  checked c start n e f = rw (← e) (sym f)

pub field_of-n-requires-clause-inside : goal.field_of-n-requires-clause-inside
field_of-n-requires-clause-inside c =
    let v = c.args.version in
    field_room c.args.text.now 0 (header_frame (meant_by v)) Count _ (count-place (layouts_number_of v)) c.requires.frame

pub string_lines_check-requires-clause-inside : goal.string_lines_check-requires-clause-inside
string_lines_check-requires-clause-inside c =
    let start = header-line c.args.version _ c.layouts-start.ensures.exact in
    let short = header-line-short c.args.version _ c.layouts-start.ensures.exact in
    let inside = header-inside (meant_by c.args.version) _ c.requires in
    (omega (arith, start, inside), omega (arith, short), few c.args.version _ c.requires _ c.field_of-n.ensures.exact)

pub returns-in_err-string_lines_check : goal.returns-in_err-string_lines_check
returns-in_err-string_lines_check c =
    let v = meant_by c.args.version in
    let text = c.args.text.now in
    let start = header-line c.args.version _ c.layouts-start.ensures.exact in
    let read = n-read c.args.version _ c.requires _ c.field_of-n.ensures.exact in
    let said = checked c.args.version _ c.requires _ _ _ start c.in_err-string_lines_check.ensures.exact in
    let same = ap (λ n. string_lines_check v (line_at text 0) 2 n (lines_from text (strings_at v))) read in
    let p = err_from_is_err_and c.from_residual.result c.from_residual.ensures.1 in
    record { exact = rw (p.1, p.2) (sym (body_refused v _ c.requires _ _ (sym same ∙ said))) }

pub plan_in-requires-clause-count : goal.plan_in-requires-clause-count
plan_in-requires-clause-count c = (
  n-read c.args.version _ c.requires _ c.field_of-n.ensures.exact,
  few c.args.version _ c.requires _ c.field_of-n.ensures.exact,
)

pub plan_in-requires-clause-stand : goal.plan_in-requires-clause-stand
plan_in-requires-clause-stand c =
    let v = meant_by c.args.version in
    let start = header-line c.args.version _ c.layouts-start.ensures.exact in
    let said = checked c.args.version _ c.requires _ _ _ start c.in_ok-string_lines_check.ensures.exact in
    rw start (strings-stand v _ c.args.text.now (strings_at v) 2 _ (header-inside v _ c.requires) said)

pub read_rest-requires : goal.read_rest-requires
read_rest-requires c =
    let v = meant_by c.args.version in
    let start = header-line c.args.version _ c.layouts-start.ensures.exact in
    let said = checked c.args.version _ c.requires _ _ _ start c.in_ok-string_lines_check.ensures.exact in
    planned v _ _ c.requires c.plan_in.ensures.exact _ (n-read c.args.version _ c.requires _ c.field_of-n.ensures.exact) said

pub returns : goal.returns
returns c =
    let v = meant_by c.args.version in
    let start = header-line c.args.version _ c.layouts-start.ensures.exact in
    let said = checked c.args.version _ c.requires _ _ _ start c.in_ok-string_lines_check.ensures.exact in
    let read =
    planned v _ _ c.requires c.plan_in.ensures.exact _ (n-read c.args.version _ c.requires _ c.field_of-n.ensures.exact) said in
    record { exact = c.read_rest.ensures.exact ∙ sym (body-rest v _ _ read) }
