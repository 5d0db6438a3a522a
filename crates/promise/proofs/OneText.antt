-- A plan has one text within version 03, of what `read` and `write` answered: reading what was written gives the plan, and writing what
-- was read gives the same bytes.
-- The arguments of `write` are the plan, the releases, the page and the place.
use Rattle.base.proofs.Prelude.{ℕ, ◌≡◌, sym, ap, ◌∙◌, length, take, drop}
use Rattle.std.specs.Prelude.{Result, Ok}
use Rattle.faults.specs.declared.Refusal.{Refusal}
use Rattle.rules.specs.declared.PlanFile.{PlanFile}
use Rattle.promise.proofs.Given.{given-as}
use Rattle.base.specs.Count.{put_at}
use Rattle.rules.specs.Text.{lines_of, version_of, reading_in, reading_of, said_in}
use Rattle.rules.specs.Layout.{version03, held_to}
use Rattle.writing.specs.Saved.{saved_answer, saved_page}
use Rattle.roundtrip.specs.OneText.{read_again}
use Rattle.roundtrip.proofs.{WriteBack.one-text, InPage.{reading-the-page, saving-what-was-read}}
use Rattle.reading.proofs.read.Reads as read
use Rattle.writing.proofs.write.Reads as write
use contract.Lifetimes.{Lfts}

module _ (κs κt : Lfts 1) (lent : _) (after : _) (r : Result PlanFile Refusal) (was_read : read.Learnt κs lent r after) where
  -- the text that was read stands in a page where it was written; places after the n-th and releases after the count come back blank.
  -- A plan has ten places and a list a thousand: their types in the code say so, but a statement sees lists, of any length
  pub written-reads-back : (a : _) (e : _) (len : ℕ) → write.Learnt κt a (Ok len) e → length a.0.strings ≡ 10
      → length a.1.0.list ≡ 1000
      → lent.0.now ≡ take len (drop a.1.1.1.0 e.1.1.0.now) → r ≡ said_in (read_again a.0 a.1.0)
  written-reads-back a e len wrote ten thousand text =
      was_read.0
      ∙ ap said_in
      (ap reading_of (text ∙ ap (λ page. take len (drop a.1.1.1.0 page)) wrote.1)
      ∙ reading-the-page a.0 a.1.0 a.1.1.0.now a.1.1.1.0 len (sym wrote.0) ten thousand)

  -- what was read from a version 03 text, written into a page, is the text byte for byte; the rest of the page stays
  pub read-writes-back : version_of (lines_of lent.0.now) ≡ version03 → (o : PlanFile) → r ≡ Ok o → (a : _) (e : _) (len : ℕ)
      → write.Learnt κt a (Ok len) e → a.0 ≡ o.plan → a.1.0 ≡ o.releases
      → e.1.1.0.now ≡ put_at a.1.1.1.0 lent.0.now a.1.1.0.now
  unfolding held_to reading_of
  read-writes-back in-03 o given a e len wrote plan list =
      let text = lent.0.now in
      let page = a.1.1.0.now in
      let at = a.1.1.1.0 in
      let said : said_in (reading_in version03 text) ≡ Ok o = ap (λ v. said_in (reading_in v text)) (sym in-03) ∙ sym was_read.0 ∙ given in
      let parts = given-as (reading_in version03 text) o said in
      let plan_is : a.0 ≡ (reading_in version03 text).plan = plan ∙ sym parts.plan in
      let list-is : a.1.0 ≡ (reading_in version03 text).releases = list ∙ sym parts.releases in
      let saves : saved_answer version03 (reading_in version03 text).plan (reading_in version03 text).releases page at ≡ Ok len =
      ap (λ p. saved_answer version03 p (reading_in version03 text).releases page at) (sym plan_is)
      ∙ ap (λ rs. saved_answer version03 a.0 rs page at) (sym list-is) ∙ sym wrote.0 in
      wrote.1 ∙ ap (λ p. saved_page version03 p a.1.0 page at) plan_is
      ∙ ap (λ rs. saved_page version03 (reading_in version03 text).plan rs page at) list-is
      ∙ saving-what-was-read 3 text page at len parts.lawful saves

-- two texts of version 03 that were read as the same plan and releases are the same bytes
pub one-text-read : (κs κt : Lfts 1) (lent other : _) (after later : _) (o q : PlanFile)
    → read.Learnt κs lent (Ok o) after → read.Learnt κt other (Ok q) later
    → version_of (lines_of lent.0.now) ≡ version03 → version_of (lines_of other.0.now) ≡ version03
    → o ≡ q → lent.0.now ≡ other.0.now
unfolding held_to reading_of
one-text-read κs κt lent other after later o q read_one read-other named-one named_other same =
    let one = given-as (reading_in version03 lent.0.now) o (ap (λ v. said_in (reading_in v lent.0.now)) (sym named-one) ∙ sym read_one.0) in
    let two = given-as (reading_in version03 other.0.now) q
    (ap (λ v. said_in (reading_in v other.0.now)) (sym named_other) ∙ sym read-other.0) in
    one-text 3 lent.0.now other.0.now one.lawful two.lawful
    (one.plan ∙ ap (λ (f : PlanFile). f.plan) same ∙ sym two.plan)
    (one.releases ∙ ap (λ (f : PlanFile). f.releases) same ∙ sym two.releases)
