-- Versions 01 and 02 as 03 (document 02, W-207 and W-213): a text of any version reads to a plan whose version 03 text reads to the same
-- plan and releases. A version 01 text reads as the version 02 plan in which every string has the moving cost that its header says.
use Rattle.base.proofs.Prelude.{ℕ, ◌-◌, ◌≤◌, ◌≡◌, refl, sym, ap, ◌∙◌, List, [], ◌∷◌, map, arith, length, drop, length-append, length-replicate, length-take, take_at}
use Rattle.faults.specs.Checks.{Lawful}
use Rattle.base.specs.Count.{filled}
use Rattle.faults.specs.declared.Fault.TheVariants.{FrameWrong}
use Rattle.faults.proofs.Checks.{refused-not-lawful}
use Rattle.rules.specs.declared.Plan.{Plan}
use Rattle.rules.specs.declared.Releases.{Releases}
use Rattle.rules.specs.Text.{Reading, Line, lines_of, n_in, release_of, plan_in, list_in, lines_check, text_check, lawful_reading, reading_in, reading_of}
use Rattle.rules.specs.Plan.{strings_of, no_string}
use Rattle.rules.specs.Release.{releases_of, no_release}
use Rattle.rules.specs.Layout.{Version, version01, version02, version03}
use Rattle.laws.proofs.{Versions.{strings-are, reading-checked, lines-checked, reading-on-time}, Releases.run_check-lawful, ReadLawful.text-read}
use Rattle.laws.specs.Lawful.{LawfulRun}
use Rattle.writing.specs.Saved.{saved_text}
use Rattle.roundtrip.specs.OneText.{trimmed_plan, trimmed_releases, read_again}
use Rattle.roundtrip.proofs.ReadBack.{reading-02, reading-03}

filled-length {ℓ} : {A : Type ℓ} (k : ℕ) (z : A) (xs : List A) → length xs ≤ k → length (filled k z xs) ≡ k
filled-length k z xs h = length-append xs _ ∙ omega (arith, length-replicate (k - length xs) z)

-- ---- What is read has nothing behind what counts

module _ (v : Version) where
  plan-trimmed : (lines : List Line) → lines_check v lines ≡ Lawful → trimmed_plan (plan_in v lines) ≡ plan_in v lines
  unfolding lines_check plan_in
  plan-trimmed [] h = absurd (refused-not-lawful FrameWrong 1 h)
  plan-trimmed (header ∷ lines) h = rw (strings-are v header lines h)

  releases-trimmed : (lines : List Line) → lines_check v lines ≡ Lawful → trimmed_releases (list_in v lines) ≡ list_in v lines
  unfolding lines_check list_in
  releases-trimmed [] h = absurd (refused-not-lawful FrameWrong 1 h)
  releases-trimmed (header ∷ lines) h = rw (take_at (map (release_of v) (drop (n_in v header) lines)) _ _ refl)

  module _ (text : List ℕ) (h : (reading_in v text).checked ≡ Lawful) where
    pub read-trimmed : read_again (reading_in v text).plan (reading_in v text).releases ≡ reading_in v text
    unfolding reading_in lawful_reading
    read-trimmed =
        let lines = lines-checked v text h in
        rw (
          reading-checked v (text_check v text) (lines_of text) h,
          plan-trimmed (lines_of text) lines,
          releases-trimmed (lines_of text) lines,
        )

    abbrev plan : Plan
    plan = (reading_in v text).plan

    abbrev releases : Releases
    releases = (reading_in v text).releases

    pub run_is : LawfulRun plan releases
    run_is = run_check-lawful plan releases (text-read v text h)

    pub ten-places : length plan.strings ≡ 10
    ten-places =
        let trimmed = ap (λ (r : Reading). length r.plan.strings) read-trimmed in
        sym trimmed ∙ filled-length 10 no_string (strings_of plan) (omega (arith, length-take plan.n plan.strings, run_is.plan.n_max))

    pub thousand : length releases.list ≡ 1000
    thousand =
        let trimmed = ap (λ (r : Reading). length r.releases.list) read-trimmed in
        sym trimmed
        ∙ filled-length 1000 no_release (releases_of releases) (omega (arith, length-take releases.count releases.list, run_is.few))

    -- what a text of any version says, its version 03 text says too
    pub reads-as-03 : reading_of (saved_text version03 plan releases) ≡ reading_in v text
    reads-as-03 = reading-03 plan releases ten-places thousand (text-read v text h) ∙ read-trimmed

-- of a version 01 text the version 02 text reads to the same plan and releases
pub reads-01-as-02 : (text : List ℕ) → (reading_in version01 text).checked ≡ Lawful
    → reading_of (saved_text version02 (reading_in version01 text).plan (reading_in version01 text).releases) ≡ reading_in version01 text
reads-01-as-02 text h =
    let read = reading_in version01 text in
    let on-time = reading-on-time version01 text refl refl h in
    reading-02 read.plan read.releases (ten-places version01 text h) (thousand version01 text h) (text-read version01 text h)
    on-time.0 on-time.1
    ∙ read-trimmed version01 text h
