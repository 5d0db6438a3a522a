-- What each answer for a text means.
--     Refused      as the reader refuses, and so the desk; or 9 with 0, where there is no room
--     Passes       the text is lawful and the plan passes
--     Never        the text is lawful and the plan does not pass; its payable plan passes sharply, so no lawful list misses, whatever N
--     NoneFound    the text is lawful and the plan does not pass, nor does its payable plan sharply; with free moving it would, so that it
--                  would never miss
--     TooMany      the text is lawful and the plan does not pass, not even sharply with free moving: there is a list that misses, and it
--                  has more than 1,000 releases
--     Text         what was written is the text of the same plan, with N raised, and of releases over which it misses
-- But for Text, no byte of the page is another.
use Rattle.base.proofs.Prelude.{ℕ, ◌-◌, ◌≤◌, ◌≡◌, refl, sym, ap, ◌∙◌, subst, ◌⊎◌, inl, inr, ◌↔◌, true, false, List, arith, length, take, drop, length-append, length-replicate, length-take, take_all}
use Rattle.faults.specs.Checks.{Refused, Lawful}
use Rattle.faults.specs.declared.Refusal.{Refusal}
use Rattle.std.specs.Prelude.{Result, Ok, Err}
use Rattle.rules.specs.Answer.{Answered}
use Rattle.days.specs.{declared.Day.Day, declared.Length.Length}
use Rattle.base.proofs.Lists.{by_bool}
use Rattle.faults.specs.{declared.Fault.Fault, declared.Fault.TheVariants.NoRoom, Checks.fault_number}
use Rattle.faults.proofs.{Checks.{by-checked, then-first}, Refusing.Refusals}
use Rattle.rules.specs.declared.Plan.{Plan}
use Rattle.rules.specs.declared.Releases.{Releases}
use Rattle.rules.specs.Text.{Reading, lines_of, version_of, reading_of}
use Rattle.rules.specs.declared.Outcome.TheVariants.{Miss}
use Rattle.rules.specs.Demand.{Passes}
use Rattle.rules.specs.Verdict.{verdict_of}
use Rattle.rules.specs.Search.{search_of}
use Rattle.rules.specs.Release.{no_release, releases_of}
use Rattle.rules.specs.Run.{run_of}
use Rattle.rules.specs.Refusal.{plan_check, releases_check, run_check, run_answer}
use Rattle.rules.specs.Answer.{answered, answer_of}
use Rattle.rules.specs.Layout.{version03}
use Rattle.rules.specs.Said.{refused_with}
use Rattle.rules.specs.Plan.{with_run}
use Rattle.laws.proofs.{Lawful.plan_check-lawful, RefusedBy.{Numbered, read-numbers}, ReadLawful.read-lawful}
use Rattle.writing.specs.Saved.{saved_text, no_room, writable_check, save_check, saved_answer, saved_page}
use Rattle.writing.proofs.Saving.{writable-own}
use Rattle.roundtrip.specs.OneText.{trimmed_plan, trimmed_releases}
use Rattle.roundtrip.proofs.{As02.{read-trimmed, ten-places}, InPage.reading-the-page}
use Rattle.sound.specs.Sharp.{SharplyPasses}
use Rattle.exact.specs.Missing.{freely, NeverMisses, FreeMoving}
use Rattle.exact.proofs.AnyRun.{verdict-run, search-run}
use Rattle.charging.specs.Payable.{payable}
use Rattle.charging.proofs.Payable.{payable-never-misses}
use Rattle.tries.specs.{declared.Missing.Missing, Tries.missing_answer, Shown.MissesOverMany}
use Rattle.tries.proofs.{Found.packed-holds, Meaning.{answer-refused, answer-passes-rule, answer-found, found-answers, answer-never-rule, answer-none-rule, answer-none-free, answer-none-payable, answer-none-paid, answer-many-rule, answer-many}}
use Rattle.missed.specs.{declared.Missed.Missed, declared.Missed.TheVariants.{Never, NoneFound, TooMany, Text}, Missed.{as_saved, put_answer, put_page, missed_answer, missed_page}, ShowsMiss.ShowsMiss, Said.missed_says}
use Rattle.tries.specs.declared.Missing.TheVariants as answer
use Rattle.missed.specs.declared.Missed.TheVariants as missed

-- ---- A list that was found, written

module _ (p : Plan) (n : Length) (rs : Releases) (is : missing_answer p ≡ Ok (answer.Found n rs)) where
  abbrev longer : Plan
  longer = with_run p n.0

  -- the plan and its list are lawful
  found-lawful : run_check longer rs ≡ Lawful
  unfolding run_answer
  found-lawful =
      let said = (found-answers p n rs is).4 in
      by-checked (run_check longer rs) (λ e. e) (λ f k e.
      let refused = rw e at said in
      absurd cc)

  -- so only the room can be wanting
  found-writable : writable_check version03 longer rs ≡ Lawful
  found-writable = writable-own version03 longer rs (omega arith) found-lawful

  found-fits : (page : List ℕ) (at : ℕ) → no_room page at (saved_text version03 longer rs) ≡ false
      → saved_answer version03 longer rs page at ≡ Ok (length (saved_text version03 longer rs))
  unfolding saved_answer save_check
  found-fits page at fits = rw (found-writable, fits)

  found-full : (page : List ℕ) (at : ℕ) → no_room page at (saved_text version03 longer rs) ≡ true
      → (saved_answer version03 longer rs page at ≡ Refused NoRoom 0) × (saved_page version03 longer rs page at ≡ page)
  unfolding saved_answer saved_page save_check
  found-full page at full = (rw (found-writable, full), rw (found-writable, full))

  -- the list is as it reads back
  list-blank : trimmed_releases rs ≡ rs
  list-blank =
      let shows = (answer-found p n rs is).1 in
      let list = shows.list in
      let whole = packed-holds list shows.few in
      let all = take_all 1000 list shows.few in
      rw (shows.packed_as, whole, all)

  list-long : length rs.list ≡ 1000
  list-long =
      let shows = (answer-found p n rs is).1 in
      let front = take 1000 shows.list in
      let few : length front ≤ 1000 = omega (arith, length-take 1000 shows.list) in
      ap (λ (r : Releases). length r.list) shows.packed_as
      ∙ length-append front _
      ∙ omega (arith, length-replicate (1000 - length front) no_release)

-- a plan that was read has nothing behind its strings
plan-blank : (text : List ℕ) → (reading_of text).checked ≡ Lawful
    → (trimmed_plan (reading_of text).plan ≡ (reading_of text).plan) × (length (reading_of text).plan.strings ≡ 10)
unfolding reading_of
plan-blank text h =
    let v = version_of (lines_of text) in
    (ap (λ (r : Reading). r.plan) (read-trimmed v text h), ten-places v text h)

-- ---- How an answer comes about

module _ (text page : List ℕ) (at : ℕ) where
  abbrev p : Plan
  p = (reading_of text).plan

  -- the answer for the text, and the page
  abbrev Says : Result Missed Refusal → List ℕ → Type 0
  Says m after = (missed_answer text page at ≡ m) × (missed_page text page at ≡ after)

  plan-lawful : (reading_of text).checked ≡ Lawful → plan_check p ≡ Lawful
  unfolding run_check
  plan-lawful h = then-first (plan_check p) (releases_check p (reading_of text).releases) (read-lawful text h)

  refused_says : (f : Fault) (k : ℕ) → (reading_of text).checked ≡ Refused f k → Says (Refused f k) page
  unfolding missed_answer missed_page
  refused_says f k h = (rw h, rw h)

  module _ (h : (reading_of text).checked ≡ Lawful) where
    lawful-says : Says (put_answer p page at (missing_answer p)) (put_page p page at (missing_answer p))
    unfolding missed_answer missed_page
    lawful-says = (rw h, rw h)

    found-says : (m : Missing) → missing_answer p ≡ Ok m → Says (put_answer p page at (Ok m)) (put_page p page at (Ok m))
    found-says m is = (lawful-says.0 ∙ ap (put_answer p page at) is, lawful-says.1 ∙ ap (put_page p page at) is)

    full-says : (n : Length) (rs : Releases) → missing_answer p ≡ Ok (answer.Found n rs)
        → no_room page at (saved_text version03 (with_run p n.0) rs) ≡ true → Says (Refused NoRoom 0) page
    unfolding put_answer put_page
    full-says n rs is wanting =
        let says = found-says (answer.Found n rs) is in
        let said = found-full p n rs is page at wanting in
        (says.0 ∙ ap as_saved said.0, says.1 ∙ said.1)

  -- one of seven ways
  module _ {B : Type 0}
      (refused : (f : Fault) (k : ℕ) → (reading_of text).checked ≡ Refused f k → Says (Refused f k) page → B)
      (passes : (reading_of text).checked ≡ Lawful → missing_answer p ≡ Ok answer.Passes → Says (Ok missed.Passes) page → B)
      (never : (reading_of text).checked ≡ Lawful → missing_answer p ≡ Ok answer.Never → Says (Ok Never) page → B)
      (nothing : (reading_of text).checked ≡ Lawful → missing_answer p ≡ Ok answer.NoneFound → Says (Ok NoneFound) page → B)
      (many : (reading_of text).checked ≡ Lawful → missing_answer p ≡ Ok answer.TooMany → Says (Ok TooMany) page → B)
      (full : (reading_of text).checked ≡ Lawful → (n : Length) (rs : Releases) → missing_answer p ≡ Ok (answer.Found n rs)
      → no_room page at (saved_text version03 (with_run p n.0) rs) ≡ true → Says (Refused NoRoom 0) page → B)
      (shown : (reading_of text).checked ≡ Lawful → (n : Length) (rs : Releases) (len : ℕ) → missing_answer p ≡ Ok (answer.Found n rs)
      → saved_answer version03 (with_run p n.0) rs page at ≡ Ok len
      → Says (Ok (Text len)) (saved_page version03 (with_run p n.0) rs page at) → B)
    where
      by-found : (reading_of text).checked ≡ Lawful → (m : Missing) → missing_answer p ≡ Ok m → B
      unfolding put_answer put_page
      by-found h answer.Passes is = passes h is (found-says h answer.Passes is)
      by-found h answer.Never is = never h is (found-says h answer.Never is)
      by-found h answer.NoneFound is = nothing h is (found-says h answer.NoneFound is)
      by-found h answer.TooMany is = many h is (found-says h answer.TooMany is)
      by-found h (answer.Found n rs) is =
          let says = found-says h (answer.Found n rs) is in
          by_bool (no_room page at (saved_text version03 (with_run p n.0) rs))
          (λ wanting. full h n rs is wanting (full-says h n rs is wanting))
          (λ fits.
          let said = found-fits p n rs is page at fits in
          shown h n rs _ is said (says.0 ∙ ap as_saved said, says.1))

      -- a lawful text has a lawful plan, which is not refused
      by-answered : (reading_of text).checked ≡ Lawful → (a : Result Missing Refusal) → missing_answer p ≡ a → B
      by-answered h (Err e) is =
          let bad = (answer-refused p e.fault e.at).0 is in
          let lawful = plan-lawful h in
          absurd cc
      by-answered h (Ok m) is = by-found h m is

      by-missed : B
      by-missed =
          by-checked (reading_of text).checked
          (λ h. by-answered h (missing_answer p) refl)
          (λ f k e. refused f k e (refused_says f k e))

  -- ---- Refused

  -- what the reader refuses is refused
  pub missed-refuses : (f : Fault) (k : ℕ) → (reading_of text).checked ≡ Refused f k → missed_answer text page at ≡ Refused f k
  missed-refuses f k h = (refused_says f k h).0

  -- and else only for the room
  pub missed-refused : (f : Fault) (k : ℕ) → missed_answer text page at ≡ Refused f k
      → ((reading_of text).checked ≡ Refused f k) ⊎ (((reading_of text).checked ≡ Lawful) × (f ≡ NoRoom) × (k ≡ 0))
  missed-refused f k h =
      by-missed
      (λ g j e says.
      let said = sym says.0 ∙ h in
      let same : ◌≡◌ {A = Refusal} (record { fault = g; at = j }) (record { fault = f; at = k }) = cc in
      inl (e ∙ ap Err same))
      (λ lawful is says. absurd (cc says.0))
      (λ lawful is says. absurd (cc says.0))
      (λ lawful is says. absurd (cc says.0))
      (λ lawful is says. absurd (cc says.0))
      (λ lawful n rs is wanting says.
      let said = sym says.0 ∙ h in
      let same : ◌≡◌ {A = Refusal} (record { fault = f; at = k }) (record { fault = NoRoom; at = 0 }) = cc in
      inr (lawful, ap (λ (e : Refusal). e.fault) same, ap (λ (e : Refusal). e.at) same))
      (λ lawful n rs len is wrote says. absurd (cc says.0))

  -- 9 with 0 exactly where a list was found and there is no room for its text
  pub missed-nine : (missed_says (missed_answer text page at) ≡ refused_with 9 0)
      ↔ (((reading_of text).checked ≡ Lawful) × ((n : Length) × (rs : Releases) × (missing_answer p ≡ Ok (answer.Found n rs))
      × (no_room page at (saved_text version03 (with_run p n.0) rs) ≡ true)))
  missed-nine = (only, λ h. ap missed_says (full-says h.0 h.1.0 h.1.1 h.1.2 h.1.3).0)
    where
      low : (f : Fault) (k : ℕ) → (reading_of text).checked ≡ Refused f k → fault_number f ≤ 8
      low f k e = subst (Refusals (Numbered 8)) e (read-numbers text)

      only : missed_says (missed_answer text page at) ≡ refused_with 9 0
          → ((reading_of text).checked ≡ Lawful) × ((n : Length) × (rs : Releases) × (missing_answer p ≡ Ok (answer.Found n rs))
          × (no_room page at (saved_text version03 (with_run p n.0) rs) ≡ true))
      only h =
          by-missed
          (λ f k e says.
          let said = ap missed_says (sym says.0) ∙ h in
          let number : fault_number f ≡ 9 = cc in
          absurd (omega (arith, low f k e)))
          (λ lawful is says.
          let said = ap missed_says (sym says.0) ∙ h in
          absurd cc)
          (λ lawful is says.
          let said = ap missed_says (sym says.0) ∙ h in
          absurd cc)
          (λ lawful is says.
          let said = ap missed_says (sym says.0) ∙ h in
          absurd cc)
          (λ lawful is says.
          let said = ap missed_says (sym says.0) ∙ h in
          absurd cc)
          (λ lawful n rs is wanting says. (lawful, (n, rs, is, wanting)))
          (λ lawful n rs len is wrote says.
          let said = ap missed_says (sym says.0) ∙ h in
          absurd cc)

  -- ---- Passes

  pub missed-passes : (missed_answer text page at ≡ Ok missed.Passes) ↔ ((reading_of text).checked ≡ Lawful) × Passes p
  unfolding put_answer
  missed-passes = (only, λ h. (found-says h.0 answer.Passes (passes-is h)).0)
    where
      passes-is : ((reading_of text).checked ≡ Lawful) × Passes p → missing_answer p ≡ Ok answer.Passes
      passes-is h = (answer-passes-rule p).1 (plan_check-lawful p (plan-lawful h.0), h.1)

      only : missed_answer text page at ≡ Ok missed.Passes → ((reading_of text).checked ≡ Lawful) × Passes p
      only h =
          by-missed
          (λ f k e says. absurd (cc says.0))
          (λ lawful is says. (lawful, ((answer-passes-rule p).0 is).1))
          (λ lawful is says. absurd (cc says.0))
          (λ lawful is says. absurd (cc says.0))
          (λ lawful is says. absurd (cc says.0))
          (λ lawful n rs is wanting says. absurd (cc says.0))
          (λ lawful n rs len is wrote says. absurd (cc says.0))

  -- ---- Never

  -- exactly where the text is lawful, the plan fails, and its payable plan passes sharply
  pub missed-never-rule : (missed_answer text page at ≡ Ok Never)
      ↔ ((reading_of text).checked ≡ Lawful) × (Passes p → ⊥) × SharplyPasses (payable p)
  unfolding put_answer
  missed-never-rule = (only, λ h. (found-says h.0 answer.Never (never-is h)).0)
    where
      never-is : ((reading_of text).checked ≡ Lawful) × (Passes p → ⊥) × SharplyPasses (payable p)
          → missing_answer p ≡ Ok answer.Never
      never-is h = (answer-never-rule p).1 (plan_check-lawful p (plan-lawful h.0), h.1, h.2)

      only : missed_answer text page at ≡ Ok Never → ((reading_of text).checked ≡ Lawful) × (Passes p → ⊥) × SharplyPasses (payable p)
      only h =
          by-missed
          (λ f k e says. absurd (cc says.0))
          (λ lawful is says. absurd (cc says.0))
          (λ lawful is says.
          let rule = (answer-never-rule p).0 is in
          (lawful, rule.1, rule.2))
          (λ lawful is says. absurd (cc says.0))
          (λ lawful is says. absurd (cc says.0))
          (λ lawful n rs is wanting says. absurd (cc says.0))
          (λ lawful n rs len is wrote says. absurd (cc says.0))

  -- so no list misses
  pub missed-never : missed_answer text page at ≡ Ok Never → NeverMisses p
  missed-never h =
      let rule = missed-never-rule.0 h in
      payable-never-misses p (plan_check-lawful p (plan-lawful rule.0)) rule.2

  -- ---- NoneFound

  module _ (h : missed_answer text page at ≡ Ok NoneFound) where
    none_is : ((reading_of text).checked ≡ Lawful) × (missing_answer p ≡ Ok answer.NoneFound)
    none_is =
        by-missed
        (λ f k e says. absurd (cc says.0))
        (λ lawful is says. absurd (cc says.0))
        (λ lawful is says. absurd (cc says.0))
        (λ lawful is says. (lawful, is))
        (λ lawful is says. absurd (cc says.0))
        (λ lawful n rs is wanting says. absurd (cc says.0))
        (λ lawful n rs len is wrote says. absurd (cc says.0))

    pub missed-none : ((reading_of text).checked ≡ Lawful) × (Passes p → ⊥)
    missed-none = (none_is.0, (answer-none-rule p none_is.1).1)

    -- with free moving the sharp rule would hold, and it does not with what is payable
    pub missed-none-free : SharplyPasses (freely p)
    missed-none-free = answer-none-free p none_is.1

    pub missed-none-payable : SharplyPasses (payable p) → ⊥
    missed-none-payable = answer-none-payable p none_is.1

    -- so where moving is free it is never answered
    pub missed-none-paid : FreeMoving p → ⊥
    missed-none-paid = answer-none-paid p none_is.1

  -- ---- TooMany

  module _ (h : missed_answer text page at ≡ Ok TooMany) where
    many_is : ((reading_of text).checked ≡ Lawful) × (missing_answer p ≡ Ok answer.TooMany)
    many_is =
        by-missed
        (λ f k e says. absurd (cc says.0))
        (λ lawful is says. absurd (cc says.0))
        (λ lawful is says. absurd (cc says.0))
        (λ lawful is says. absurd (cc says.0))
        (λ lawful is says. (lawful, is))
        (λ lawful n rs is wanting says. absurd (cc says.0))
        (λ lawful n rs len is wrote says. absurd (cc says.0))

    pub missed-many : ((reading_of text).checked ≡ Lawful) × (Passes p → ⊥)
    missed-many = (many_is.0, (answer-many-rule p many_is.1).1)

    -- there is a list that misses, and a file does not hold it
    pub missed-many-list : MissesOverMany p
    missed-many-list = answer-many p many_is.1

  -- ---- Text

  -- what stands in the page from `at` on
  abbrev pub written_in : ℕ → List ℕ
  written_in len = take len (drop at (missed_page text page at))

  module _ (lawful : (reading_of text).checked ≡ Lawful) (n : Length) (rs : Releases) (len : ℕ)
      (is : missing_answer p ≡ Ok (answer.Found n rs))
      (wrote : saved_answer version03 (with_run p n.0) rs page at ≡ Ok len)
      (says : Says (Ok (Text len)) (saved_page version03 (with_run p n.0) rs page at))
    where
      abbrev reads : Reading
      reads = record { checked = Lawful; plan = with_run p n.0; releases = rs }

      -- reading it gives the plan with its N and the list
      written-reads : reading_of (written_in len) ≡ reads
      written-reads =
          let blank = plan-blank text lawful in
          let list = list-blank p n rs is in
          ap (λ after. reading_of (take len (drop at after))) says.1
          ∙ reading-the-page (with_run p n.0) rs page at len wrote blank.1 (list-long p n rs is)
          ∙ ap (λ q. record { checked = Lawful; plan = with_run q n.0; releases = trimmed_releases rs })
          blank.0
          ∙ ap (λ rs. record { checked = Lawful; plan = with_run p n.0; releases = rs }) list

      -- verdict and search are those of the plan as it was
      written-desk : (t : Day) (place : ℕ) → run_of (with_run p n.0) (releases_of rs) ≡ Miss t place
          → answer_of (written_in len) ≡ Answered (verdict_of p) (search_of p) (Miss t place)
      unfolding answer_of answered
      written-desk t place misses =
          ap (λ r. answered r.checked r) written-reads
          ∙ ap (λ v. Answered v (search_of (with_run p n.0)) (run_of (with_run p n.0) (releases_of rs)))
          (verdict-run p n.0)
          ∙ ap (λ a. Answered (verdict_of p) a (run_of (with_run p n.0) (releases_of rs))) (search-run p n.0)
          ∙ ap (Answered (verdict_of p) (search_of p)) misses

      written-misses : ShowsMiss text (written_in len)
      written-misses =
          let miss = found-answers p n rs is in
          record {
            lawful = ap (λ r. r.checked) written-reads;
            n = n.0;
            longer = (answer-found p n rs is).1.longer;
            plan_is = ap (λ r. r.plan) written-reads;
            t = miss.0;
            place = miss.1;
            within = miss.2;
            misses = ap (λ r. run_answer r.plan r.releases) written-reads ∙ miss.4;
            desk = written-desk miss.0 miss.1 miss.3;
          }

  pub missed-text : (len : ℕ) → missed_answer text page at ≡ Ok (Text len) → ShowsMiss text (written_in len)
  missed-text len h =
      by-missed
      (λ f k e says. absurd (cc says.0))
      (λ lawful is says. absurd (cc says.0))
      (λ lawful is says. absurd (cc says.0))
      (λ lawful is says. absurd (cc says.0))
      (λ lawful is says. absurd (cc says.0))
      (λ lawful n rs is wanting says. absurd (cc says.0))
      (λ lawful n rs size is wrote says.
      let said = sym says.0 ∙ h in
      let long : size ≡ len = cc in
      rw (← long) (written-misses lawful n rs size is wrote says))

  -- ---- The page

  pub missed-keeps : ((len : ℕ) → missed_answer text page at ≡ Ok (Text len) → ⊥) → missed_page text page at ≡ page
  missed-keeps no_text =
      by-missed
      (λ f k e says. says.1)
      (λ lawful is says. says.1)
      (λ lawful is says. says.1)
      (λ lawful is says. says.1)
      (λ lawful is says. says.1)
      (λ lawful n rs is wanting says. says.1)
      (λ lawful n rs len is wrote says. absurd (no_text len says.0))
