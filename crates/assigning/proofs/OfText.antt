-- What each answer for a text means.
--     Refused      as the reader refuses, and so the desk; or 9 with 0, where there is no room
--     AssigningNobody       the text is lawful and no set passes
--     Text         what was written is the text of the same plan and releases with the set that the search finds; with it the plan passes
-- But for Text, no byte of the page is another.
use Rattle.base.proofs.Prelude.{ℕ, zero, suc, ◌-◌, ◌/◌, ◌%◌, ◌^◌, ◌≤◌, ◌<◌, ◌≡◌, refl, sym, ap, ◌∙◌, subst, List, [], ◌∷◌, ◌++◌, arith, pow-suc, length, take, drop, replicate, length-take-le}
use Rattle.faults.specs.Checks.{Refused, Lawful}
use Rattle.faults.specs.declared.Refusal.{Refusal}
use Rattle.std.specs.Prelude.{Ok, Err, Result, Some, None}
use Rattle.rules.specs.Found.{Assign}
use Rattle.base.specs.Count.{filled}
use Rattle.faults.specs.{declared.Fault.Fault}
use Rattle.faults.proofs.Checks.{by-checked, then-first}
use Rattle.rules.specs.declared.BatteryString.{BatteryString}
use Rattle.rules.specs.declared.Plan.{Plan}
use Rattle.rules.specs.declared.Releases.{Releases}
use Rattle.rules.specs.Text.{Reading, lines_of, version_of, reading_of}
use Rattle.rules.specs.Plan.{strings_of, no_string}
use Rattle.rules.specs.Demand.{Passes}
use Rattle.rules.specs.Search.{permit, with_set, search_of}
use Rattle.rules.specs.Refusal.{plan_check, releases_check, run_check}
use Rattle.rules.specs.Layout.{version03}
use Rattle.laws.proofs.{Lawful.{plan_check-lawful}, Answers.search-lawful, ReadLawful.read-lawful}
use Rattle.demand.proofs.{Sets.{permitted, with_set-strings}, Search.{set_passes-exactly, search-passes}}
use Rattle.writing.specs.Saved.{saved_answer, saved_page}
use Rattle.roundtrip.specs.OneText.{trimmed_plan, trimmed_releases}
use Rattle.roundtrip.proofs.{As02.{read-trimmed, ten-places, thousand}, InPage.reading-the-page}
use Rattle.assigning.specs.{Assigned.{AssigningNobody, Text, wrote_set, set_answered, set_page, assigned_answer, assigned_page}, TakesFound.TakesFound}

-- ---- A set of n places changes nothing behind the n-th string

none-permitted : (k : ℕ) → permit 0 (replicate k no_string) ≡ replicate k no_string
unfolding permit
none-permitted zero = refl
none-permitted (suc k) = ap (λ rest. no_string ∷ rest) (none-permitted k)

as_many : (m : ℕ) (ss : List BatteryString) → length (permit m ss) ≡ length ss
unfolding permit
as_many m [] = refl
as_many m (s ∷ ss) = ap suc (as_many (m / 2) ss)

permit-blank : (ss : List BatteryString) (m k : ℕ) → m < 2 ^ length ss
    → permit m (ss ++ replicate k no_string) ≡ permit m ss ++ replicate k no_string
unfolding permit
permit-blank [] m k h =
    let none : m ≡ 0 = omega arith in
    ap (λ i. permit i (replicate k no_string)) none ∙ none-permitted k
permit-blank (s ∷ ss) m k h =
    let double = pow-suc 2 (length ss) in
    ap (λ rest. permitted s (m % 2) ∷ rest) (permit-blank ss (m / 2) k (omega arith))

-- so a plan that reads back as it is does so with any set of its places
set-blank : (p : Plan) (m : ℕ) → trimmed_plan p ≡ p → p.n ≤ length p.strings → m < 2 ^ p.n → trimmed_plan (with_set p m) ≡ with_set p m
unfolding with_set
set-blank p m blank room small =
    let ss = strings_of p in
    let below : m < 2 ^ length ss = rw (length-take-le p.n p.strings room) small in
    let strings : filled 10 no_string (strings_of (with_set p m)) ≡ permit m p.strings =
    ap (filled 10 no_string) (with_set-strings p m)
    ∙ ap (λ k. permit m ss ++ replicate (10 - k) no_string) (as_many m ss)
    ∙ sym (permit-blank ss m (10 - length ss) below)
    ∙ ap (λ (q : Plan). permit m q.strings) blank in
    ap (λ all. record { n = p.n; run = p.run; strings = all }) strings

-- ---- How an answer comes about

module _ (text page : List ℕ) (at : ℕ) where
  abbrev p : Plan
  p = (reading_of text).plan

  abbrev rs : Releases
  rs = (reading_of text).releases

  plan-lawful : (reading_of text).checked ≡ Lawful → plan_check p ≡ Lawful
  unfolding run_check
  plan-lawful h = then-first (plan_check p) (releases_check p rs) (read-lawful text h)

  -- what is answered for a text that is refused, and for one that is lawful
  pub assigned-refuses : (f : Fault) (k : ℕ) → (reading_of text).checked ≡ Refused f k
      → (assigned_answer text page at ≡ Refused f k) × (assigned_page text page at ≡ page)
  unfolding assigned_answer assigned_page
  assigned-refuses f k h = (rw h, rw h)

  module _ (h : (reading_of text).checked ≡ Lawful) where
    lawful-says : (a : Assign) → search_of p ≡ a
        → (assigned_answer text page at ≡ set_answered p rs page at (Ok a))
        × (assigned_page text page at ≡ set_page p rs page at (Ok a))
    unfolding assigned_answer assigned_page
    lawful-says a is =
        let said = search-lawful p (plan-lawful h) ∙ ap Ok is in
        (rw (h, said), rw (h, said))

    -- no set passes
    nobody-says : search_of p ≡ None → (assigned_answer text page at ≡ AssigningNobody) × (assigned_page text page at ≡ page)
    unfolding set_answered set_page
    nobody-says is = lawful-says None is

    taken-says : (m : ℕ) → search_of p ≡ Some m
        → (assigned_answer text page at ≡ wrote_set (saved_answer version03 (with_set p m) rs page at))
        × (assigned_page text page at ≡ saved_page version03 (with_set p m) rs page at)
    unfolding set_answered set_page
    taken-says m is = lawful-says (Some m) is

    -- a plan that was read has nothing behind its strings, nor its list behind the releases
    read-blank : (trimmed_plan p ≡ p) × (trimmed_releases rs ≡ rs)
    unfolding reading_of
    read-blank =
        let again = read-trimmed (version_of (lines_of text)) text h in
        (ap (λ (r : Reading). r.plan) again, ap (λ (r : Reading). r.releases) again)

    read-places : (length p.strings ≡ 10) × (length rs.list ≡ 1000)
    unfolding reading_of
    read-places = (ten-places (version_of (lines_of text)) text h, thousand (version_of (lines_of text)) text h)

    -- the set found, written, reads back
    reads-back : (m len : ℕ) → search_of p ≡ Some m → saved_answer version03 (with_set p m) rs page at ≡ Ok len
        → reading_of (take len (drop at (saved_page version03 (with_set p m) rs page at)))
        ≡ record { checked = Lawful; plan = with_set p m; releases = rs }
    reads-back m len is wrote =
        let ten : length (with_set p m).strings ≡ 10 = unfold with_set in as_many m p.strings ∙ read-places.0 in
        let few = (plan_check-lawful p (plan-lawful h)).n_max in
        let plan = set-blank p m read-blank.0 (omega (arith, read-places.0)) (search-passes p m is).1 in
        reading-the-page (with_set p m) rs page at len wrote ten read-places.1
        ∙ ap (λ q. record { checked = Lawful; plan = q; releases = trimmed_releases rs }) plan
        ∙ ap (λ list. record { checked = Lawful; plan = with_set p m; releases = list }) read-blank.1

    passes-with : (m : ℕ) → search_of p ≡ Some m → Passes (with_set p m)
    passes-with m is = (set_passes-exactly p (plan_check-lawful p (plan-lawful h)) m).0 (search-passes p m is).0

    -- what the writer wrote
    takes-found : (m len : ℕ) → search_of p ≡ Some m → (a : Result ℕ Refusal) → saved_answer version03 (with_set p m) rs page at ≡ a
        → wrote_set a ≡ Text len → TakesFound text (take len (drop at (saved_page version03 (with_set p m) rs page at)))
    takes-found m len is (Err e) wrote said =
        let z : ◌≡◌ {A = ℕ} 0 1 = cc in
        absurd (omega arith)
    takes-found m len is (Ok long) wrote said =
        let same : long ≡ len = cc in
        let back = reads-back m len is (wrote ∙ ap Ok same) in
        record {
          lawful = ap (λ (r : Reading). r.checked) back;
          m = m;
          found = is;
          plan_is = ap (λ (r : Reading). r.plan) back;
          releases_are = ap (λ (r : Reading). r.releases) back;
          passes = subst Passes (sym (ap (λ (r : Reading). r.plan) back)) (passes-with m is);
        }

  -- ---- Text

  -- what is written is the text of the plan with the set that the search finds, and that plan passes
  pub assigned-text : (len : ℕ) → assigned_answer text page at ≡ Text len → TakesFound text
      (take len (drop at (assigned_page text page at)))
  assigned-text len said = by-checked (reading_of text).checked (λ h. go h (search_of p) refl) refused
    where
      refused : (f : Fault) (k : ℕ) → (reading_of text).checked ≡ Refused f k
          → TakesFound text (take len (drop at (assigned_page text page at)))
      refused f k e =
          let other = sym (assigned-refuses f k e).0 ∙ said in
          let z : ◌≡◌ {A = ℕ} 0 1 = cc in
          absurd (omega arith)

      go : (reading_of text).checked ≡ Lawful → (a : Assign) → search_of p ≡ a
          → TakesFound text (take len (drop at (assigned_page text page at)))
      go h None is =
          let other = sym (nobody-says h is).0 ∙ said in
          let z : ◌≡◌ {A = ℕ} 0 1 = cc in
          absurd (omega arith)
      go h (Some m) is =
          let says = taken-says h m is in
          subst (λ whole. TakesFound text (take len (drop at whole))) (sym says.1)
          (takes-found h m len is _ refl (sym says.0 ∙ said))
