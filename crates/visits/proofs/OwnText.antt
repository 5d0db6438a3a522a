-- The text of visits says them, and that of our own run is accepted.
--     visit_numbers v        the release that v serves, its first day and its length
--     visit_row v            its line
--     ShortVisit v               they have at most four, six and seven digits, as those of a run have
use Rattle.base.proofs.Prelude.{ℕ, suc, ◌+◌, ◌*◌, ◌^◌, ◌≤◌, ◌<◌, ◌≡◌, refl, sym, ap, ◌∙◌, true, ◌&&◌, List, [], ◌∷◌, ◌++◌, map, arith, eqb, get_or, length, length-append, length-take}
use Rattle.faults.specs.Checks.{Lawful}
use Rattle.std.specs.Prelude.{Ok}
use mathlib.Core.List.{flat_map}
use Rattle.base.specs.Count.{All}
use Rattle.base.proofs.Lists.{by_bool, all-by}
use Rattle.days.specs.declared.Length.{Length}
use Rattle.rules.specs.declared.Plan.{Plan}
use Rattle.rules.specs.declared.Releases.{Releases}
use Rattle.rules.specs.declared.Stint.{Stint}
use Rattle.rules.specs.declared.Outcome.TheVariants.{Clean}
use Rattle.rules.specs.Plan.{strings_of}
use Rattle.rules.specs.Demand.{moving_cost}
use Rattle.rules.specs.Release.{releases_of, released, deadline_of}
use Rattle.rules.specs.Refusal.{run_answer}
use Rattle.rules.specs.Lines.{bytes_of, decimal, worded_in}
use Rattle.rules.specs.Text.{Line, lines_of}
use Rattle.rules.specs.Stints.{run_stints, release_used}
use Rattle.laws.proofs.{Releases.run_check-lawful, LineTexts.{line_bytes, text_of_lines, EndedLine, NoEnd, lines-said}}
use Rattle.lines.specs.Visits.{visit_line}
use Rattle.register.proofs.{Joined.commaed-tail, RowBack.{numbers_line, decimal-said, decimal-long, line-fields-said, line-formed, line-no-end}}
use Rattle.run.proofs.Answering.{few-here}
use Rattle.visits.specs.{declared.Visit.Visit, Visits.{visits_check}, Accepted.{no_visit}, OwnRun.{stretch_joined, stint_ahead, stints_visits, run_visits}, Texts.{visit_said, visit_formed, visit_in, visits_in, visits_text, visit_lines_check, visit_text_check}}
use Rattle.visits.proofs.{AcceptedExactly.accepted-exactly, OwnRun.clean-run-accepted, OwnStints.stints-visits, Lines.{lines-formed, text-lines}}

-- ---- A visit and its line

abbrev visit_numbers : Visit → List ℕ
visit_numbers v = v.release ∷ v.first.0 ∷ v.length.0 ∷ []

abbrev visit_row : Visit → Line
visit_row v = numbers_line (visit_numbers v)

pub record ShortVisit (v : Visit) : Type 0 where
  pub release-short : v.release < 10 ^ 4
  pub first_short : v.first.0 < 10 ^ 6
  pub length-short : v.length.0 < 10 ^ 7

module _ (v : Visit) where
  visit-row : visit_line v.release v.first.0 v.length.0 ≡ line_bytes (visit_row v)
  unfolding visit_line bytes_of worded_in
  visit-row = commaed-tail (map decimal (visit_numbers v)) (0x0d ∷ []) (0x0a ∷ [])

  visit-says : visit_in (visit_row v) ≡ v
  unfolding visit_in visit_said
  visit-says =
      rw (
        line-fields-said v.release (v.first.0 ∷ v.length.0 ∷ []),
        decimal-said v.release,
        decimal-said v.first.0,
        decimal-said v.length.0,
      )

  module _ (short : ShortVisit v) where
    visit-formed : visit_formed (visit_row v) ≡ true
    visit-formed =
        line-formed v.release (v.first.0 ∷ v.length.0 ∷ []) 6
        (omega (arith, short.release-short), (omega (arith, short.first_short), (omega (arith, short.length-short), tt)))

    visit-long : length (visit_line v.release v.first.0 v.length.0) ≤ 21
    unfolding visit_line bytes_of worded_in
    visit-long =
        let k = decimal v.release in
        let t = decimal v.first.0 in
        let n = decimal v.length.0 in
        omega (
          arith,
          (decimal-long 3 v.release short.release-short).1,
          (decimal-long 5 v.first.0 short.first_short).1,
          (decimal-long 6 v.length.0 short.length-short).1,
          length-append k (0x2c ∷ (t ++ (0x2c ∷ (n ++ (0x0d ∷ 0x0a ∷ []))))),
          length-append t (0x2c ∷ (n ++ (0x0d ∷ 0x0a ∷ []))),
          length-append n (0x0d ∷ 0x0a ∷ []),
        )

-- ---- Visits and their text

rows-text : (vs : List Visit) → visits_text vs ≡ text_of_lines (map visit_row vs)
unfolding visits_text flat_map
rows-text [] = refl
rows-text (v ∷ vs) = rw (visit-row v, rows-text vs)

rows-ended : (vs : List Visit) → All EndedLine (map visit_row vs)
rows-ended [] = tt
rows-ended (v ∷ vs) = (refl, rows-ended vs)

rows-within : (vs : List Visit) → All NoEnd (map visit_row vs)
rows-within [] = tt
rows-within (v ∷ vs) = (line-no-end (visit_numbers v), rows-within vs)

rows-said : (vs : List Visit) → map visit_in (map visit_row vs) ≡ vs
rows-said [] = refl
rows-said (v ∷ vs) = rw (visit-says v, rows-said vs)

rows-formed : (k : ℕ) (vs : List Visit) → All ShortVisit vs → visit_lines_check k (map visit_row vs) ≡ Lawful
unfolding visit_lines_check
rows-formed k [] short = refl
rows-formed k (v ∷ vs) short = rw (visit-formed v short.0) (rows-formed (suc k) vs short.1)

lines_are : (vs : List Visit) → lines_of (visits_text vs) ≡ map visit_row vs
lines_are vs = ap lines_of (rows-text vs) ∙ lines-said (map visit_row vs) (rows-ended vs) (rows-within vs)

-- written and read back, the visits are the same, and no line is refused
pub visits-back : (vs : List Visit) → visits_in (visits_text vs) ≡ vs
visits-back vs = ap (map visit_in) (lines_are vs) ∙ rows-said vs

pub text-formed : (vs : List Visit) → All ShortVisit vs → visit_lines_check 1 (lines_of (visits_text vs)) ≡ Lawful
text-formed vs short = ap (visit_lines_check 1) (lines_are vs) ∙ rows-formed 1 vs short

text-over : (vs : List Visit) → All ShortVisit vs → length (visits_text vs) ≤ length vs * 21
unfolding visits_text flat_map
text-over [] short = omega arith
text-over (v ∷ vs) short =
    let line = visit_line v.release v.first.0 v.length.0 in
    omega (arith, length-append line (visits_text vs), visit-long v short.0, text-over vs short.1)

-- ---- Our own run

-- no more visits than stints
visits-few : (ss : List Stint) → length (stints_visits ss) ≤ length ss
unfolding stints_visits stint_ahead stretch_joined
visits-few [] = omega arith
visits-few (s ∷ ss) =
    by_bool (eqb (release_used s.used) 0)
    (λ idle. rw idle (omega (arith, visits-few ss)))
    (λ used. rw used (omega (arith, visits-few ss, ahead (stints_visits ss))))
  where
    ahead : (vs : List Visit) → length (stretch_joined s.first.0 s.length.0 (release_used s.used) vs) ≤ suc (length vs)
    ahead [] = omega arith
    ahead (v ∷ vs) =
        by_bool (eqb v.release (release_used s.used) && eqb v.first.0 (s.first.0 + s.length.0))
        (λ joins. rw joins (omega arith))
        (λ other. rw other (omega arith))

-- all moving costs 0, every deadline inside the run, the run clean: the text of its visits is accepted
pub own-text-accepted : (p : Plan) (rs : Releases) (w m i : Length) → run_answer p rs ≡ Ok (Clean w m i)
    → All (λ s. moving_cost p s ≡ 0) (strings_of p)
    → ((k : ℕ) → 1 ≤ k → k ≤ length (releases_of rs) → deadline_of p (released (releases_of rs) k) ≤ p.run.0)
    → visit_text_check p rs (visits_text (run_visits p (releases_of rs))) ≡ Lawful
own-text-accepted p rs w m i clean free inside =
    let vs = run_visits p (releases_of rs) in
    let accepted = clean-run-accepted p rs w m i clean free inside in
    let known = (accepted-exactly p rs vs).0 accepted in
    let good = run_check-lawful p rs known.0 in
    let rules = known.1 in
    let short : All ShortVisit vs = all-by ShortVisit vs no_visit (λ j h.
    let named = rules.listed j h in
    let due = rules.due j h in
    let long = rules.long j h in
    let end = inside (get_or vs j no_visit).release named.0 named.1 in
    let last = good.plan.run_max in
    let few = good.few in
    record {
      release-short = omega (arith, length-take rs.count rs.list);
      first_short = omega arith;
      length-short = omega arith;
    }) in
    let count = visits-few (run_stints p (releases_of rs)) in
    let many : length vs ≤ 3001 = omega (arith, ap length (stints-visits p (releases_of rs)), count, few-here p rs good) in
    let size : length (visits_text vs) ≤ 65536 = omega (arith, text-over vs short, many) in
    sym (text-lines p rs (visits_text vs) known.0 size)
    ∙ sym (lines-formed p rs (lines_of (visits_text vs)) (text-formed vs short))
    ∙ ap (visits_check p rs) (visits-back vs)
    ∙ accepted
