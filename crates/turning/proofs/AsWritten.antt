-- What the reader and the writer answer is what turning a text is to answer.
use Rattle.base.proofs.Prelude.{ℕ, ◌≤◌, ◌≡◌, sym, ap, ◌∙◌, Bool, ◌&&◌, List, arith, leb-true, leb}
use Rattle.faults.specs.Checks.{Refused, Lawful}
use Rattle.base.proofs.Lists.{by_bool, and_right}
use Rattle.faults.specs.declared.Fault.{Fault}
use Rattle.rules.specs.declared.Plan.{Plan}
use Rattle.rules.specs.declared.Releases.{Releases}
use Rattle.rules.specs.Text.{Reading, reading_in, said_in}
use Rattle.rules.specs.declared.PlanFile.{PlanFile}
use Rattle.faults.specs.declared.Refusal.{Refusal}
use Rattle.faults.proofs.Checks.{by-checked, err-not-ok}
use Rattle.std.specs.Prelude.{Result, Ok, Err, MatchResult}
use Rattle.std.specs.Result.{IsErrAnd}
use Rattle.rules.specs.Refusal.{run_check}
use Rattle.rules.specs.Layout.{Version, has_field, header_frame, Common}
use Rattle.laws.proofs.{Releases.run_check-lawful, ReadLawful.text-read}
use Rattle.writing.specs.Saved.{no_room, first_other, alike_check, saved_text, writable_check, save_check, saved_answer, saved_page}
use Rattle.turning.specs.Turned.{line_of, on_line, place_in, turned_text, turn_check, turned_answer, turned_page}

module _ (v w : Version) (text page : List ℕ) (at : ℕ) where
  abbrev p : Plan
  p = (reading_in v text).plan

  abbrev rs : Releases
  rs = (reading_in v text).releases

  turn-refused : (f : Fault) (k : ℕ) → (reading_in v text).checked ≡ Refused f k
      → (Refused f k ≡ turned_answer v w text page at) × (page ≡ turned_page v w text page at)
  unfolding turned_answer turned_page turn_check
  turn-refused f k h = (rw h, rw h)

  module _ (h : (reading_in v text).checked ≡ Lawful) where
    lawful : run_check p rs ≡ Lawful
    lawful = text-read v text h

    -- the header would have to say two costs
    abbrev differs : Bool
    differs = has_field (header_frame w) Common && leb (first_other p) p.n

    turn-lawful : (on_line (saved_answer w p rs page at) ≡ turned_answer v w text page at)
        × (saved_page w p rs page at ≡ turned_page v w text page at)
    unfolding turned_answer turned_page turn_check turned_text alike_check saved_answer saved_page save_check writable_check line_of
    turn-lawful =
        by_bool differs
        (λ other. (rw (h, lawful, other), rw (h, lawful, other)))
        (λ none.
        by_bool (no_room page at (saved_text w p rs))
        (λ full. (rw (h, lawful, none, full), rw (h, lawful, none, full)))
        (λ fits. (rw (h, lawful, none, fits), rw (h, lawful, none, fits))))

    -- the place of a refusal is one of ten, so its line is a number of the code
    place-small : place_in (saved_answer w p rs page at) ≤ 10
    unfolding alike_check saved_answer save_check writable_check
    place-small =
        by_bool differs
        (λ other.
        let low = leb-true (first_other p) p.n (and_right (has_field (header_frame w) Common) (leb (first_other p) p.n) other) in
        rw (lawful, other) (omega (arith, (run_check-lawful p rs lawful).plan.n_max)))
        (λ none.
        by_bool (no_room page at (saved_text w p rs))
        (λ full. rw (lawful, none, full) (omega arith))
        (λ fits. rw (lawful, none, fits) (omega arith)))

-- ---- The same of what the reader answered

said-file : (r : Reading) (f : PlanFile) → Ok f ≡ said_in r → (r.checked ≡ Lawful) × (f.plan ≡ r.plan) × (f.releases ≡ r.releases)
said-file r f h =
    by-checked r.checked
    (λ e.
    let same : ◌≡◌ {A = Result PlanFile Refusal} (Ok f) (Ok (record { plan = r.plan; releases = r.releases })) = rw e at h in
    let file : f ≡ record { plan = r.plan; releases = r.releases } = cc in
    (e, ap (λ (g : PlanFile). g.plan) file, ap (λ (g : PlanFile). g.releases) file))
    (λ k at e. absurd (err-not-ok _ f (sym (rw e at h))))

said-refusal : (r : Reading) (e : Refusal) → Err e ≡ said_in r → r.checked ≡ Err e
said-refusal r e h =
    by-checked r.checked
    (λ k. absurd (err-not-ok e (record { plan = r.plan; releases = r.releases }) (rw k at h)))
    (λ f at k.
    let same : ◌≡◌ {A = Result PlanFile Refusal} (Err e) (Refused f at) = rw k at h in
    let refusal : e ≡ record { fault = f; at = at } = cc in
    k ∙ ap Err (sym refusal))

module _ (v w : Version) (text page : List ℕ) (at : ℕ) where
  pub turn-refusal : (e : Refusal) → Err e ≡ said_in (reading_in v text)
      → (Err e ≡ turned_answer v w text page at) × (page ≡ turned_page v w text page at)
  turn-refusal e h = turn-refused v w text page at e.fault e.at (said-refusal (reading_in v text) e h)

  module _ (f : PlanFile) (h : Ok f ≡ said_in (reading_in v text)) where
    pub turn-file : (on_line (saved_answer w f.plan f.releases page at) ≡ turned_answer v w text page at)
        × (saved_page w f.plan f.releases page at ≡ turned_page v w text page at)
    turn-file =
        let read = said-file (reading_in v text) f h in
        rw (read.1, read.2) (turn-lawful v w text page at read.0)

    pub place_small : place_in (saved_answer w f.plan f.releases page at) ≤ 10
    place_small =
        let read = said-file (reading_in v text) f h in
        rw (read.1, read.2) (place-small v w text page at read.0)

-- the answer with the line of its refusal
pub lined : (saved answer : Result ℕ Refusal)
    → MatchResult saved (λ length. answer ≡ Ok length) (λ e. IsErrAnd answer (λ d. d ≡ record { fault = e.fault; at = line_of e.at }))
    → answer ≡ on_line saved
lined (Ok length) answer h = h
lined (Err e) (Ok length) h = absurd h
lined (Err e) (Err d) h = ap Err h
