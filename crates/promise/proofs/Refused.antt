-- Which number is given exactly when, of what the code answered: 9 and 12 of what writes a text, 3 at line 1 of what reads one version; and
-- a page keeps every byte where the text is refused.
--     κs the lifetimes of what is lent; a the arguments; e what holds at the return; r the answer
use Rattle.base.proofs.Prelude.{ℕ, ◌≤◌, ◌≡◌, refl, sym, ap, ◌∙◌, ◌↔◌, Bool, true, ◌&&◌, List, arith, leb, length}
use Rattle.faults.specs.Checks.{Refused, Lawful, Checked}
use Rattle.faults.specs.declared.Refusal.{Refusal}
use Rattle.std.specs.Prelude.{Ok, Err, Result}
use Rattle.days.specs.declared.Length.{Length}
use Rattle.faults.specs.declared.Fault.TheVariants.{NoRoom, CostsDiffer}
use Rattle.faults.specs.Checks.{fault_number, then, refuse_if, or_refused}
use Rattle.faults.proofs.Refusing.{Refusals, refusals-then, refusals-if}
use Rattle.rules.specs.Text.{lines_of, reading_in, reading_of}
use Rattle.rules.specs.declared.PlanFile.{PlanFile}
use Rattle.promise.specs.FileSaid.{file_says}
use Rattle.promise.proofs.Given.{file-says}
use Rattle.rules.specs.Layout.{has_field, header_frame, version01, version02, version03, Common}
use Rattle.rules.specs.Refusal.{run_check}
use Rattle.rules.specs.declared.Releases.{Releases}
use Rattle.rules.specs.Said.{refused, checked_says, refused_with}
use Rattle.rules.specs.Plan.{with_run}
use Rattle.laws.proofs.RefusedBy.{Numbered, Never, never-above, lawful-no-refusal, if-says, first_says, second-says, run_check-numbers, reading-numbers}
use Rattle.writing.specs.Saved.{no_room, on_page, saved_text, writable_check, save_check, saved_answer, saved_page, first_other, alike_check}
use Rattle.writing.specs.Said.{saved_says}
use Rattle.turning.specs.Turned.{line_of, turned_text, turn_check, turned_answer, turned_page}
use Rattle.tries.specs.Tries.{missing_answer}
use Rattle.missed.specs.{declared.Missed.Missed, Said.missed_says}
use Rattle.missed.proofs.OfText.{missed-nine}
use Rattle.promise.specs.OtherVersion.{NoHeader}
use Rattle.promise.proofs.OtherVersion.{three-exactly, three-of-03}
use Rattle.tries.specs.declared.Missing.TheVariants as missing
use Rattle.reading.proofs.read_01.Reads as read-01
use Rattle.reading.proofs.read_02.Reads as read-02
use Rattle.writing.proofs.write.Reads as write
use Rattle.writing.proofs.write_01.Reads as write-01
use Rattle.turning.proofs.to_02.Reads as to-02
use Rattle.turning.proofs.to_01.Reads as to-01
use Rattle.missed.proofs.miss.Reads as miss
use contract.Lifetimes.{Lfts}

-- ---- A text put into a page after its checks

-- what is answered: the refusal, or the length of the text
abbrev on_saved : Checked → ℕ → Result ℕ Refusal
on_saved c len = or_refused Refused c (Ok len)

-- a chain of checks is one, wherever its brackets stand
then-chain : (a b c : Checked) → then (then a b) c ≡ then a (then b c)
then-chain (Ok _) b c = refl
then-chain (Err e) b c = refl

saved-says : (c : Checked) (len n k : ℕ) → (saved_says (on_saved c len) ≡ refused_with n k) ↔ (checked_says c ≡ refused n k)
saved-says (Ok _) len n k = (
  λ h.
      let z : ◌≡◌ {A = ℕ} 0 1 = cc in
      absurd (omega arith),
  λ h. absurd (lawful-no-refusal n k h),
)
saved-says (Err e) len n k = (
  λ h.
      let number : fault_number e.fault ≡ n = cc in
      let place : e.at ≡ k = cc in
      ap (λ m. refused m e.at) number ∙ ap (refused n) place,
  λ h.
      let number : fault_number e.fault ≡ n = cc in
      let place : e.at ≡ k = cc in
      ap (λ m. refused_with m e.at) number ∙ ap (refused_with n) place,
)

saved-keeps : (c : Checked) (len n k : ℕ) (page after : List ℕ) → saved_says (on_saved c len) ≡ refused_with n k → on_page c page after
    ≡ page
saved-keeps (Ok _) len n k page after h = absurd (lawful-no-refusal n k ((saved-says Lawful len n k).0 h))
saved-keeps (Err e) len n k page after h = refl

module _ (c : Checked) (low : Refusals (Numbered 8) c) (bad : Bool) (len : ℕ) where
  abbrev room : Checked
  room = refuse_if bad NoRoom 0

  -- the room is looked at last
  nine : (saved_says (on_saved (then c room) len) ≡ refused_with 9 0) ↔ ((c ≡ Lawful) × (bad ≡ true))
  nine =
      let parts = second-says 9 0 c room (never-above 9 8 (omega arith) c low) in (
        λ h.
            let both = parts.0 ((saved-says (then c room) len 9 0).0 h) in
            (both.0, ((if-says 9 0 bad NoRoom 0).0 both.1).0),
        λ h. (saved-says (then c room) len 9 0).1 (parts.1 (h.0, (if-says 9 0 bad NoRoom 0).1 (h.1, refl, refl))),
      )

  -- and before it the moving costs, where the version has one
  module _ (differ : Bool) (at : ℕ) where
    abbrev costs : Checked
    costs = refuse_if differ CostsDiffer at

    no-twelve : Refusals (Never 12) room
    no-twelve = refusals-if (Never 12) bad NoRoom 0 (λ h. omega arith)

    twelve : (k : ℕ) → (saved_says (on_saved (then c (then costs room)) len) ≡ refused_with 12 k)
        ↔ ((c ≡ Lawful) × (differ ≡ true) × (at ≡ k))
    twelve k =
        let parts = second-says 12 k c (then costs room) (never-above 12 8 (omega arith) c low) in
        let first = first_says 12 k costs room no-twelve in (
          λ h.
              let both = parts.0 ((saved-says (then c (then costs room)) len 12 k).0 h) in
              let found = (if-says 12 k differ CostsDiffer at).0 (first.0 both.1) in
              (both.0, found.0, found.2),
          λ h.
              (saved-says (then c (then costs room)) len 12 k).1
              (parts.1 (h.0, first.1 ((if-says 12 k differ CostsDiffer at).1 (h.1, refl, h.2)))),
        )

    nine-after : (saved_says (on_saved (then c (then costs room)) len) ≡ refused_with 9 0) ↔ ((c ≡ Lawful) × (costs ≡ Lawful)
        × (bad ≡ true))
    nine-after =
        let parts = second-says 9 0 c (then costs room) (never-above 9 8 (omega arith) c low) in
        let last = second-says 9 0 costs room (refusals-if (Never 9) differ CostsDiffer at (λ h. omega arith)) in (
          λ h.
              let both = parts.0 ((saved-says (then c (then costs room)) len 9 0).0 h) in
              let end = last.0 both.1 in
              (both.0, end.0, ((if-says 9 0 bad NoRoom 0).0 end.1).0),
          λ h.
              (saved-says (then c (then costs room)) len 9 0).1
              (parts.1 (h.0, last.1 (h.1, (if-says 9 0 bad NoRoom 0).1 (h.2, refl, refl)))),
        )

    -- a number up to 8 is the first check's
    early : (n k : ℕ) → n ≤ 8 → (saved_says (on_saved (then c (then costs room)) len) ≡ refused_with n k) ↔ (checked_says c ≡ refused n k)
    early n k few =
        let rest : Refusals (Never n) (then costs room) =
        refusals-then (Never n) costs room (refusals-if (Never n) differ CostsDiffer at (λ h. omega arith))
        (refusals-if (Never n) bad NoRoom 0 (λ h. omega arith)) in
        let first = first_says n k c (then costs room) rest in (
          λ h. first.0 ((saved-says (then c (then costs room)) len n k).0 h),
          λ h. (saved-says (then c (then costs room)) len n k).1 (first.1 h),
        )

-- ---- What `write` answered: the arguments are the plan, the releases, the page and the place

module _ (κs : Lfts 1) (a : _) (e : _) (r : Result ℕ Refusal) (did : write.Learnt κs a r e) where
  -- 9 with 0 exactly when the page has too little room for a lawful plan
  pub write-nine : (saved_says r ≡ refused_with 9 0)
      ↔ ((run_check a.0 a.1.0 ≡ Lawful) × (no_room a.1.1.0.now a.1.1.1.0 (saved_text version03 a.0 a.1.0) ≡ true))
  unfolding saved_answer save_check writable_check alike_check has_field
  write-nine =
      let run = run_check a.0 a.1.0 in
      let text = saved_text version03 a.0 a.1.0 in
      let full = no_room a.1.1.0.now a.1.1.1.0 text in
      rw (did.0, then-chain run Lawful (refuse_if full NoRoom 0)) (nine run (run_check-numbers a.0 a.1.0) full (length text))

  pub write-refusal-keeps : (n k : ℕ) → saved_says r ≡ refused_with n k → e.1.1.0.now ≡ a.1.1.0.now
  unfolding saved_answer saved_page
  write-refusal-keeps n k h =
      did.1 ∙ saved-keeps (save_check version03 a.0 a.1.0 a.1.1.0.now a.1.1.1.0) _ n k a.1.1.0.now _
      (sym (ap saved_says did.0) ∙ h)

-- ---- What `write_01` answered, of the same arguments

module _ (κs : Lfts 1) (a : _) (e : _) (r : Result ℕ Refusal) (did : write-01.Learnt κs a r e) where
  -- 12 with a place exactly when the moving costs of a lawful plan differ, the place being the first whose cost is not that of place 1
  pub write-01-twelve : (k : ℕ) → (saved_says r ≡ refused_with 12 k)
      ↔ ((run_check a.0 a.1.0 ≡ Lawful) × (leb (first_other a.0) a.0.n ≡ true) × (first_other a.0 ≡ k))
  unfolding saved_answer save_check writable_check alike_check has_field
  write-01-twelve k =
      let run = run_check a.0 a.1.0 in
      let text = saved_text version01 a.0 a.1.0 in
      let full = no_room a.1.1.0.now a.1.1.1.0 text in
      let other = first_other a.0 in
      let costs = refuse_if (leb other a.0.n) CostsDiffer other in
      rw (did.0, then-chain run costs (refuse_if full NoRoom 0))
      (twelve run (run_check-numbers a.0 a.1.0) full (length text) (leb other a.0.n) other k)

  -- then 9 with 0 exactly when there is too little room
  pub write-01-nine : (saved_says r ≡ refused_with 9 0)
      ↔ ((run_check a.0 a.1.0 ≡ Lawful) × (refuse_if (leb (first_other a.0) a.0.n) CostsDiffer (first_other a.0) ≡ Lawful)
      × (no_room a.1.1.0.now a.1.1.1.0 (saved_text version01 a.0 a.1.0) ≡ true))
  unfolding saved_answer save_check writable_check alike_check has_field
  write-01-nine =
      let run = run_check a.0 a.1.0 in
      let text = saved_text version01 a.0 a.1.0 in
      let full = no_room a.1.1.0.now a.1.1.1.0 text in
      let other = first_other a.0 in
      let costs = refuse_if (leb other a.0.n) CostsDiffer other in
      rw (did.0, then-chain run costs (refuse_if full NoRoom 0))
      (nine-after run (run_check-numbers a.0 a.1.0) full (length text) (leb other a.0.n) other)

  pub write-01-refusal-keeps : (n k : ℕ) → saved_says r ≡ refused_with n k → e.1.1.0.now ≡ a.1.1.0.now
  unfolding saved_answer saved_page
  write-01-refusal-keeps n k h =
      did.1 ∙ saved-keeps (save_check version01 a.0 a.1.0 a.1.1.0.now a.1.1.1.0) _ n k a.1.1.0.now _
      (sym (ap saved_says did.0) ∙ h)

-- ---- What `read_01` and `read_02` answered: the argument is the text

module _ (κs : Lfts 1) (a : _) (e : _) (r : Result PlanFile Refusal) where
  -- 3 at line 1 exactly when the first line of a text of lawful length is no header of the version
  pub read-01-three : read-01.Learnt κs a r e
      → (file_says r ≡ refused 3 1) ↔ ((length a.0.now ≤ 65536) × NoHeader version01 (lines_of a.0.now))
  read-01-three did = rw (did.0, file-says (reading_in version01 a.0.now)) (three-exactly version01 a.0.now)

  pub read-02-three : read-02.Learnt κs a r e
      → (file_says r ≡ refused 3 1) ↔ ((length a.0.now ≤ 65536) × NoHeader version02 (lines_of a.0.now))
  read-02-three did = rw (did.0, file-says (reading_in version02 a.0.now)) (three-exactly version02 a.0.now)

-- ---- What `to_02` and `to_01` answered: the arguments are the text, the page and the place

module _ (κs : Lfts 2) (a : _) (e : _) (r : Result ℕ Refusal) (did : to-02.Learnt κs a r e) where
  to-02-says : (n k : ℕ) → n ≤ 8 → (saved_says r ≡ refused_with n k)
      ↔ (checked_says (reading_in version01 a.0.now).checked ≡ refused n k)
  unfolding turned_answer turn_check alike_check
  to-02-says n k few =
      let p = (reading_in version01 a.0.now).plan in
      let text = turned_text version01 version02 a.0.now in
      rw did.0 (early (reading_in version01 a.0.now).checked (reading-numbers version01 a.0.now)
      (no_room a.1.0.now a.1.1.0 text) (length text)
      (has_field (header_frame version02) Common && leb (first_other p) p.n) (line_of (first_other p)) n k few)

  -- 3 at line 1 exactly for another version
  pub to-02-three : (saved_says r ≡ refused_with 3 1) ↔ ((length a.0.now ≤ 65536) × NoHeader version01 (lines_of a.0.now))
  to-02-three =
      let says = to-02-says 3 1 (omega arith) in
      let exactly = three-exactly version01 a.0.now in
      (λ h. exactly.0 (says.0 h), λ h. says.1 (exactly.1 h))

  pub to-02-nine : (saved_says r ≡ refused_with 9 0)
      ↔ (((reading_in version01 a.0.now).checked ≡ Lawful)
      × (no_room a.1.0.now a.1.1.0 (turned_text version01 version02 a.0.now) ≡ true))
  unfolding turned_answer turn_check alike_check has_field
  to-02-nine = rw did.0 (nine (reading_in version01 a.0.now).checked (reading-numbers version01 a.0.now) _ _)

  pub to-02-refusal-keeps : (n k : ℕ) → saved_says r ≡ refused_with n k → e.1.0.now ≡ a.1.0.now
  unfolding turned_answer turned_page
  to-02-refusal-keeps n k h =
      did.1.0 ∙ saved-keeps (turn_check version01 version02 a.0.now a.1.0.now a.1.1.0) _ n k a.1.0.now _
      (sym (ap saved_says did.0) ∙ h)

  -- a lawful file of version 03 is not turned (document 02, W-213)
  pub to-02-refuses-03 : (reading_in version03 a.0.now).checked ≡ Lawful
      → (saved_says r ≡ refused_with 3 1) × (e.1.0.now ≡ a.1.0.now)
  to-02-refuses-03 lawful =
      let says = (to-02-says 3 1 (omega arith)).1 (three-of-03 a.0.now lawful).0 in
      (says, to-02-refusal-keeps 3 1 says)

module _ (κs : Lfts 2) (a : _) (e : _) (r : Result ℕ Refusal) (did : to-01.Learnt κs a r e) where
  abbrev costs-line : ℕ
  costs-line = line_of (first_other (reading_in version02 a.0.now).plan)

  abbrev differ : Bool
  differ = leb (first_other (reading_in version02 a.0.now).plan) (reading_in version02 a.0.now).plan.n

  to-01-says : (n k : ℕ) → n ≤ 8 → (saved_says r ≡ refused_with n k)
      ↔ (checked_says (reading_in version02 a.0.now).checked ≡ refused n k)
  unfolding turned_answer turn_check alike_check
  to-01-says n k few =
      let text = turned_text version02 version01 a.0.now in
      rw did.0 (early (reading_in version02 a.0.now).checked (reading-numbers version02 a.0.now)
      (no_room a.1.0.now a.1.1.0 text) (length text) (has_field (header_frame version01) Common && differ) costs-line n k few)

  -- 3 at line 1 exactly for another version
  pub to-01-three : (saved_says r ≡ refused_with 3 1) ↔ ((length a.0.now ≤ 65536) × NoHeader version02 (lines_of a.0.now))
  to-01-three =
      let says = to-01-says 3 1 (omega arith) in
      let exactly = three-exactly version02 a.0.now in
      (λ h. exactly.0 (says.0 h), λ h. says.1 (exactly.1 h))

  -- 12 with a line exactly when the moving costs of a lawful text differ, the line being that of the first string whose cost is not that
  -- of place 1
  pub to-01-twelve : (k : ℕ) → (saved_says r ≡ refused_with 12 k)
      ↔ (((reading_in version02 a.0.now).checked ≡ Lawful) × (differ ≡ true) × (costs-line ≡ k))
  unfolding turned_answer turn_check alike_check has_field
  to-01-twelve k =
      let text = turned_text version02 version01 a.0.now in
      rw did.0 (twelve (reading_in version02 a.0.now).checked (reading-numbers version02 a.0.now)
      (no_room a.1.0.now a.1.1.0 text) (length text) differ costs-line k)

  -- then 9 with 0 exactly when there is too little room
  pub to-01-nine : (saved_says r ≡ refused_with 9 0)
      ↔ (((reading_in version02 a.0.now).checked ≡ Lawful) × (refuse_if differ CostsDiffer costs-line ≡ Lawful)
      × (no_room a.1.0.now a.1.1.0 (turned_text version02 version01 a.0.now) ≡ true))
  unfolding turned_answer turn_check alike_check has_field
  to-01-nine =
      rw did.0
      (nine-after (reading_in version02 a.0.now).checked (reading-numbers version02 a.0.now) _ _ differ costs-line)

  pub to-01-refusal-keeps : (n k : ℕ) → saved_says r ≡ refused_with n k → e.1.0.now ≡ a.1.0.now
  unfolding turned_answer turned_page
  to-01-refusal-keeps n k h =
      did.1.0 ∙ saved-keeps (turn_check version02 version01 a.0.now a.1.0.now a.1.1.0) _ n k a.1.0.now _
      (sym (ap saved_says did.0) ∙ h)

  pub to-01-refuses-03 : (reading_in version03 a.0.now).checked ≡ Lawful
      → (saved_says r ≡ refused_with 3 1) × (e.1.0.now ≡ a.1.0.now)
  to-01-refuses-03 lawful =
      let says = (to-01-says 3 1 (omega arith)).1 (three-of-03 a.0.now lawful).1 in
      (says, to-01-refusal-keeps 3 1 says)

-- ---- What `miss` answered: the same arguments

-- 9 with 0 exactly when a list was found and there is too little room for its text
pub miss-nine : (κs : Lfts 2) (a : _) (e : _) (r : Result Missed Refusal) → miss.Learnt κs a r e
    → (missed_says r ≡ refused_with 9 0)
    ↔ (((reading_of a.0.now).checked ≡ Lawful)
    × ((n : Length) × (rs : Releases) × (missing_answer (reading_of a.0.now).plan ≡ Ok (missing.Found n rs))
    × (no_room a.1.0.now a.1.1.0 (saved_text version03 (with_run (reading_of a.0.now).plan n.0) rs) ≡ true)))
miss-nine κs a e r did = rw did.0 (missed-nine a.0.now a.1.0.now a.1.1.0)
