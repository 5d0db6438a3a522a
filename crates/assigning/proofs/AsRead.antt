-- What was read decides what `assign` answers and leaves in the page: a refusal, or what is put for the plan and the releases of the file.
use Rattle.base.proofs.Prelude.{ℕ, ◌≡◌, sym, ap, List}
use Rattle.std.specs.Prelude.{Result, Ok, Err}
use Rattle.faults.specs.{declared.Refusal.Refusal, Checks.{Refused, Lawful, Checked, or_refused}}
use Rattle.faults.proofs.Checks.{err-not-ok, or_refused-lawful}
use Rattle.rules.specs.{declared.PlanFile.PlanFile, Refusal.search_answer, Text.{Reading, reading_of, said_in}}
use Rattle.assigning.specs.Assigned.{set_answered, set_page, assigned_answer, assigned_page}

-- what the code has of what is read
abbrev file_of : Reading → PlanFile
file_of r = record { plan = r.plan; releases = r.releases }

refused-by : (e : Refusal) (k : Checked) (r : Reading) → Err e ≡ or_refused Refused k (Ok (file_of r)) → k ≡ Err e
refused-by e (Ok _) r h = absurd (err-not-ok e _ h)
refused-by e (Err d) r h =
    let there : ◌≡◌ {A = Result PlanFile Refusal} (Err e) (Err d) = h in
    let same : d ≡ e = cc in
    ap Err same

module _ (text page : List ℕ) (at : ℕ) where
  module _ (e : Refusal) (read : Err e ≡ said_in (reading_of text)) where
    is : (reading_of text).checked ≡ Err e
    is = refused-by e (reading_of text).checked (reading_of text) read

    pub refused-answer : Err e ≡ assigned_answer text page at
    unfolding assigned_answer
    refused-answer = rw is

    pub refused-page : page ≡ assigned_page text page at
    unfolding assigned_page
    refused-page = rw is

  module _ (file : PlanFile) (read : Ok file ≡ said_in (reading_of text)) where
    abbrev found : Result PlanFile Refusal
    found = Ok (file_of (reading_of text))

    facts : ((reading_of text).checked ≡ Lawful) × (found ≡ Ok file)
    facts = or_refused-lawful Refused (reading_of text).checked _ _ (λ f at h. err-not-ok _ _ h) (sym read)

    same_file : file ≡ file_of (reading_of text)
    same_file =
        let same : ◌≡◌ {A = Result PlanFile Refusal} (Ok (file_of (reading_of text))) (Ok file) = facts.1 in
        cc

    pub put-answer : set_answered file.plan file.releases page at (search_answer file.plan) ≡ assigned_answer text page at
    unfolding assigned_answer
    put-answer =
        rw facts.0 (ap (λ (f : PlanFile). set_answered f.plan f.releases page at (search_answer f.plan)) same_file)

    pub put-page : set_page file.plan file.releases page at (search_answer file.plan) ≡ assigned_page text page at
    unfolding assigned_page
    put-page =
        rw facts.0 (ap (λ (f : PlanFile). set_page f.plan f.releases page at (search_answer f.plan)) same_file)
