-- What is said where a plan file is given: what was read is lawful, and it is that plan and those releases.
use Rattle.base.proofs.Prelude.{◌≡◌, refl, ap}
use Rattle.std.specs.Prelude.{Result, Ok, Err}
use Rattle.faults.specs.Checks.{Lawful, Refused, Checked, or_refused}
use Rattle.faults.specs.declared.Refusal.{Refusal}
use Rattle.faults.proofs.Checks.{err-not-ok}
use Rattle.rules.specs.declared.PlanFile.{PlanFile}
use Rattle.rules.specs.Text.{Reading, said_in}
use Rattle.rules.specs.Said.{checked_says}
use Rattle.promise.specs.FileSaid.{file_says}

pub record GivenAs (r : Reading) (o : PlanFile) : Type 0 where
  pub lawful : r.checked ≡ Lawful
  pub plan : r.plan ≡ o.plan
  pub releases : r.releases ≡ o.releases

pub given-as : (r : Reading) (o : PlanFile) → said_in r ≡ Ok o → GivenAs r o
given-as r o h =
    let parts = go r.checked h in
    record { lawful = parts.0; plan = ap (λ (f : PlanFile). f.plan) parts.1; releases = ap (λ (f : PlanFile). f.releases) parts.1 }
  where
    file : PlanFile
    file = record { plan = r.plan; releases = r.releases }

    go : (c : Checked) → or_refused Refused c (Ok file) ≡ Ok o → (c ≡ Lawful) × (file ≡ o)
    go (Ok _) e = (refl, cc)
    go (Err f) e = absurd (err-not-ok f o e)

pub given-lawful : (r : Reading) → r.checked ≡ Lawful → said_in r ≡ Ok (record { plan = r.plan; releases = r.releases })
given-lawful r h = ap (λ c. or_refused Refused c (Ok (record { plan = r.plan; releases = r.releases }))) h

-- what is said of the file is what its check says
pub file-says : (r : Reading) → file_says (said_in r) ≡ checked_says r.checked
file-says r = go r.checked
  where
    go : (c : Checked) → file_says (or_refused Refused c (Ok (record { plan = r.plan; releases = r.releases }))) ≡ checked_says c
    go (Ok _) = refl
    go (Err e) = refl
