-- The answers of the entries: the check decides, and a lawful plan gets the answer of the rules.
use Rattle.base.proofs.Prelude.{ℕ, ◌^◌, ◌≡◌, ◌∙◌, leb}
use Rattle.faults.specs.Checks.{Refused, Lawful}
use Rattle.std.specs.Prelude.{Ok}
use Rattle.rules.specs.{declared.Plan.Plan, declared.Releases.Releases, Release.releases_of, Run.run_of, Plan.strings_of, Verdict.{all_pairs, first_broken, broken_at, verdict_of}, Search.{with_set, search_of}, Refusal.{head_check, strings_check, multiple_check, plan_check, set_check, run_check, verdict_answer, break_answer, set_answer, search_answer, run_answer}, Figures.{figures_of, figures_answer}}
use Rattle.faults.specs.declared.Fault.{Fault}
use Rattle.faults.specs.declared.Fault.TheVariants.{OutOfBounds}
use Rattle.faults.specs.Checks.{then, refuse_if}
use Rattle.faults.proofs.Checks.{then-first, then-second, then-lawful}

pub verdict-lawful : (p : Plan) → plan_check p ≡ Lawful → verdict_answer p ≡ Ok (verdict_of p)
unfolding verdict_answer
verdict-lawful p h = rw h

pub verdict-refused : (p : Plan) (f : Fault) (at : ℕ) → plan_check p ≡ Refused f at → verdict_answer p ≡ Refused f at
unfolding verdict_answer
verdict-refused p f at h = rw h

pub break-lawful : (p : Plan) → plan_check p ≡ Lawful → break_answer p ≡ Ok (broken_at (first_broken p (all_pairs p)))
unfolding break_answer
break-lawful p h = rw h

pub break-refused : (p : Plan) (f : Fault) (at : ℕ) → plan_check p ≡ Refused f at → break_answer p ≡ Refused f at
unfolding break_answer
break-refused p f at h = rw h

pub set-lawful : (p : Plan) (m : ℕ) → set_check p m ≡ Lawful → set_answer p m ≡ Ok (verdict_of (with_set p m))
unfolding set_answer
set-lawful p m h = rw h

pub set-refused : (p : Plan) (m : ℕ) (f : Fault) (at : ℕ) → set_check p m ≡ Refused f at → set_answer p m ≡ Refused f at
unfolding set_answer
set-refused p m f at h = rw h

pub search-lawful : (p : Plan) → plan_check p ≡ Lawful → search_answer p ≡ Ok (search_of p)
unfolding search_answer
search-lawful p h = rw h

pub search-refused : (p : Plan) (f : Fault) (at : ℕ) → plan_check p ≡ Refused f at → search_answer p ≡ Refused f at
unfolding search_answer
search-refused p f at h = rw h

pub figures-lawful : (p : Plan) → plan_check p ≡ Lawful → figures_answer p ≡ Ok (figures_of p)
unfolding figures_answer
figures-lawful p h = rw h

pub figures-refused : (p : Plan) (f : Fault) (at : ℕ) → plan_check p ≡ Refused f at → figures_answer p ≡ Refused f at
unfolding figures_answer
figures-refused p f at h = rw h

-- a plan that is lawful with a set is lawful
pub set-plan : (p : Plan) (m : ℕ) → set_check p m ≡ Lawful → plan_check p ≡ Lawful
unfolding set_check plan_check
set-plan p m h =
    let head = head_check 0 p.n p.run.0 in
    let strings = then (strings_check 1 (strings_of p)) (multiple_check 0 p) in
    let few = refuse_if (leb (2 ^ p.n) m) OutOfBounds 0 in
    let rest = then-second head (then few strings) h in
    then-lawful head strings (then-first head (then few strings) h) ∙ then-second few strings rest

pub run-lawful : (p : Plan) (rs : Releases) → run_check p rs ≡ Lawful → run_answer p rs ≡ Ok (run_of p (releases_of rs))
unfolding run_answer
run-lawful p rs h = rw h

pub run-refused : (p : Plan) (rs : Releases) (f : Fault) (at : ℕ) → run_check p rs ≡ Refused f at
    → run_answer p rs ≡ Refused f at
unfolding run_answer
run-refused p rs f at h = rw h
