-- Rules side by side: what each says of a plan, and what a lawful list of releases really does.
--     Ruling                passes or fails
--     Truly r h p           what the ruling r on p says of the rule with the blocker h, at every interval
--     Row                   a plan, a list of releases, four rulings, and what the run of the list says
--     Stands r              the row r is right: each ruling is true, and the run says so
use Rattle.std.specs.Prelude.{◌≡◌}
use Rattle.rules.specs.declared.Plan.{Plan}
use Rattle.rules.specs.declared.Releases.{Releases}
use Rattle.rules.specs.Refusal.{run_answer}
use Rattle.rules.specs.Said.{Said, asked_outcome_says}
use Rattle.results.specs.Blockers.{Blocker, work, hold_less, PassesBy}

pub data Ruling : Type 0 where
  passes : Ruling
  fails : Ruling

abbrev pub Truly : Ruling → Blocker → Plan → Type 0
Truly passes h p = PassesBy h p
Truly fails h p = PassesBy h p → ⊥

pub record Row : Type 0 where
  pub plan : Plan
  pub list : Releases
  pub by_c : Ruling
  pub by_e : Ruling
  pub by_e_1 : Ruling
  pub by_e_2 : Ruling
  pub run : Said

pub record Stands (r : Row) : Type 0 where
  pub printed : Truly r.by_c work r.plan
  pub whole : Truly r.by_e (hold_less 0) r.plan
  pub less_one : Truly r.by_e_1 (hold_less 1) r.plan
  pub less_two : Truly r.by_e_2 (hold_less 2) r.plan
  pub ran : asked_outcome_says (run_answer r.plan r.list) ≡ r.run
