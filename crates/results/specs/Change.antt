-- A change of a plan, as a row that a class can read (document 02, W-212): the plan before and after, and what the verdict says of each.
--     Change                both plans, and what is said of the one and of the other
--     SaysBoth c            the verdicts say so
--     Eases c               the change c is on the list: each string is eased or dropped, the permissions stay, and the new plan is lawful
--     Hurts c               before the change c the plan passes at every interval, after it the rule breaks
--     Dropped p q i         q is the plan p, of two strings or more, without the string at place i, from 1
use Rattle.std.specs.Prelude.{ℕ, ◌+◌, ◌-◌, ◌≤◌, ◌≡◌, ◌++◌, take, drop}
use Rattle.faults.specs.Checks.{Lawful}
use Rattle.rules.specs.declared.Plan.{Plan}
use Rattle.rules.specs.Plan.{strings_of}
use Rattle.rules.specs.Demand.{Passes}
use Rattle.rules.specs.Refusal.{plan_check, verdict_answer}
use Rattle.rules.specs.Said.{Said, asked_verdict_says}
use Rattle.results.specs.Easing.{EasedPlan}

pub record Change : Type 0 where
  pub before : Plan
  pub after : Plan
  pub said : Said
  pub says : Said

pub record SaysBoth (c : Change) : Type 0 where
  pub was : asked_verdict_says (verdict_answer c.before) ≡ c.said
  pub is : asked_verdict_says (verdict_answer c.after) ≡ c.says

pub record Eases (c : Change) : Type 0 where
  pub easier : EasedPlan c.before c.after
  pub lawful : plan_check c.after ≡ Lawful
  pub both : SaysBoth c

pub record Hurts (c : Change) : Type 0 where
  pub passed : Passes c.before
  pub breaks : Passes c.after → ⊥
  pub both : SaysBoth c

pub record Dropped (p q : Plan) (i : ℕ) : Type 0 where
  pub two_or_more : 2 ≤ p.n
  pub place : (1 ≤ i) × (i ≤ p.n)
  pub one_less : q.n + 1 ≡ p.n
  pub others : strings_of q ≡ take (i - 1) (strings_of p) ++ drop i (strings_of p)
  pub same_run : q.run ≡ p.run
