-- How far a plan can be changed, of what the code answered: with the limit the plan is lawful and passes; with no lawful value beyond it
-- does it pass; with every lawful value between it and the easy end it does, of D where J is 0. Where no limit is given, no lawful value
-- passes. So a plan that is changed within its limit is never late. The lines that the code gave, put together, are the whole text.
use Rattle.base.proofs.Prelude.{ℕ, ◌-◌, ◌≤◌, ◌≡◌, sym, ◌∙◌, true, ◌++◌, arith, length, get_or}
use Rattle.rules.specs.declared.Verdict.{Verdict}
use Rattle.faults.specs.Checks.{Lawful}
use Rattle.faults.specs.declared.Refusal.{Refusal}
use Rattle.std.specs.Prelude.{Ok, Result, Some, None}
use Rattle.lines.specs.Limits.{Limit}
use mathlib.Core.List.{flat_map}
use Rattle.base.specs.Count.{up_from}
use Rattle.rules.specs.declared.Plan.{Plan}
use Rattle.rules.specs.Plan.{no_string}
use Rattle.rules.specs.Refusal.{plan_check}
use Rattle.rules.specs.Lines.{asked_line}
use Rattle.laws.proofs.{Lawful.plan_check-lawful, Answers.verdict-lawful}
use Rattle.lines.specs.{declared.Page.Page, Pages.text_of}
use Rattle.lines.proofs.Growing.{text-is}
use Rattle.slack.specs.declared.Letter.{Letter}
use Rattle.slack.specs.Slack.{plan_with, limit_of, limits_shown, slack_text}
use Rattle.slack.specs.Beyond.{Harder, gapless, LawfulWith, IsLimit, NoLimit}
use Rattle.slack.proofs.{Limited.limit-given, Meaning.{limit_is, limit-none}, InItsPlace.slack-whole}
use Rattle.promise.specs.NeverMiss.{NeverMiss}
use Rattle.promise.proofs.{NeverMisses.rule-never-misses, Whiteboard.pages-same}
use Rattle.slack.proofs.limit_at.Reads as limit-at
use Rattle.slack.proofs.limits_shown.Reads as limits-shown
use Rattle.verdict.proofs.verdict.Reads as verdict
use Rattle.lines.proofs.verdict_written.Reads as verdict-written
use contract.Lifetimes.{Lfts}

given_is : (a b : Limit) → ◌≡◌ {A = Result Limit Refusal} (Ok a) (Ok b) → a ≡ b
given_is a b h = cc

module _ (κs : Lfts 0) (p : Plan) (i : ℕ) (x : Letter) (r : Result Limit Refusal) (e : _)
    (answered-is : limit-at.Learnt κs (p, (i, (x, tt))) r e)
    (lawful : plan_check p ≡ Lawful) (ten : length p.strings ≡ 10) (low : 1 ≤ i) (high : i ≤ p.n) where
  room : p.n ≤ length p.strings
  room = omega (arith, (plan_check-lawful p lawful).n_max)

  told : (l : Limit) → r ≡ Ok l → limit_of p i x ≡ l
  told l said = given_is (limit_of p i x) l (sym (limit-given p i x lawful) ∙ sym answered-is ∙ said)

  -- the limit, in the planner's words
  pub limit-answered : (v : ℕ) → r ≡ Ok (Some v) → IsLimit p i x v
  limit-answered v said = limit_is p i x low high room v (told (Some v) said)

  pub none-answered : r ≡ Ok None → NoLimit p i x
  none-answered said = limit-none p i x low high room (told None said)

  -- with the limit the plan is never late, and so it is with every lawful value that is easier
  pub limit-never-misses : (v : ℕ) → r ≡ Ok (Some v) → NeverMiss (plan_with p i x v)
  limit-never-misses v said = rule-never-misses (plan_with p i x v) (limit-answered v said).passes

  pub within-limit-never-misses : (v : ℕ) → r ≡ Ok (Some v) → gapless x (get_or p.strings (i - 1) no_string) ≡ true
      → (w : ℕ) → Harder x v w → LawfulWith p i x w → NeverMiss (plan_with p i x w)
  within-limit-never-misses v said no_gaps w easier ok =
      rule-never-misses (plan_with p i x w) ((limit-answered v said).between no_gaps w easier ok)

-- head is the page of the verdict that was given, strings i that of place i: the clerk writes them in this order
module _ (κs : Lfts 0) (p : Plan) (given : Result Verdict Refusal) (head : Page) (strings : ℕ → Page) (d e : _) (f : ℕ → _)
    (judged : verdict.Learnt κs (p, tt) given d) (headed : verdict-written.Learnt κs (given, tt) head e)
    (placed : (i : ℕ) → limits-shown.Learnt κs (p, (i, tt)) (strings i) (f i)) where
  pub slack-shows-whole : plan_check p ≡ Lawful → text_of head ++ flat_map (λ i. text_of (strings i)) (up_from 1 p.n) ≡ slack_text p
  unfolding asked_line
  slack-shows-whole lawful =
      let answered = judged ∙ verdict-lawful p lawful in
      let by_place = pages-same strings (limits_shown p) (λ i. text-is (strings i) _ (placed i)) (up_from 1 p.n) in
      rw (text-is head _ headed, answered, by_place) (slack-whole p lawful)
