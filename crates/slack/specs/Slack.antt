-- How far a plan can be changed: of one number of one string, all else as it is, the hardest lawful value with which the plan passes.
--     string_with x v s      the string s with v for its number x: its C, D, T, moving cost A or late days J
--     plan_with p i x v      the plan p with v for the number x of its string at place i, from 1
--     says_pass a            what was answered where a verdict was asked for is a verdict, and a pass
--     passes_with p i x v    the plan with v is lawful and passes: the verdict on it says so
--     value_at x k           the value that k others are harder than: of C, A and J from 1,000 down, of D and T from 0 up. No lawful value
--                           is over 1,000
--     hardest_first x        the values 0 to 1,000, the hardest first
--     limit_from v           the limit v, or that there is none
--     limit_of p i x         the limit: the hardest value with which the plan is lawful and passes; none at a place without a string
--     limit_answer p i x     what is answered for any input: the refusal of the plan, or the limit
--     limits_of p i          the limits of all five numbers of the string at place i
--     limit_words p i s      the line of the string s of p, at place i: each number beside its limit
--     limits_shown p i       the line of the string at place i, as it is asked for; an empty text where there is none
--     slack_text p           the whole text of `clerk slack`: the verdict, then the strings by place
use Rattle.std.specs.Prelude.{ℕ, ◌-◌, Bool, false, cond, List, map, ◌++◌, get_or, set}
use Rattle.rules.specs.declared.Verdict.{Verdict}
use Rattle.faults.specs.Checks.{Refused}
use Rattle.faults.specs.declared.Refusal.{Refusal}
use Rattle.std.specs.Prelude.{Ok, Err, Result, Some, None}
use Rattle.std.proofs.Math.Option.{Option, none, some}
use Rattle.days.specs.Days.{days}
use Rattle.base.specs.Count.{up_from, first_of}
use Rattle.faults.specs.Checks.{in_bounds, or_refused}
use Rattle.rules.specs.declared.BatteryString.{BatteryString}
use Rattle.rules.specs.declared.Plan.{Plan}
use Rattle.rules.specs.Plan.{strings_of, no_string}
use Rattle.rules.specs.Verdict.{verdict_of, is_pass}
use Rattle.rules.specs.Refusal.{plan_check, verdict_answer}
use Rattle.rules.specs.Lines.{verdict_line}
use Rattle.lines.specs.declared.limits.Limits.{Limits}
use Rattle.lines.specs.Limits.{Limit, limits_line}
use Rattle.showing.specs.Shown.{in_place, in_order, on_text}
use Rattle.slack.specs.declared.Letter.{Letter}
use Rattle.slack.specs.declared.Letter.TheVariants as letter

-- ---- One number changed

abbrev pub string_with : Letter → ℕ → BatteryString → BatteryString
string_with letter.C v s = record { t = s.t; c = days v; d = s.d; x = s.x; a = s.a; j = s.j }
string_with letter.D v s = record { t = s.t; c = s.c; d = days v; x = s.x; a = s.a; j = s.j }
string_with letter.T v s = record { t = days v; c = s.c; d = s.d; x = s.x; a = s.a; j = s.j }
string_with letter.A v s = record { t = s.t; c = s.c; d = s.d; x = s.x; a = days v; j = s.j }
string_with letter.J v s = record { t = s.t; c = s.c; d = s.d; x = s.x; a = s.a; j = days v }

unfoldable pub plan_with : Plan → ℕ → Letter → ℕ → Plan
plan_with p i x v = record {
  n = p.n;
  run = p.run;
  strings = set p.strings (i - 1) (string_with x v (get_or p.strings (i - 1) no_string));
}

abbrev pub says_pass : Result Verdict Refusal → Bool
says_pass (Err e) = false
says_pass (Ok v) = is_pass v

unfoldable pub passes_with : Plan → ℕ → Letter → ℕ → Bool
passes_with p i x v = says_pass (verdict_answer (plan_with p i x v))

-- ---- The hardest

abbrev pub value_at : Letter → ℕ → ℕ
value_at letter.C k = 1000 - k
value_at letter.D k = k
value_at letter.T k = k
value_at letter.A k = 1000 - k
value_at letter.J k = 1000 - k

unfoldable pub hardest_first : Letter → List ℕ
hardest_first x = map (value_at x) (up_from 0 1001)

abbrev pub limit_from : Option ℕ → Limit
limit_from none = None
limit_from (some v) = Some v

unfoldable pub limit_of : Plan → ℕ → Letter → Limit
limit_of p i x =
    let hardest = limit_from (first_of (passes_with p i x) (hardest_first x)) in
    cond (in_bounds 1 i p.n) hardest None

unfoldable pub limit_answer : Plan → ℕ → Letter → Result Limit Refusal
limit_answer p i x =
    let v = limit_of p i x in
    or_refused Refused (plan_check p) (Ok v)

-- ---- The lines

unfoldable pub limits_of : Plan → ℕ → Limits
limits_of p i = record {
  c = limit_of p i letter.C;
  d = limit_of p i letter.D;
  t = limit_of p i letter.T;
  a = limit_of p i letter.A;
  j = limit_of p i letter.J;
}

abbrev pub limit_words : Plan → ℕ → BatteryString → List ℕ
limit_words p i s = limits_line i s (limits_of p i)

unfoldable pub limits_shown : Plan → ℕ → List ℕ
limits_shown p i = on_text (plan_check p) (in_place (limit_words p) no_string (strings_of p) i)

unfoldable pub slack_text : Plan → List ℕ
slack_text p =
    let lines = verdict_line (verdict_of p) ++ in_order (limit_words p) 1 (strings_of p) in
    on_text (plan_check p) lines
