-- The line of a string by its place: which stands there, and where none does. All of them, put together.
use Rattle.base.proofs.Prelude.{ℕ, ◌-◌, ◌≤◌, ◌≡◌, sym, ap, ◌∙◌, [], ◌++◌, arith, length, get_or, length-take, get_or-take}
use Rattle.faults.specs.Checks.{Lawful}
use mathlib.Core.List.{flat_map}
use Rattle.base.specs.Count.{up_from}
use Rattle.rules.specs.{declared.Plan.Plan, Plan.{strings_of, no_string}, Verdict.verdict_of, Refusal.plan_check, Lines.verdict_line}
use Rattle.lines.specs.{declared.limits.Limits.Limits, Limits.limits_line}
use Rattle.showing.specs.Shown.{in_place, in_order, on_text}
use Rattle.showing.proofs.{InPlace.{in_place-there, in_place-none}, Whole.all-places}
use Rattle.slack.specs.Slack.{limits_of, limit_words, limits_shown, slack_text}

module _ (p : Plan) (i : ℕ) where
  pub words-none : (1 ≤ i → i ≤ p.n → i ≤ length p.strings → ⊥) → in_place (limit_words p) no_string (strings_of p) i ≡ []
  words-none out =
      let many = length-take p.n p.strings in
      in_place-none (limit_words p) no_string (strings_of p) i (λ low high. out low (omega arith) (omega arith))

  pub words-there : 1 ≤ i → i ≤ p.n → i ≤ length p.strings → (limits : Limits) → limits ≡ limits_of p i
      → limits_line i (get_or p.strings (i - 1) no_string) limits ≡ in_place (limit_words p) no_string (strings_of p) i
  words-there low high room limits are =
      let many = length-take p.n p.strings in
      let string = get_or-take p.n p.strings (i - 1) no_string (omega arith) in
      ap (limits_line i (get_or p.strings (i - 1) no_string)) are
      ∙ ap (λ s. limits_line i s (limits_of p i)) (sym string)
      ∙ sym (in_place-there (limit_words p) no_string (strings_of p) i low (omega arith))

-- for a lawful plan the lines that are asked for by place, behind the verdict's, are the whole text
pub slack-whole : (p : Plan) → plan_check p ≡ Lawful → verdict_line (verdict_of p) ++ flat_map (limits_shown p) (up_from 1 p.n)
    ≡ slack_text p
unfolding limits_shown slack_text
slack-whole p lawful =
    let strings : flat_map (limits_shown p) (up_from 1 p.n) ≡ in_order (limit_words p) 1 (strings_of p) =
    ap (λ check. flat_map (λ i. on_text check (in_place (limit_words p) no_string (strings_of p) i)) (up_from 1 p.n)) lawful
    ∙ all-places (limit_words p) no_string (strings_of p) p.n (omega (arith, length-take p.n p.strings)) in
    rw (strings, lawful)
