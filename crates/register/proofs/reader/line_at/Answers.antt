-- Each test decides what the definition decides.
use Rattle.base.proofs.Prelude.{◌+◌, ◌≤◌, ◌≡◌, ◌≢◌, sym, ap, ◌∙◌, rules, ℕ, List, [], ◌∷◌, ◌++◌, eqb, length, drop, take}
use Rattle.std.specs.Prelude.{Some, None, position}
use Rattle.std.proofs.lemmas.Bool.Decides.{Decides-eqb}
use Rattle.std.proofs.lemmas.Slice.Eq.{strip_suffix_is}
use Rattle.writing.proofs.Texts.{lent-part}
use Rattle.register.proofs.Given.{given-end, given-open, given-other, given-numbers}
use Rattle.register.proofs.reader.line_at.Goals as goal
use Rattle.register.proofs.reader.line_at.Goals.{in-Some-strip_suffix, in-None}

pub returns-in_default : goal.returns-in_default
returns-in_default g c =
    let over : length c.args.text.now ≤ c.args.at = search rules in
    record { exact = given-end g.row.N c.args.most c.args.text.now c.args.at over }

pub returns-in_default-place_of : goal.returns-in_default-place_of
returns-in_default-place_of g c =
    let text = c.args.text.now in
    let inside : c.args.at ≤ length text = search rules in
    let rest : c.in-Some.rest.now ≡ drop c.args.at text = c.in-Some.ensures.lookup.0.2 ∙ lent-part c.args.at text in
    let none : position (λ b. eqb b 0x0a) c.in-Some.rest.now ≡ None = sym c.place_of.ensures.exact ∙ c.in_default-place_of.is in
    record { exact = given-open g.row.N c.args.most text c.args.at inside (rw rest at none) }

pub returns : goal.returns
returns g c =
    let text = c.args.text.now in
    let at = c.args.at in
    let end = c.in-Some-place_of.end in
    let rest : c.in-Some.rest.now ≡ drop at text = c.in-Some.ensures.lookup.0.2 ∙ lent-part at text in
    let found : position (λ b. eqb b 0x0a) c.in-Some.rest.now ≡ Some end = sym c.place_of.ensures.exact ∙ c.in-Some-place_of.is in
    let place = rw rest at found in
    let suffix = strip_suffix_is Decides-eqb (take end c.in-Some.rest.now) (0x0d ∷ []) c.strip_suffix.result c.strip_suffix.ensures.cases in
    elim c.match-strip_suffix.branch [
      | in-Some-strip_suffix w ↦
          let row = w.in-Some-strip_suffix.row.now in
          let ended : take end c.in-Some.rest.now ≡ row ++ (0x0d ∷ []) = rw w.in-Some-strip_suffix.is at suffix in
          record {
            exact =
                ap (λ ns. record { numbers = ns; next = at + end + 1 }) (w.numbers-is ∙ w.numbers_in-numbers.ensures.exact)
                ∙ given-numbers g.row.N c.args.most text at end place row (rw rest at ended);
          }
      | in-None w ↦
          let other : (row : List ℕ) → take end c.in-Some.rest.now ≢ row ++ (0x0d ∷ []) = rw w.in-None.is at suffix in
          record {
            exact =
                ap (λ ns. record { numbers = ns; next = at + end + 1 }) w.numbers-is
                ∙ given-other g.row.N c.args.most text at end place (rw rest at other);
          }
    ]
