-- `naming::said::number_in` meets its contract: the number so far, with the bytes that are left, is the whole.
use Rattle.base.proofs.Prelude.{ℕ, suc, ◌+◌, ◌-◌, ◌*◌, ◌^◌, ◌≤◌, ◌<◌, ◌≡◌, sym, ap, ◌∙◌, List, arith, rules, get_or}
use Rattle.reading.proofs.Hex.{digit_of-le}
use Rattle.naming.specs.inner.Bytes.{number_at}
use Rattle.naming.proofs.Numbers.{number_rest, rest-step, pair_is, rest-ends, rest-none, rest-whole, worth-more, worth-most}
use Rattle.naming.proofs.said.number_in.Statement.{statement}
use Rattle.naming.proofs.said.number_in.Tie as tie

abbrev invariant-loop : tie.invariant-loop-i
invariant-loop line at size end v₀ i₀ v i =
    (at ≤ i) × (i ≤ at + size) × (number_rest line v i (at + size - i) ≡ number_at line at size) × (v + 2 ≤ 2 * 256 ^ (i - at))

abbrev decreases-loop : tie.decreases-loop-i
decreases-loop line at size end v₀ i₀ v i = at + size - i

abbrev start : tie.At-loop-i invariant-loop decreases-loop → tie.Start invariant-loop decreases-loop
start o = o.before.before

abbrev line_of : tie.At-loop-i invariant-loop decreases-loop → List ℕ
line_of o = (start o).args.line.now

loop-holds : tie.Need-loop-i-init invariant-loop decreases-loop
loop-holds c =
    let s = c.before in
    let all : s.args.at + s.args.size - s.args.at ≡ s.args.size = omega arith in
    let none : s.args.at - s.args.at ≡ 0 = omega arith in
    (omega arith, omega arith, rw all (rest-whole s.args.line.now s.args.at s.args.size), rw none (omega arith))

-- at most three bytes so far
below : (o : tie.At-loop-i invariant-loop decreases-loop) → o.loop-i.i < (start o).args.at + (start o).args.size → o.loop-i.v + 2 ≤ 33554432
below o h =
    let few = worth-most (o.loop-i.i - (start o).args.at) 3 (omega (arith, (start o).requires)) in
    omega (arith, o.loop-i.invariant.3)

-- and at most four in all
most : (o : tie.At-loop-i invariant-loop decreases-loop) → o.loop-i.v + 2 ≤ 2 * 256 ^ (start o).args.size
most o =
    let few = worth-most (o.loop-i.i - (start o).args.at) (start o).args.size (omega (arith, o.loop-i.invariant.1)) in
    omega (arith, o.loop-i.invariant.3)

returns : tie.Need-returns-then-line-i invariant-loop decreases-loop
returns c =
    let o = c.before.before in (
      sym (rest-ends (line_of o) o.loop-i.v o.loop-i.i ((start o).args.at + (start o).args.size - o.loop-i.i) (omega arith))
          ∙ o.loop-i.invariant.2,
      most o,
    )

abbrev at_of : tie.After-digit-in-loop-i invariant-loop decreases-loop → tie.At-loop-i invariant-loop decreases-loop
at_of c = c.before.before.before.before.before.before

first_small : (c : tie.After-digit invariant-loop decreases-loop) → c.digit.result ≤ 16
first_small c =
    let o = c.before.before.before.before.before in
    omega (arith, c.digit.ensures, digit_of-le (get_or (line_of o) (2 * o.loop-i.i) 0))

second-small : (c : tie.After-digit-in-loop-i invariant-loop decreases-loop) → c.digit-in-loop-i.result ≤ 16
second-small c =
    let o = at_of c in
    omega (arith, c.digit-in-loop-i.ensures, digit_of-le (get_or (line_of o) (2 * o.loop-i.i + 1) 0))

loop-again : tie.Need-loop-i-preserved invariant-loop decreases-loop
loop-again c =
    let o = at_of c in
    let s = start o in
    let line = line_of o in
    let i = o.loop-i.i in
    let pair = pair_is _ _ _ _ c.digit.ensures c.digit-in-loop-i.ensures in
    let step : suc (s.args.at + s.args.size - (i + 1)) ≡ s.args.at + s.args.size - i = omega arith in
    let next : i + 1 - s.args.at ≡ i - s.args.at + 1 = omega arith in (
      omega arith,
      omega arith,
      rest-step line o.loop-i.v i (s.args.at + s.args.size - (i + 1)) _ (omega arith) pair
          ∙ ap (λ m. number_rest line o.loop-i.v i m) step ∙ o.loop-i.invariant.2,
      rw next (worth-more (i - s.args.at) o.loop-i.v _ o.loop-i.invariant.3 (omega (arith, first_small c.before, second-small c))),
    )

returns-2 : tie.Need-returns invariant-loop decreases-loop
returns-2 c =
    let o = c.before in
    let none : (start o).args.at + (start o).args.size - o.loop-i.i ≡ 0 = omega arith in (
      sym (rest-none (line_of o) o.loop-i.v o.loop-i.i) ∙ ap (λ m. number_rest (line_of o) o.loop-i.v o.loop-i.i m) (sym none)
          ∙ o.loop-i.invariant.2,
      most o,
    )

pub number_in_spec : {M : Type 1} → statement M
number_in_spec =
    tie.close (tie.spec
    invariant-loop decreases-loop (λ c. omega arith) loop-holds (λ c. omega arith) (λ c. omega arith) returns (λ c. omega arith)
    (λ c. omega arith) (λ c. omega arith) (λ c. omega arith) (λ c. omega arith)
    (λ c. omega (arith, below c.before.before.before.before (omega arith))) (λ c κs. search rules)
    (λ c. omega (arith, first_small c)) (λ c κs. search rules)
    (λ c. omega (arith, first_small c.before, second-small c))
    (λ c. omega (arith, first_small c.before, second-small c, below (at_of c) (omega arith)))
    (λ c. omega arith) (λ c. omega arith) loop-again returns-2)
