-- the set stands at its place in the order, and nothing beside it
use Rattle.base.proofs.Prelude.{ℕ, ◌*◌, ◌^◌, ◌%◌, ◌≤◌, ◌<◌, ◌≡◌, sym, ap, ◌∙◌, List, arith, one-mul, mod-eq_of_lt}
use Rattle.std.proofs.lemmas.Grind.{common_steps}
use Rattle.rules.specs.{Found.Assign, declared.Plan.Plan, Search.ordered}
use Rattle.laws.proofs.Powers.{sets-small}
use Rattle.lines.specs.Pages.{page_of}
use Rattle.showing.proofs.InPlace.{in_place-there, in_place-none}
use Rattle.sets.specs.Sets.{set_words}
use Rattle.sets.proofs.Ranking.{sets-many}
use Rattle.sets.proofs.set_in.Goals as goal

abbrev line : Plan → Assign → ℕ → ℕ → List ℕ
line p a i m = set_words p a m

shifted : (n : ℕ) → n ≤ 10 → 1 * 2 ^ n % 2 ^ 64 ≡ 2 ^ n
shifted n h =
    let small : 2 ^ n < 2 ^ 64 = omega (arith, sets-small n h) in
    ap (λ k. k % 2 ^ 64) (one-mul (2 ^ n)) ∙ mod-eq_of_lt small

pub returns-then-not-contains : goal.returns-then-not-contains
returns-then-not-contains c =
    let n = c.args.p.n in
    let all : 1 * 2 ^ n % 18446744073709551616 ≡ 2 ^ n = shifted n c.requires in
    let many = sets-many n in
    record {
      exact = c.blank.ensures.exact
          ∙ ap page_of (sym (in_place-none (line c.args.p c.args.found) 0 (ordered n) c.args.k
          (λ low high. let out : ⊥ = grind (arith, common_steps) in out)));
    }

pub set_in_order-requires : goal.set_in_order-requires
set_in_order-requires c =
    let n = c.args.p.n in
    let all : 1 * 2 ^ n % 18446744073709551616 ≡ 2 ^ n = shifted n c.requires in
    let low : 1 ≤ c.args.k = grind (arith, common_steps) in
    let high : c.args.k ≤ 2 ^ n = grind (arith, common_steps) in
    record { n_bound = c.requires; k_bound = omega arith }

pub returns : goal.returns
returns c =
    let n = c.args.p.n in
    let all : 1 * 2 ^ n % 18446744073709551616 ≡ 2 ^ n = shifted n c.requires in
    let low : 1 ≤ c.args.k = grind (arith, common_steps) in
    let high : c.args.k ≤ 2 ^ n = grind (arith, common_steps) in
    let there = in_place-there (line c.args.p c.args.found) 0 (ordered n) c.args.k low (omega (arith, sets-many n)) in
    record {
      exact = c.set_words.ensures.exact
          ∙ ap (λ m. page_of (set_words c.args.p c.args.found m)) c.set_in_order.ensures.exact
          ∙ ap page_of (sym there);
    }
