-- The demand as the code adds it up: what the strings with one permission ask within some days.
--     Ready p               p is lawful and holds its ten strings: what the inner functions may rely on
--     asked_of p x w s       what the jobs of s within w days ask where s has permission x, 0 where it has not
--     asked_by p x w         the same of all strings of p
-- The strings with X 1 are asked about l − b days and the others about l: only the first changes with b.
use Rattle.std.specs.Coded.{×_prop, Unit-prop}
use Rattle.std.specs.Prelude.{ℕ, ◌*◌, ◌%◌, ◌≡◌, List, [], ◌∷◌, cond, eqb, length}
use Rattle.rules.specs.declared.BatteryString.{BatteryString}
use Rattle.rules.specs.declared.Plan.{Plan}
use Rattle.base.specs.Count.{All, sum_of}
use Rattle.rules.specs.Plan.{strings_of, multiple_of}
use Rattle.rules.specs.Demand.{hold_of, jobs}
use Rattle.laws.proofs.Lawful.{LawfulString, LawfulPlan}
use Rattle.std.proofs.Props.{props}

pub record Ready (p : Plan) : Type 0 where
  pub lawful : LawfulPlan p
  pub ten : length p.strings ≡ 10

-- that a plan is ready can be kept in a struct beside it: it has one proof at most
All-prop : {A : Type 0} {P : A → Type 0} → ((x : A) → IsProp (P x)) → (xs : List A) → IsProp (All P xs)
All-prop one [] = Unit-prop
All-prop one (x ∷ xs) = ×_prop (one x) (All-prop one xs)

pub Ready-prop : (p : Plan) → IsProp (Ready p)
Ready-prop p = Prim.hlevel (
  props,
  All-prop {A = BatteryString} {P = LawfulString} (λ s. Prim.hlevel props) (strings_of p),
  All-prop {A = BatteryString} {P = λ s. multiple_of p % s.t.0 ≡ 0} (λ s. Prim.hlevel props) (strings_of p),
)

unfoldable pub asked_of : Plan → ℕ → ℕ → BatteryString → ℕ
asked_of p x w s = cond (eqb s.x x) (jobs s w * hold_of p s) 0

unfoldable pub asked_by : Plan → ℕ → ℕ → ℕ
asked_by p x w = sum_of (asked_of p x w) (strings_of p)
