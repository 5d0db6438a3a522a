-- The quick verdict as the code walks it, from one step of a job count to the next.
--     job_of p x s           what a job of s asks where s has permission x, 0 where it has not
--     Parted p every keeps takes
--                           of each string of p: its T, and what a job of it asks with permission 0 and with permission 1
--     step_after l s         the first interval after l at which the job count of s is larger
--     Due p l next          next holds that interval for each string of p
--     Mark p j m            m is one more than the last of the days below j at which the takers ask for more than a day before, or 0
--     Looked p l takers marks
--                           below interval l: takers holds what the takers ask within w days, for each w, and marks their marks up to l
--     RowKnown p l keepers more takers marks
--                           in the row of l: what the keepers ask, how much more that is than a day before, and the above up to l
--     onward p v qs         the verdict where v is the verdict so far and the pairs qs are left
--     pairs_of v             the count of pairs of a pass
use Rattle.std.specs.Prelude.{ℕ, ◌+◌, ◌-◌, ◌*◌, ◌≤◌, ◌<◌, ◌≡◌, cond, List, eqb, length, get_or}
use Rattle.rules.specs.declared.BatteryString.{BatteryString}
use Rattle.rules.specs.declared.Plan.{Plan}
use Rattle.rules.specs.declared.Verdict.{Verdict}
use Rattle.rules.specs.declared.Verdict.TheVariants.{Overload, Fail, Pass}
use Rattle.rules.specs.Plan.{no_string, leeway}
use Rattle.rules.specs.Demand.{hold_of, jobs}
use Rattle.rules.specs.Verdict.{Pair}
use Rattle.demand.proofs.Pairs.{scan_from}
use Rattle.verdict.specs.inner.Asked.{asked_by}

unfoldable pub job_of : Plan → ℕ → BatteryString → ℕ
job_of p x s = cond (eqb s.x x) (hold_of p s) 0

pub record Parted (p : Plan) (every keeps takes : List ℕ) : Type 0 where
  pub times : (i : ℕ) → i < p.n → get_or every i 0 ≡ (get_or p.strings i no_string).t.0
  pub kept : (i : ℕ) → i < p.n → get_or keeps i 0 ≡ job_of p 0 (get_or p.strings i no_string)
  pub took : (i : ℕ) → i < p.n → get_or takes i 0 ≡ job_of p 1 (get_or p.strings i no_string)

unfoldable pub step_after : ℕ → BatteryString → ℕ
step_after l s = jobs s l * s.t.0 + leeway s

pub record Due (p : Plan) (l : ℕ) (next : List ℕ) : Type 0 where
  pub size : length next ≡ 10
  pub each : (i : ℕ) → i < p.n → get_or next i 0 ≡ step_after l (get_or p.strings i no_string)

pub record Mark (p : Plan) (j m : ℕ) : Type 0 where
  pub within : m ≤ j
  pub still : (w : ℕ) → m ≤ w → w < j → asked_by p 1 w ≡ asked_by p 1 (w - 1)
  pub rises : (w : ℕ) → m ≡ w + 1 → asked_by p 1 (w - 1) < asked_by p 1 w

pub record Looked (p : Plan) (l : ℕ) (takers marks : List ℕ) : Type 0 where
  pub known : (w : ℕ) → w < l → get_or takers w 0 ≡ asked_by p 1 w
  pub marked : (j : ℕ) → j < l + 1 → Mark p j (get_or marks j 0)

pub record RowKnown (p : Plan) (l keepers more : ℕ) (takers marks : List ℕ) : Type 0 where
  pub pos : 1 ≤ l
  pub short : l ≤ 1000
  pub kept : keepers ≡ asked_by p 0 l
  pub grown : more + asked_by p 0 (l - 1) ≡ asked_by p 0 l
  pub looked : Looked p (l + 1) takers marks

unfoldable pub onward : Plan → Verdict → List Pair → Verdict
onward p Overload qs = Overload
onward p (Fail l b d k) qs = Fail l b d k
onward p (Pass k) qs = scan_from p k qs

unfoldable pub pairs_of : Verdict → ℕ
pairs_of Overload = 0
pairs_of (Fail l b d k) = 0
pairs_of (Pass k) = k
