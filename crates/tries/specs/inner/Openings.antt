-- A try and a break as the code holds them, and what its searches give.
--     head_of o              the first releases of a list that begins as o says
--     try_of o l             the try that begins so, with an interval of l days
--     comes_behind o l s place t  a job of the string s at the place comes on day t behind the first releases, in an interval of l days
--     Small o               its numbers are small
--     Finds t y             the search's answer t is the try y, if there is one
--     place_of k, tries_days_of k    where the string stands that blocks, and for how many days: 0 and 0 for nobody
--     TriesBlocks k              who blocks does so for a day at least
--     Points f y            the answer f of the search for a break is the break y, if there is one
--     blocker_says q l b     the place q as the break at l and b, if there is one
use Rattle.std.specs.Prelude.{ℕ, ◌+◌, ◌≤◌, ◌≡◌, Bool, not, ◌&&◌, List, ◌++◌, Option, Some, None, option_to_list}
use Rattle.std.proofs.Math.Option.{none, some}
use Rattle.std.proofs.Math.Option as math
use Rattle.rules.specs.declared.BatteryString.{BatteryString}
use Rattle.rules.specs.declared.Release.{Release}
use Rattle.exact.specs.Missing.{first_in, comes_in, comes_first}
use Rattle.tries.specs.declared.breaks.Blocker.{Blocker}
use Rattle.tries.specs.declared.breaks.FirstBreak.{FirstBreak}
use Rattle.tries.specs.declared.openings.Opening.{Opening}
use Rattle.tries.specs.declared.search.Tried.{Tried}
use Rattle.tries.specs.Tries.{Try, Break, break_at}

abbrev pub head_of : Opening → List Release
head_of o = option_to_list o.first ++ option_to_list o.taker

abbrev pub try_of : Opening → ℕ → Try
try_of o l = record { head = head_of o; lead = o.lead; delay = o.delay; l = l }

abbrev pub comes_behind : Opening → ℕ → BatteryString → ℕ → ℕ → Bool
comes_behind o l s place t =
    not (comes_first (head_of o) place) && comes_in (first_in o.lead o.delay s) (o.lead + l) s t

pub record Small (o : Opening) : Type 0 where
  pub soon : o.lead ≤ 1002
  pub short : o.delay ≤ 2000

abbrev pub Finds : Option Tried → math.Option Try → Type 0
Finds None y = y ≡ none
Finds (Some t) y = Small t.opening × (t.l ≤ 101000) × (y ≡ some (try_of t.opening t.l))

abbrev pub place_of : Option Blocker → ℕ
place_of None = 0
place_of (Some k) = k.place

abbrev pub tries_days_of : Option Blocker → ℕ
tries_days_of None = 0
tries_days_of (Some k) = k.days

abbrev pub TriesBlocks : Option Blocker → Type 0
TriesBlocks None = Unit {0}
TriesBlocks (Some k) = 1 ≤ k.days

abbrev pub Points : Option FirstBreak → math.Option Break → Type 0
Points None y = y ≡ none
Points (Some f) y = TriesBlocks f.blocker × (y ≡ some (break_at f.l (tries_days_of f.blocker) (place_of f.blocker)))

abbrev pub blocker_says : Option ℕ → ℕ → ℕ → math.Option Break
blocker_says None l b = none
blocker_says (Some q) l b = some (break_at l b q)
