-- A plan made easier (document 02, W-212): some C falls, some T grows, some D grows, some moving cost falls, or a string is dropped; the
-- permissions stay. With late days (W-213) J may fall too, and D grows only where J is 0.
--     Eased old new         the string `new` is `old` with C, J and the moving cost no larger, T and D no smaller, D larger only where J is
--                           0 in the new plan, and the same X
--     EasedStrings ss ts    the strings `ts` are those of `ss` in their order, each eased or dropped
--     EasedPlan p q         the strings of the plan q are those of p, each eased or dropped
-- Any number of changes at once, none included. N is free: the demand rule does not speak of it. That the new plan is lawful, so that one
-- string at least is left, is said beside this where it is asked.
use Rattle.std.specs.Prelude.{◌≤◌, ◌<◌, ◌≡◌, List, [], ◌∷◌}
use Rattle.rules.specs.declared.BatteryString.{BatteryString}
use Rattle.rules.specs.declared.Plan.{Plan}
use Rattle.rules.specs.Plan.{strings_of}

pub record Eased (old new : BatteryString) : Type 0 where
  pub work : new.c.0 ≤ old.c.0
  pub apart : old.t.0 ≤ new.t.0
  pub due : old.d.0 ≤ new.d.0
  pub late : new.j.0 ≤ old.j.0
  pub grown : old.d.0 < new.d.0 → new.j.0 ≡ 0
  pub moving : new.a.0 ≤ old.a.0
  pub permission : new.x ≡ old.x

pub data EasedStrings : List BatteryString → List BatteryString → Type 0 where
  end : EasedStrings [] []
  eased : {old new : BatteryString} {olds news : List BatteryString} → Eased old new → EasedStrings olds news
      → EasedStrings (old ∷ olds) (new ∷ news)
  dropped : {old : BatteryString} {olds news : List BatteryString} → EasedStrings olds news → EasedStrings (old ∷ olds) news

abbrev pub EasedPlan : Plan → Plan → Type 0
EasedPlan p q = EasedStrings (strings_of p) (strings_of q)
