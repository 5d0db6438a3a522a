-- What a text says that is written for another.
--     TakesFound text new   reading `new` gives the plan of `text` with the set m in place of its own permissions, and the same releases;
--                           m is what the search finds for `text`, and with it the rule holds at every interval
use Rattle.std.specs.Prelude.{ℕ, ◌≡◌, List}
use Rattle.faults.specs.Checks.{Lawful}
use Rattle.std.specs.Prelude.{Some}
use Rattle.rules.specs.Demand.{Passes}
use Rattle.rules.specs.Search.{with_set, search_of}
use Rattle.rules.specs.Text.{reading_of}

pub record TakesFound (text new : List ℕ) : Type 0 where
  pub lawful : (reading_of new).checked ≡ Lawful
  pub m : ℕ
  pub found : search_of (reading_of text).plan ≡ Some m
  pub plan_is : (reading_of new).plan ≡ with_set (reading_of text).plan m
  pub releases_are : (reading_of new).releases ≡ (reading_of text).releases
  pub passes : Passes (reading_of new).plan
