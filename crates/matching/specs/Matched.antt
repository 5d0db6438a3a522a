-- Whether two lists hold the same strings in another order (document 02, W-209), and which string is which.
--     no_places m            an answer that has no places
--     told_by alone xs ys    where none is alone, the partners' places by place, 0 where there is no string; else the one that is alone
--     matched_of xs ys       their numbers where these differ; else as the first string without a partner decides
--     matched_says m         what the answer says: the list of places, the place of the one that is alone, or the two numbers
--     matched_line m         the line that is written for it
use Rattle.std.specs.Prelude.{ℕ, cond, List, eqb, length, take, replicate}
use Rattle.std.proofs.Math.Option.{Option, none, some}
use Rattle.base.specs.Count.{filled}
use Rattle.rules.specs.declared.BatteryString.{BatteryString}
use Rattle.lines.specs.Same.{same_line, alone_line, counts_line}
use Rattle.results.specs.Partners.{partners, first_alone}
use Rattle.matching.specs.declared.Matching.{Matching}
use Rattle.matching.specs.declared.Matching.TheVariants.{Same, Alone, Counts}
use Rattle.matching.specs.declared.Matched.{Matched}

abbrev pub no_places : Matching → Matched
no_places m = record { matching = m; places = replicate 10 0 }

abbrev pub told_by : Option ℕ → List BatteryString → List BatteryString → Matched
told_by none xs ys = record { matching = Same (length xs); places = filled 10 0 (partners xs ys) }
told_by (some i) xs ys = no_places (Alone i)

unfoldable pub matched_of : List BatteryString → List BatteryString → Matched
matched_of xs ys =
    let by-partners = told_by (first_alone xs ys) xs ys in
    cond (eqb (length xs) (length ys)) by-partners (no_places (Counts (length xs) (length ys)))

pub data MatchedSaid : Type 0 where
  same_at : List ℕ → MatchedSaid
  alone_at : ℕ → MatchedSaid
  counts : ℕ → ℕ → MatchedSaid

-- of the ten places the first `count` count
unfoldable pub matching_says : Matching → List ℕ → MatchedSaid
matching_says (Same k) places = same_at (take k places)
matching_says (Alone i) places = alone_at i
matching_says (Counts m n) places = counts m n

abbrev pub matched_says : Matched → MatchedSaid
matched_says m = matching_says m.matching m.places

unfoldable pub said_line : MatchedSaid → List ℕ
said_line (same_at ps) = same_line ps
said_line (alone_at i) = alone_line i
said_line (counts m n) = counts_line m n

unfoldable pub matched_line : Matched → List ℕ
matched_line m = said_line (matched_says m)
