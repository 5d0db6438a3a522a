-- A plan that is shown: the text of `clerk show`, and each of its lines as it is asked for.
--     in_place line z xs k   the line of the k-th of xs, from 1, and an empty text where there is none; z stands for no element
--     in_order line k xs     the lines of all of xs, one behind the other, the first of them as the k-th
--     on_text check text     the text where a check finds nothing, and the refusal's line where it finds a fault
--     string_words p i s     the line of the string s of p, at place i, with its E
--     plan_shown p           the line of the plan
--     string_shown p i       the line of the string at place i
--     load_shown p           the line of H and the load
--     release_shown rs k     the line of the k-th release
--     shown_text p rs        the whole text: the plan, its strings by place, H and the load, the releases in their order
use Rattle.std.specs.Prelude.{ℕ, suc, ◌-◌, cond, List, [], ◌∷◌, ◌++◌, length, get_or}
use Rattle.faults.specs.Checks.{Checked}
use Rattle.std.specs.Prelude.{Ok, Err}
use Rattle.faults.specs.Checks.{in_bounds}
use Rattle.rules.specs.declared.BatteryString.{BatteryString}
use Rattle.rules.specs.declared.Plan.{Plan}
use Rattle.rules.specs.declared.Releases.{Releases}
use Rattle.rules.specs.Plan.{strings_of, no_string, multiple_of}
use Rattle.rules.specs.Demand.{hold_of, load}
use Rattle.rules.specs.Release.{releases_of, no_release}
use Rattle.rules.specs.Refusal.{plan_check}
use Rattle.rules.specs.Lines.{refused_line}
use Rattle.lines.specs.Shown.{plan_line, string_line, load_line, release_line}

-- ---- Lines of a list

module _ {A : Type 0} (line : ℕ → A → List ℕ) where
  unfoldable pub in_place : A → List A → ℕ → List ℕ
  in_place z xs k = cond (in_bounds 1 k (length xs)) (line k (get_or xs (k - 1) z)) []

  unfoldable pub in_order : ℕ → List A → List ℕ
  in_order k [] = []
  in_order k (x ∷ xs) = line k x ++ in_order (suc k) xs

-- ---- Lines of a plan

abbrev pub on_text : Checked → List ℕ → List ℕ
on_text (Ok _) text = text
on_text (Err e) text = refused_line e.fault e.at

abbrev pub string_words : Plan → ℕ → BatteryString → List ℕ
string_words p i s = string_line i s (hold_of p s)

unfoldable pub plan_shown : Plan → List ℕ
plan_shown p = on_text (plan_check p) (plan_line p.n p.run.0)

unfoldable pub string_shown : Plan → ℕ → List ℕ
string_shown p i = on_text (plan_check p) (in_place (string_words p) no_string (strings_of p) i)

unfoldable pub load_shown : Plan → List ℕ
load_shown p = on_text (plan_check p) (load_line (multiple_of p) (load p))

unfoldable pub release_shown : Releases → ℕ → List ℕ
release_shown rs k = in_place release_line no_release (releases_of rs) k

-- ---- The whole

unfoldable pub shown_text : Plan → Releases → List ℕ
shown_text p rs =
    let lines =
    plan_line p.n p.run.0
    ++ in_order (string_words p) 1 (strings_of p)
    ++ load_line (multiple_of p) (load p)
    ++ in_order release_line 1 (releases_of rs)
    in
    on_text (plan_check p) lines
