-- The lines that are asked for one by one, put together, are the whole text.
use Rattle.base.proofs.Prelude.{ℕ, ◌≡◌, ap, ◌∙◌, List, ◌++◌, arith, length-take}
use Rattle.faults.specs.Checks.{Lawful}
use mathlib.Core.List.{flat_map}
use Rattle.base.specs.Count.{up_from}
use Rattle.rules.specs.{declared.Plan.Plan, declared.Releases.Releases, Plan.{strings_of, no_string}, Release.releases_of, Stints.run_stints, Refusal.run_check}
use Rattle.lines.specs.Bars.{marks_line}
use Rattle.showing.specs.Shown.{in_place, in_order, on_text}
use Rattle.showing.proofs.Whole.{all-places}
use Rattle.bars.specs.{declared.Column.Column, Bars.{no_column, stint_columns, miss_column, idle_words, row_words, drawn, head_shown, row_shown, idle_shown, cut_shown, bars_text}}

-- for a lawful run
pub bars-whole : (p : Plan) (rs : Releases) → run_check p rs ≡ Lawful
    → head_shown p rs ++ flat_map (row_shown p rs) (up_from 1 p.n) ++ marks_line ++ flat_map (idle_shown p rs) (up_from 1 70)
    ++ cut_shown p rs
    ≡ bars_text p rs
unfolding head_shown row_shown idle_shown cut_shown bars_text drawn
bars-whole p rs lawful =
    let list = releases_of rs in
    let words : ℕ → Column → List ℕ = λ i c. idle_words c in
    let rows : flat_map (row_shown p rs) (up_from 1 p.n) ≡ in_order (row_words p list) 1 (strings_of p) =
    ap (λ check. flat_map (λ i. on_text check (in_place (row_words p list) no_string (strings_of p) i)) (up_from 1 p.n)) lawful
    ∙ all-places (row_words p list) no_string (strings_of p) p.n (omega (arith, length-take p.n p.strings)) in
    let idle : flat_map (idle_shown p rs) (up_from 1 70) ≡ in_order words 1 (drawn p list) =
    ap (λ check. flat_map (λ k. on_text check (in_place words no_column (drawn p list) k)) (up_from 1 70)) lawful
    ∙ all-places words no_column (drawn p list) 70
    (omega (arith, length-take 70 (flat_map stint_columns (run_stints p list) ++ miss_column p list))) in
    rw (rows, idle, lawful)
