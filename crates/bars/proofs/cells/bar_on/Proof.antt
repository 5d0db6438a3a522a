-- `bars::cells::bar_on` meets its contract: while the run goes the day's use decides, else what is left over.
use Rattle.base.proofs.Prelude.{ℕ, ap, ◌∙◌, cond, ltb, rules}
use Rattle.rules.specs.Release.{releases_of}
use Rattle.bars.specs.inner.Drawing.{uses_told}
use Rattle.bars.proofs.{Leftover.{bar-going, bar-ended}, cells.bar_on.Statement.statement}
use Rattle.bars.proofs.cells.bar_on.Tie as tie

returns : tie.Need-returns-then-going
returns c =
    let used = c.before in
    let barred = used.before.before in
    let left = barred.before in
    let g = left.args in
    let other = barred.left_bar-other.ensures
    ∙ ap (λ b. cond {A = ℕ} b (cond {A = ℕ} (ltb g.t g.days) 0x2e 0x21) 0x20) left.left_over-left.ensures in
    bar-going g.p (releases_of g.rs) (uses_told g.list.now g.stints) g.days g.place g.t _ _ _
    used.if-going.true-raw other used.use_on.ensures c.used_bar.ensures

returns-2 : tie.Need-returns
returns-2 c =
    let barred = c.before in
    let left = barred.before in
    let g = left.args in
    let other = barred.left_bar-other.ensures
    ∙ ap (λ b. cond {A = ℕ} b (cond {A = ℕ} (ltb g.t g.days) 0x2e 0x21) 0x20) left.left_over-left.ensures in
    bar-ended g.p (releases_of g.rs) (uses_told g.list.now g.stints) g.days g.place g.t _ c.if-going.false-raw other

pub bar_on_spec : {M : Type 1} → statement M
bar_on_spec =
    tie.close (tie.spec
    (λ c κs. c.requires) (λ c κs. search rules) (λ c κs. search rules) (λ c κs. search rules) returns returns-2)
