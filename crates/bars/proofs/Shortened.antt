-- Idle days that share a column, and where the columns end.
use Rattle.base.proofs.Prelude.{ℕ, ◌-◌, ◌≤◌, ◌<◌, ◌≡◌, sym, ap, ◌∙◌, List, [], arith, length, get_or, get_or-take, lt-ltb, le-ltb}
use Rattle.showing.specs.Shown.{in_place}
use Rattle.showing.proofs.InPlace.{in_place-there, in_place-none}
use Rattle.lines.specs.Bars.{idle_line, cut_line}
use Rattle.bars.specs.{declared.Column.Column, declared.columns.Drawn.Drawn, Bars.{no_column, last_day_of, idle_words, cut_behind}, inner.Drawing.{cols_of, UpToSeventy}}
use Rattle.bars.proofs.Filling.{cols-many}

-- the line for the k-th column, as the code asks for it
abbrev pub idle_at : Drawn → ℕ → List ℕ
idle_at d k = in_place (λ i c. idle_words c) no_column (cols_of d) k

module _ (d : Drawn) (fits : UpToSeventy d) (k : ℕ) where
  pub idle-outside : (1 ≤ k → k ≤ d.count → ⊥) → idle_at d k ≡ []
  idle-outside out =
      in_place-none (λ i c. idle_words c) no_column (cols_of d) k (λ low high. out low (omega (arith, cols-many d fits)))

  column-at : 1 ≤ k → k ≤ d.count → idle_at d k ≡ idle_words (get_or d.columns (k - 1) no_column)
  column-at low high =
      in_place-there (λ i c. idle_words c) no_column (cols_of d) k low (omega (arith, cols-many d fits))
      ∙ ap idle_words (get_or-take d.count d.columns (k - 1) no_column (omega arith))

  module _ (low : 1 ≤ k) (high : k ≤ d.count) where
    abbrev c : Column
    c = get_or d.columns (k - 1) no_column

    pub idle-several : 1 < c.days → idle_line c.first (last_day_of c) ≡ idle_at d k
    unfolding idle_words
    idle-several several = sym (column-at low high ∙ rw (lt-ltb 1 c.days several))

    pub idle-one : c.days ≤ 1 → idle_at d k ≡ []
    unfolding idle_words
    idle-one one = column-at low high ∙ rw (le-ltb 1 c.days one)

module _ (d : Drawn) (fits : UpToSeventy d) (e : ℕ) where
  pub cut-none : d.count < 70 → cut_behind (cols_of d) e ≡ []
  unfolding cut_behind
  cut-none few =
      let short : length (cols_of d) < 70 = omega (arith, cols-many d fits) in
      rw (lt-ltb (length (cols_of d)) 70 short)

  module _ (full : 70 ≤ d.count) where
    last-column : get_or (cols_of d) 69 no_column ≡ get_or d.columns 69 no_column
    last-column = get_or-take d.count d.columns 69 no_column (omega arith)

    pub cut-there : last_day_of (get_or d.columns 69 no_column) < e
        → cut_line (last_day_of (get_or d.columns 69 no_column)) e ≡ cut_behind (cols_of d) e
    unfolding cut_behind
    cut-there more =
        let long : 70 ≤ length (cols_of d) = omega (arith, cols-many d fits) in
        rw (le-ltb (length (cols_of d)) 70 long, last-column, lt-ltb (last_day_of (get_or d.columns 69 no_column)) e more)

    pub cut-over : e ≤ last_day_of (get_or d.columns 69 no_column) → cut_behind (cols_of d) e ≡ []
    unfolding cut_behind
    cut-over over =
        let long : 70 ≤ length (cols_of d) = omega (arith, cols-many d fits) in
        rw (le-ltb (length (cols_of d)) 70 long, last-column, le-ltb (last_day_of (get_or d.columns 69 no_column)) e over)
