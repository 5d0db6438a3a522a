-- The pairs of the verdict that pass a test f, as a walk over rows meets them: those that do not are passed by, in a row and over whole
-- rows.
use Rattle.base.proofs.Prelude.{ℕ, zero, suc, ◌+◌, ◌-◌, ◌≤◌, ◌<◌, ◌≡◌, sym, ap, ◌∙◌, Bool, true, false, [], ◌∷◌, ◌++◌, arith, dec_le, add-one}
use native.Mathlib.Nat.{add-zero}
use Rattle.rules.specs.{declared.Plan.Plan, Demand.block_limit, Verdict.{Pair, pairs_at}}
use Rattle.base.specs.Count.{keep}
use Rattle.base.proofs.Order.{keep-yes, keep-no, keep_append}
use Rattle.demand.proofs.Pairs.{pair, row_from, rows, rows_step, row_from-all, row_from-step, row_from-end}

module _ (p : Plan) (f : Pair → Bool) where
  -- ---- In a row

  pub kept_here : (l b : ℕ) → b ≤ block_limit p l → f (pair l b) ≡ true
      → keep f (row_from p l b) ≡ pair l b ∷ keep f (row_from p l (b + 1))
  kept_here l b h t = ap (keep f) (row_from-step p l b h) ∙ keep-yes f (pair l b) (row_from p l (b + 1)) t

  pub kept-past : (l b : ℕ) → block_limit p l < b → keep f (row_from p l b) ≡ []
  unfolding keep
  kept-past l b h = ap (keep f) (row_from-end p l b h)

  skip_by : (l b d : ℕ) → ((c : ℕ) → b ≤ c → c < b + d → f (pair l c) ≡ false) → keep f (row_from p l b) ≡ keep f (row_from p l (b + d))
  skip_by l b zero none = ap (λ c. keep f (row_from p l c)) (sym (add-zero b))
  skip_by l b (suc d) none =
      elim (dec_le b (block_limit p l)) [
        | yes within ↦
            let on : b + 1 + d ≡ b + suc d = omega arith in
            ap (keep f) (row_from-step p l b within)
            ∙ keep-no f (pair l b) (row_from p l (b + 1)) (none b (omega arith) (omega arith))
            ∙ skip_by l (b + 1) d (λ c h k. none c (omega arith) (omega arith))
            ∙ ap (λ c. keep f (row_from p l c)) on
        | no past ↦ kept-past l b (omega arith) ∙ sym (kept-past l (b + suc d) (omega arith))
      ]

  pub kept-skip : (l b c : ℕ) → b ≤ c → ((e : ℕ) → b ≤ e → e < c → f (pair l e) ≡ false)
      → keep f (row_from p l b) ≡ keep f (row_from p l c)
  kept-skip l b c h none =
      let on : b + (c - b) ≡ c = omega arith in
      skip_by l b (c - b) (λ e low high. none e low (omega arith)) ∙ ap (λ e. keep f (row_from p l e)) on

  -- ---- Over rows, below an end

  pub kept_row : (l end : ℕ) → l < end → keep f (rows p l (end - l)) ≡ keep f (row_from p l 0) ++ keep f (rows p (l + 1) (end - (l + 1)))
  kept_row l end h =
      let left : end - l ≡ suc (end - suc l) = omega arith in
      rw (add-one, left, rows_step p l (end - suc l), row_from-all p l) (keep_append f (pairs_at p l) (rows p (suc l) (end - suc l)))

  rows-by : (l d end : ℕ) → l + d ≤ end → ((w b : ℕ) → l ≤ w → w < l + d → b ≤ block_limit p w → f (pair w b) ≡ false)
      → keep f (rows p l (end - l)) ≡ keep f (rows p (l + d) (end - (l + d)))
  rows-by l zero end h none = ap (λ w. keep f (rows p w (end - w))) (sym (add-zero l))
  rows-by l (suc d) end h none =
      let on : l + 1 + d ≡ l + suc d = omega arith in
      let row : keep f (row_from p l 0) ≡ [] =
      kept-skip l 0 (suc (block_limit p l)) (omega arith) (λ e low high. none l e (omega arith) (omega arith) (omega arith))
      ∙ kept-past l (suc (block_limit p l)) (omega arith) in
      kept_row l end (omega arith)
      ∙ ap (λ xs. xs ++ keep f (rows p (l + 1) (end - (l + 1)))) row
      ∙ rows-by (l + 1) d end (omega arith) (λ w b low high k. none w b (omega arith) (omega arith) k)
      ∙ ap (λ w. keep f (rows p w (end - w))) on

  pub kept-rows : (l m end : ℕ) → l ≤ m → m ≤ end → ((w b : ℕ) → l ≤ w → w < m → b ≤ block_limit p w → f (pair w b) ≡ false)
      → keep f (rows p l (end - l)) ≡ keep f (rows p m (end - m))
  kept-rows l m end h k none =
      let on : l + (m - l) ≡ m = omega arith in
      rows-by l (m - l) end (omega arith) (λ w b low high held. none w b low (omega arith) held)
      ∙ ap (λ w. keep f (rows p w (end - w))) on
