-- Lent lists written from the front: what is stored so far, and the lent list's own places behind it.
--     Stored all left list₀ list at     the first `at` places hold what comes before `left` in `all`; the others are those of list₀
use Rattle.base.proofs.Prelude.{ℕ, ◌+◌, ◌≤◌, ◌≡◌, refl, sym, ap, ◌∙◌, List, [], ◌++◌, append_assoc, append-nil, arith, length, take, drop, length-append, length-drop, take-append-drop, length-take-le, take_at, drop_at, drop-drop}
use Rattle.base.specs.Count.{put_at}

module _ {ℓ} {A : Type ℓ} where
  pub record Stored (all left list₀ list : List A) (at : ℕ) : Type ℓ where
    pub within : at ≤ length list
    pub same : length list ≡ length list₀
    pub front : take at list ++ left ≡ all
    pub behind : drop at list ≡ drop at list₀

  pub stored-start : (all left list₀ : List A) → all ≡ left → Stored all left list₀ list₀ 0
  stored-start all left list₀ whole = record { within = omega arith; same = refl; front = sym whole; behind = refl }

  module _ (all left list₀ list : List A) (at : ℕ) (s : Stored all left list₀ list at) where
    -- `more` comes next, and `rest` after it
    module _ (more rest : List A) (next : left ≡ more ++ rest) where
      pub stored-room : length all ≤ length list₀ → at + length more ≤ length list
      stored-room room =
          let whole = ap length s.front in
          let front = length-append (take at list) left in
          let parts = ap length next ∙ length-append more rest in
          omega (arith, length-take-le at list s.within, s.same)

      pub stored_next : at + length more ≤ length list → Stored all rest list₀ (put_at at more list) (at + length more)
      stored_next room = record {
        within = omega (arith, size);
        same = size ∙ s.same;
        front = ap (λ l. l ++ rest) (ap (take (at + length more)) split ∙ take_at held tail (at + length more) held-length)
            ∙ append_assoc (take at list) more rest
            ∙ ap (λ l. take at list ++ l) (sym next)
            ∙ s.front;
        behind = ap (drop (at + length more)) split
            ∙ drop_at held tail (at + length more) held-length
            ∙ sym (drop-drop (length more) at list)
            ∙ ap (drop (length more)) s.behind
            ∙ drop-drop (length more) at list₀;
      }
        where
          held : List A
          held = take at list ++ more

          tail : List A
          tail = drop (at + length more) list

          held-length : length held ≡ at + length more
          held-length = length-append (take at list) more ∙ ap (λ n. n + length more) (length-take-le at list s.within)

          split : take at list ++ (more ++ tail) ≡ held ++ tail
          split = sym (append_assoc (take at list) more tail)

          size : length (take at list ++ (more ++ tail)) ≡ length list
          size =
              let whole = ap length split ∙ length-append held tail in
              omega (arith, held-length, length-drop (at + length more) list)

    pub stored-end : left ≡ [] → list ≡ all ++ drop (length all) list₀
    stored-end none =
        let held : take at list ≡ all = sym (append-nil (take at list)) ∙ ap (λ l. take at list ++ l) (sym none) ∙ s.front in
        let count : at ≡ length all = sym (length-take-le at list s.within) ∙ ap length held in
        sym (take-append-drop at list) ∙ ap (λ l. l ++ drop at list) held ∙ ap (λ l. all ++ l) (s.behind ∙ ap (λ n. drop n list₀) count)
