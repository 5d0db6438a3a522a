-- Lines one after the other, each a frame of the same size: where they stand, and what is stored of them.
use Rattle.base.proofs.Prelude.{ℕ, zero, suc, ◌+◌, ◌*◌, ◌≤◌, ◌<◌, ◌≡◌, refl, sym, ap, ◌∙◌, List, [], ◌∷◌, ◌++◌, map, map-append, arith, add-one, not-suc-le-zero, suc-mul, length, set, length-map}
use Rattle.base.specs.Count.{filled}
use Rattle.base.proofs.Filling.{filled-set}
use Rattle.rules.specs.{Layout.line_length, Text.Line}
use Rattle.reading.specs.inner.Positions.{line_at, lines_at, Frame, Stand}
use Rattle.reading.proofs.Framing.{frame-next}

step-more : (at n step : ℕ) → at + suc n * step ≡ at + step + n * step
step-more at n step = omega (arith, suc-mul n step)

step-none : (at step : ℕ) → at + 0 * step ≡ at
step-none at step = omega arith

-- ---- Lines at positions

module _ (text : List ℕ) (step : ℕ) where
  pub lines_at-length : (at n : ℕ) → length (lines_at text at step n) ≡ n
  unfolding lines_at
  lines_at-length at zero = refl
  lines_at-length at (suc n) = ap suc (lines_at-length (at + step) n)

  lines_at-next : (at n : ℕ) → lines_at text at step (suc n) ≡ lines_at text at step n ++ (line_at text (at + n * step) ∷ [])
  unfolding lines_at
  lines_at-next at zero = rw (step-none at step)
  lines_at-next at (suc n) = ap (λ lines. line_at text at ∷ lines) (lines_at-next (at + step) n ∙ rw (step-more at n step))

-- one more is stored
pub stored_more {ℓ} : {A : Type ℓ} (z : A) (said : Line → A) (room : ℕ) (text : List ℕ) (at step i : ℕ) (list : List A) (x : A) → i < room
    → list ≡ filled room z (map said (lines_at text at step i)) → x ≡ said (line_at text (at + i * step))
    → set list i x ≡ filled room z (map said (lines_at text at step (i + 1)))
stored_more z said room text at step i list x h e f =
    let lines = lines_at text at step i in
    let line = line_at text (at + i * step) in
    let many : length (map said lines) ≡ i = length-map lines said ∙ lines_at-length text step at i in
    rw (e, f, add-one i, lines_at-next text step at i, map-append said lines (line ∷ []))
    (ap (λ k. set (filled room z (map said lines)) k (said line)) (sym many)
    ∙ filled-set room z (said line) (map said lines) (omega arith))

pub stored-none {ℓ} : {A : Type ℓ} (z : A) (said : Line → A) (room : ℕ) (text : List ℕ) (at step : ℕ)
    → filled room z [] ≡ filled room z (map said (lines_at text at step 0))
unfolding lines_at
stored-none z said room text at step = refl

-- ---- Frames one after the other

module _ (text : List ℕ) (size : ℕ) where
  pub stand-none : (at : ℕ) → at ≤ length text → Stand text at size 0
  unfolding lines_at
  stand-none at h =
      let here = step-none at (line_length size) in
      record { each = λ i low. absurd (not-suc-le-zero low); inside = rw here h; first = refl; rest = rw here }

  pub stand-more : (at n : ℕ) → Frame text at size → Stand text (at + line_length size) size n → Stand text at size (suc n)
  unfolding lines_at
  stand-more at n f s =
      let next = frame-next text at size f in
      let there = step-more at n (line_length size) in
      record {
        each = each';
        inside = rw there s.inside;
        first = rw next (ap (λ lines. line_at text at ∷ lines) s.first);
        rest = rw (next, there) s.rest;
      }
    where
      each' : (i : ℕ) → i < suc n → Frame text (at + i * line_length size) size
      each' zero low = rw (step-none at (line_length size)) f
      each' (suc i) low = rw (step-more at i (line_length size)) (s.each i (omega arith))

-- the i-th of them, where the code looks for it
pub frame-here : {text : List ℕ} {start step size n : ℕ} → step ≡ line_length size → Stand text start size n
    → (i : ℕ) → i < n → Frame text (start + i * step) size
frame-here long stand i low = rw long (stand.each i low)
