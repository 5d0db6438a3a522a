-- Columns that are drawn one behind the other, as long as there is room for them: they are the first seventy.
use Rattle.base.proofs.Prelude.{ℕ, zero, suc, ◌+◌, ◌≤◌, ◌<◌, ◌≡◌, refl, sym, ap, ◌∙◌, List, [], ◌∷◌, ◌++◌, map, map-append, append_assoc, append-nil, arith, add-one, ℕ_discrete, length, length-append, length-set, length-take-le, get_or, get_or-set_same, get_or-set_other, take, set, take_all, take-suc, take-append_seam, true, false, ltb, ltb-true}
use mathlib.Core.List.{flat_map}
use lib.Seq.{take-suc-set}
use Rattle.base.specs.Count.{up_from}
use Rattle.base.proofs.Lists.{and_right}
use Rattle.rules.specs.{declared.Stint.Stint, Run.is_idle}
use Rattle.run.specs.Numbers.{stint_at}
use Rattle.visits.specs.inner.Own.{stints_in}
use Rattle.bars.specs.{declared.Column.Column, declared.columns.Drawn.Drawn, Bars.{no_column, column, long_idle, stint_columns}, inner.Drawing.{ColumnEnds, cols_of, UpToSeventy, Drawing}}

-- ---- Lists

pub take_more : {A : Type 0} (n : ℕ) (xs ys : List A) → take n (take n xs ++ ys) ≡ take n (xs ++ ys)
take_more zero [] ys = refl
take_more zero (x ∷ xs) ys = refl
take_more (suc n) [] ys = refl
take_more (suc n) (x ∷ xs) ys = ap (λ zs. x ∷ zs) (take_more n xs ys)

up_from-suc : (k n : ℕ) → up_from k (suc n) ≡ up_from k n ++ ((k + n) ∷ [])
unfolding up_from
up_from-suc k zero =
    let same : k ≡ k + 0 = omega arith in
    ap (λ i. i ∷ []) same
up_from-suc k (suc n) =
    let same : suc k + n ≡ k + suc n = omega arith in
    ap (λ zs. k ∷ zs) (up_from-suc (suc k) n ∙ ap (λ i. up_from (suc k) n ++ (i ∷ [])) same)

pub up_from-last : (k n : ℕ) → up_from k (n + 1) ≡ up_from k n ++ ((k + n) ∷ [])
up_from-last k n = ap (up_from k) (add-one n) ∙ up_from-suc k n

flat-last : {A B : Type 0} (f : A → List B) (xs : List A) (x : A) → flat_map f (xs ++ (x ∷ [])) ≡ flat_map f xs ++ f x
unfolding flat_map
flat-last f [] x = append-nil (f x)
flat-last f (y ∷ xs) x = ap (λ zs. f y ++ zs) (flat-last f xs x) ∙ sym (append_assoc (f y) (flat_map f xs) (f x))

-- the first i of a list that is filled from another, place by place
pub cells-more : {A : Type 0} (f : A → ℕ) (xs : List A) (z : A) (ys : List ℕ) (i : ℕ) → i < length xs → i < length ys
    → take i ys ≡ map f (take i xs) → take (i + 1) (set ys i (f (get_or xs i z))) ≡ map f (take (i + 1) xs)
cells-more f xs z ys i inside room same =
    rw (add-one i)
    (take-suc-set ys i (f (get_or xs i z)) room
    ∙ ap (λ zs. zs ++ (f (get_or xs i z) ∷ [])) same
    ∙ sym (ap (map f) (take-suc xs i z inside) ∙ map-append f (take i xs) (get_or xs i z ∷ [])))

-- ---- Columns

-- nothing is drawn
pub none-drawn : (d : Drawn) → d.count ≡ 0 → length d.columns ≡ 70 → Drawing d []
none-drawn d none many =
    record {
      fits = record { few = omega arith; room = many; brief = λ i h. absurd (omega arith) };
      are = ap (λ k. take k d.columns) none ∙ nothing d.columns;
    }
  where
    nothing : (cs : List Column) → take 0 cs ≡ take 70 []
    nothing [] = refl
    nothing (c ∷ cs) = refl

module _ (d : Drawn) (fits : UpToSeventy d) where
  pub cols-many : length (cols_of d) ≡ d.count
  cols-many = length-take-le d.count d.columns (omega (arith, fits.few, fits.room))

  -- seventy are drawn: whatever comes is left out
  pub all-drawn : (cs : List Column) → d.count ≡ 70 → Drawing d (cols_of d ++ cs)
  all-drawn cs full =
      let seventy : length (cols_of d) ≡ 70 = cols-many ∙ full in
      record { fits = fits; are = sym (ap (λ k. take k (cols_of d ++ cs)) (sym seventy) ∙ take-append_seam (cols_of d) cs) }

  -- what is drawn, and nothing behind it
  pub still-drawn : Drawing d (cols_of d ++ [])
  still-drawn =
      record {
        fits = fits;
        are = sym (ap (take 70) (append-nil (cols_of d)) ∙ take_all 70 (cols_of d) (omega (arith, cols-many, fits.few)));
      }

  -- one column more
  pub column-more : (r : Drawn) (c : Column) → d.count < 70 → ColumnEnds c → r.count ≡ d.count + 1
      → r.columns ≡ set d.columns d.count c → Drawing r (cols_of d ++ (c ∷ []))
  column-more r c few brief next stored =
      let room : d.count < length d.columns = omega (arith, fits.room) in
      let cols : cols_of r ≡ cols_of d ++ (c ∷ []) =
      ap (λ k. take k r.columns) (next ∙ add-one d.count) ∙ ap (take (suc d.count)) stored
      ∙ take-suc-set d.columns d.count c room in
      let long : length (cols_of d ++ (c ∷ [])) ≤ 70 = omega (arith, length-append (cols_of d) (c ∷ []), cols-many) in
      record {
        fits = record {
          few = omega arith;
          room = ap length stored ∙ length-set d.columns d.count c ∙ fits.room;
          brief = λ i h. rw stored (brief-at i (omega arith));
        };
        are = cols ∙ sym (take_all 70 (cols_of d ++ (c ∷ [])) long);
      }
    where
      brief-at : (i : ℕ) → i < d.count + 1 → ColumnEnds (get_or (set d.columns d.count c) i no_column)
      brief-at i h =
          elim (ℕ_discrete i d.count) [
            | yes here ↦
                rw (here, get_or-set_same d.columns d.count c no_column (omega (arith, fits.room))) brief
            | no other ↦
                rw (get_or-set_other d.columns d.count i c no_column other) (fits.brief i (omega arith))
          ]

-- columns behind columns
pub more-drawn : (d r : Drawn) (cs xs : List Column) → Drawing d cs → Drawing r (cols_of d ++ xs) → Drawing r (cs ++ xs)
more-drawn d r cs xs before after =
    record { fits = after.fits; are = after.are ∙ ap (λ zs. take 70 (zs ++ xs)) before.are ∙ take_more 70 cs xs }

pub drawn-as : (d : Drawn) (cs xs : List Column) → cs ≡ xs → Drawing d cs → Drawing d xs
drawn-as d cs xs same is = record { fits = is.fits; are = is.are ∙ ap (take 70) same }

-- ---- Days and stints, one more

days-last : (t n : ℕ) → map (λ k. column k 1) (up_from t (n + 1)) ≡ map (λ k. column k 1) (up_from t n) ++ (column (t + n) 1 ∷ [])
days-last t n = ap (map (λ k. column k 1)) (up_from-last t n) ∙ map-append (λ k. column k 1) (up_from t n) ((t + n) ∷ [])

pub day-more : (d₀ d r : Drawn) (t n : ℕ) → Drawing d (cols_of d₀ ++ map (λ k. column k 1) (up_from t n))
    → Drawing r (cols_of d ++ (column (t + n) 1 ∷ [])) → Drawing r (cols_of d₀ ++ map (λ k. column k 1) (up_from t (n + 1)))
day-more d₀ d r t n before after =
    let days = map (λ k. column k 1) (up_from t n) in
    drawn-as r _ _ (append_assoc (cols_of d₀) days (column (t + n) 1 ∷ []) ∙ ap (λ zs. cols_of d₀ ++ zs) (sym (days-last t n)))
    (more-drawn d r (cols_of d₀ ++ days) (column (t + n) 1 ∷ []) before after)

pub stint-more : (f : Stint → List Column) (d r : Drawn) (list : List ℕ) (n : ℕ) → Drawing d (flat_map f (stints_in list n))
    → Drawing r (cols_of d ++ f (stint_at list n)) → Drawing r (flat_map f (stints_in list (n + 1)))
stint-more f d r list n before after =
    let last : stints_in list (n + 1) ≡ stints_in list n ++ (stint_at list n ∷ []) =
    ap (map (stint_at list)) (up_from-last 0 n) ∙ map-append (stint_at list) (up_from 0 n) ((0 + n) ∷ [])
    ∙ ap (λ i. stints_in list n ++ (stint_at list i ∷ [])) (zero-add n) in
    drawn-as r _ _ (sym (ap (flat_map f) last ∙ flat-last f (stints_in list n) (stint_at list n)))
    (more-drawn d r (flat_map f (stints_in list n)) (f (stint_at list n)) before after)
  where
    zero-add : (n : ℕ) → 0 + n ≡ n
    zero-add n = omega arith

-- ---- The columns of a stint

pub stint-one : (s : Stint) → long_idle s ≡ true → column s.first.0 s.length.0 ∷ [] ≡ stint_columns s
unfolding stint_columns
stint-one s long = rw long

pub stint-days : (s : Stint) → long_idle s ≡ false → map (λ t. column t 1) (up_from s.first.0 s.length.0) ≡ stint_columns s
unfolding stint_columns
stint-days s short = rw short

pub long-days : (s : Stint) → long_idle s ≡ true → 9 < s.length.0
long-days s long = ltb-true 9 s.length.0 (and_right (is_idle s.used) (ltb 9 s.length.0) long)
