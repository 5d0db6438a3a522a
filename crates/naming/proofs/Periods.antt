-- Laws of the definitions for refusal 6.
use Rattle.base.proofs.Prelude.{ℕ, zero, suc, ◌+◌, ◌-◌, ◌≤◌, ◌<◌, ◌≡◌, min, refl, sym, ap, ◌∙◌, Bool, true, false, ◌&&◌, List, [], ◌∷◌, ◌++◌, map, map-append, arith, leb, le-leb, lt-leb, eq-eqb, ne_eqb, length, set, length-map, length-append, length-replicate, replicate, get_or-eq_default}
use Rattle.days.specs.Days.{days}
use Rattle.base.specs.{Count.{filled, up_from}, Divisors.greatest_to}
use Rattle.base.proofs.{Filling.filled-set, Least.least_from-low}
use Rattle.rules.specs.{declared.BatteryString.BatteryString, declared.Plan.Plan, Plan.{no_string}, Layout.Version, Text.{Line, n_in, string_of}}
use Rattle.lines.specs.declared.reasons.Reason.TheVariants.{Fits, NoneFits}
use Rattle.naming.specs.{Lines.line_no, Periods.{strings_named, plan_named, stands_at, multiple_fits, over_place, smaller_fit, multiple_reason}}
use Rattle.naming.proofs.Searches.{greatest-here, greatest-lower, greatest-none}

-- ---- A T that fits

abbrev pub fit : Plan → ℕ → ℕ → Bool
fit p i t = leb (stands_at p i).d.0 t && multiple_fits p i t

module _ (p : Plan) (i n : ℕ) where
  pub no-fit : n < (stands_at p i).d.0 → greatest_to (fit p i) n ≡ 0
  no-fit h = greatest-none (fit p i) n (λ m few. below m (omega arith))
    where
      below : (m : ℕ) → m < (stands_at p i).d.0 → fit p i m ≡ false
      below m few = rw (lt-leb (stands_at p i).d.0 m few)

  pub fits-here : 1 ≤ n → (stands_at p i).d.0 ≤ n → multiple_fits p i n ≡ true → greatest_to (fit p i) n ≡ n
  fits-here low h t = greatest-here (fit p i) n low (rw (le-leb (stands_at p i).d.0 n h, t))

  pub fits-lower : 1 ≤ n → (stands_at p i).d.0 ≤ n → multiple_fits p i n ≡ false → greatest_to (fit p i) n ≡ greatest_to (fit p i) (n - 1)
  fits-lower low h e = greatest-lower (fit p i) n low (rw (le-leb (stands_at p i).d.0 n h, e))

  pub fits-zero : n ≡ 0 → greatest_to (fit p i) n ≡ 0
  unfolding greatest_to
  fits-zero e = rw e

-- ---- The strings, one more at a time

up_from-long : (k n : ℕ) → length (up_from k n) ≡ n
unfolding up_from
up_from-long k zero = refl
up_from-long k (suc n) = ap suc (up_from-long (suc k) n)

up_from-last : (k n : ℕ) → up_from k (suc n) ≡ up_from k n ++ ((k + n) ∷ [])
unfolding up_from
up_from-last k zero =
    let here : k + 0 ≡ k = omega arith in
    rw here
up_from-last k (suc n) =
    let there : suc k + n ≡ k + suc n = omega arith in
    ap (λ xs. k ∷ xs) (up_from-last (suc k) n ∙ ap (λ m. up_from (suc k) n ++ (m ∷ [])) there)

module _ (v : Version) (lines : List Line) where
  abbrev pub named_at : ℕ → BatteryString
  named_at i = string_of v (line_no lines 1) (line_no lines (suc i))

  abbrev pub named_to : ℕ → List BatteryString
  named_to i = map named_at (up_from 1 i)

  named-long : (i : ℕ) → length (named_to i) ≡ i
  named-long i = length-map (up_from 1 i) named_at ∙ up_from-long 1 i

  pub named_more : (i : ℕ) (x : BatteryString) → i < 10 → x ≡ string_of v (line_no lines 1) (line_no lines (i + 2))
      → set (filled 10 no_string (named_to i)) i x ≡ filled 10 no_string (named_to (i + 1))
  named_more i x h e =
      let next : i + 1 ≡ suc i = omega arith in
      let line : i + 2 ≡ suc (1 + i) = omega arith in
      let last : named_to (i + 1) ≡ named_to i ++ (named_at (1 + i) ∷ []) =
      ap named_to next ∙ ap (map named_at) (up_from-last 1 i) ∙ map-append named_at (up_from 1 i) ((1 + i) ∷ []) in
      let is : x ≡ named_at (1 + i) = e ∙ ap (λ k. string_of v (line_no lines 1) (line_no lines k)) line in
      ap (λ k. set (filled 10 no_string (named_to i)) k x) (sym (named-long i))
      ∙ filled-set 10 no_string x (named_to i) (omega (arith, named-long i))
      ∙ ap (λ y. filled 10 no_string (named_to i ++ (y ∷ []))) is ∙ ap (filled 10 no_string) (sym last)

  pub named-whole : (n : ℕ) (strings : List BatteryString) → n ≡ (plan_named v lines).n → strings ≡ filled 10 no_string (named_to n)
      → record { n = n; run = days 0; strings = strings } ≡ plan_named v lines
  unfolding plan_named strings_named
  named-whole n strings e f = rw (f, e)

  pub named-few : (plan_named v lines).n ≤ 10
  unfolding plan_named
  named-few = omega arith

  pub named-ten : length (plan_named v lines).strings ≡ 10
  unfolding plan_named strings_named
  named-ten =
      let m = min (n_in v (line_no lines 1)) 10 in
      omega (
        arith,
        length-append (named_to m) (replicate (10 - length (named_to m)) no_string),
        length-replicate (10 - length
            (named_to m)) no_string,
        named-long m,
      )

-- ---- Where H passes its bound

pub over-low : (p : Plan) → 1 ≤ over_place p
unfolding over_place
over-low p = least_from-low _ 1 p.n

module _ (p : Plan) (i : ℕ) (e : over_place p ≡ i) where
  pub none-fits : smaller_fit p i ≡ 0 → NoneFits i (stands_at p i).t.0 (stands_at p i).d.0 ≡ multiple_reason p
  unfolding multiple_reason
  none-fits h = rw (e, eq-eqb (smaller_fit p i) 0 h)

  pub some_fits : (u : ℕ) → u ≡ smaller_fit p i → (u ≡ 0 → ⊥) → Fits i (stands_at p i).t.0 u ≡ multiple_reason p
  unfolding multiple_reason
  some_fits u is some = rw (e, ← is, ne_eqb u 0 some)

  nothing-fits : stands_at p i ≡ no_string → smaller_fit p i ≡ 0
  unfolding smaller_fit greatest_to
  nothing-fits nobody = rw nobody

  pub none-stands : length p.strings ≡ 10 → 10 < i → NoneFits i 0 0 ≡ multiple_reason p
  none-stands ten h =
      let nobody : stands_at p i ≡ no_string = get_or-eq_default p.strings no_string (omega arith) in
      ap (λ (s : BatteryString). NoneFits i s.t.0 s.d.0) (sym nobody) ∙ none-fits (nothing-fits nobody)
