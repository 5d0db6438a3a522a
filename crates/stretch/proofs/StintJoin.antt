-- The stints of two lists of uses one after the other: those of both, with the last of the first and the first of the second joined where
-- the bank did the same. So a stretch of one use makes the last stint longer, or is one more.
--     glued xs ys           the stints xs with ys after them, joined where they meet
use Rattle.base.proofs.Prelude.{ℕ, zero, suc, ◌+◌, ◌≤◌, ◌≡◌, refl, sym, ap, ◌∙◌, true, false, cond, List, [], ◌∷◌, ◌++◌, append_assoc, arith, eqb-true, eq-eqb, eqb, length, replicate, length-replicate}
use Rattle.rules.specs.{declared.Use.Use, declared.Use.TheVariants.{Idle, Work, Move}, declared.Stint.Stint, Stints.{same_use, stint, day_ahead, stints_from}}
use Rattle.base.proofs.Lists.{by_bool, true-not-false, and_left, and_right}

-- ---- Uses

pub same_use-is : (u v : Use) → same_use u v ≡ true → u ≡ v
unfolding same_use
same_use-is Idle Idle h = refl
same_use-is Idle (Work j m) h = absurd (true-not-false (sym h))
same_use-is Idle (Move j m) h = absurd (true-not-false (sym h))
same_use-is (Work i k) Idle h = absurd (true-not-false (sym h))
same_use-is (Work i k) (Work j m) h =
    let place : i ≡ j = eqb-true _ _ (and_left (eqb i j) (eqb k m) h) in
    let release : k ≡ m = eqb-true _ _ (and_right (eqb i j) (eqb k m) h) in
    rw (place, release)
same_use-is (Work i k) (Move j m) h = absurd (true-not-false (sym h))
same_use-is (Move i k) Idle h = absurd (true-not-false (sym h))
same_use-is (Move i k) (Work j m) h = absurd (true-not-false (sym h))
same_use-is (Move i k) (Move j m) h =
    let place : i ≡ j = eqb-true _ _ (and_left (eqb i j) (eqb k m) h) in
    let release : k ≡ m = eqb-true _ _ (and_right (eqb i j) (eqb k m) h) in
    rw (place, release)

pub same_use-self : (u : Use) → same_use u u ≡ true
unfolding same_use
same_use-self Idle = refl
same_use-self (Work i k) = rw (eq-eqb i i refl, eq-eqb k k refl)
same_use-self (Move i k) = rw (eq-eqb i i refl, eq-eqb k k refl)

-- ---- A day ahead

module _ (t : ℕ) (u : Use) (s : Stint) (ss : List Stint) where
  pub ahead-same : same_use u s.used ≡ true → day_ahead t u (s ∷ ss) ≡ stint t (s.length.0 + 1) u ∷ ss
  unfolding day_ahead
  ahead-same e = rw e

  pub ahead-other : same_use u s.used ≡ false → day_ahead t u (s ∷ ss) ≡ stint t 1 u ∷ (s ∷ ss)
  unfolding day_ahead
  ahead-other e = rw e

pub ahead_none : (t : ℕ) (u : Use) → day_ahead t u [] ≡ stint t 1 u ∷ []
unfolding day_ahead
ahead_none t u = refl

-- ---- One list after the other

unfoldable glued : List Stint → List Stint → List Stint
glued [] ys = ys
glued (x ∷ []) [] = x ∷ []
glued (x ∷ []) (y ∷ ys) =
    cond (same_use x.used y.used) (stint x.first.0 (x.length.0 + y.length.0) x.used ∷ ys) (x ∷ (y ∷ ys))
glued (x ∷ z ∷ xs) ys = x ∷ glued (z ∷ xs) ys

meet-same : (x y : Stint) (ys : List Stint) → same_use x.used y.used ≡ true
    → glued (x ∷ []) (y ∷ ys) ≡ stint x.first.0 (x.length.0 + y.length.0) x.used ∷ ys
unfolding glued
meet-same x y ys e = rw e

meet-other : (x y : Stint) (ys : List Stint) → same_use x.used y.used ≡ false → glued (x ∷ []) (y ∷ ys) ≡ x ∷ (y ∷ ys)
unfolding glued
meet-other x y ys e = rw e

ahead-glued : (t : ℕ) (u : Use) (xs ys : List Stint) → day_ahead t u (glued xs ys) ≡ glued (day_ahead t u xs) ys
unfolding glued
ahead-glued t u [] [] = unfold day_ahead in refl
ahead-glued t u [] (y ∷ ys) =
    let one = stint t 1 u in
    let sum : y.length.0 + 1 ≡ 1 + y.length.0 = omega arith in
    by_bool (same_use u y.used)
    (λ e.
    ahead-same t u y ys e ∙ ap (λ n. stint t n u ∷ ys) sum ∙ sym (meet-same one y ys e)
    ∙ ap (λ xs. glued xs (y ∷ ys)) (sym (ahead_none t u)))
    (λ e. ahead-other t u y ys e ∙ sym (meet-other one y ys e) ∙ ap (λ xs. glued xs (y ∷ ys)) (sym (ahead_none t u)))
ahead-glued t u (x ∷ []) [] =
    by_bool (same_use u x.used)
    (λ e. ahead-same t u x [] e ∙ ap (λ xs. glued xs []) (sym (ahead-same t u x [] e)))
    (λ e. ahead-other t u x [] e ∙ ap (λ xs. glued xs []) (sym (ahead-other t u x [] e)))
ahead-glued t u (x ∷ []) (y ∷ ys) =
    let both = stint x.first.0 (x.length.0 + y.length.0) x.used in
    let long = stint t (x.length.0 + 1) u in
    by_bool (same_use u x.used)
    (λ same.
    let is : u ≡ x.used = same_use-is u x.used same in
    let front = ap (λ xs. glued xs (y ∷ ys)) (sym (ahead-same t u x [] same)) in
    by_bool (same_use x.used y.used)
    (λ e.
    let sum : x.length.0 + y.length.0 + 1 ≡ x.length.0 + 1 + y.length.0 = omega arith in
    let joins : same_use u y.used ≡ true = ap (λ v. same_use v y.used) is ∙ e in
    ap (day_ahead t u) (meet-same x y ys e) ∙ ahead-same t u both ys same ∙ ap (λ n. stint t n u ∷ ys) sum
    ∙ sym (meet-same long y ys joins) ∙ front)
    (λ e.
    let apart : same_use u y.used ≡ false = ap (λ v. same_use v y.used) is ∙ e in
    ap (day_ahead t u) (meet-other x y ys e) ∙ ahead-same t u x (y ∷ ys) same ∙ sym (meet-other long y ys apart) ∙ front))
    (λ other.
    let front = ap (λ xs. glued xs (y ∷ ys)) (sym (ahead-other t u x [] other)) in
    by_bool (same_use x.used y.used)
    (λ e.
    ap (day_ahead t u) (meet-same x y ys e) ∙ ahead-other t u both ys other ∙ ap (λ xs. stint t 1 u ∷ xs) (sym (meet-same x y ys e))
    ∙ front)
    (λ e.
    ap (day_ahead t u) (meet-other x y ys e) ∙ ahead-other t u x (y ∷ ys) other
    ∙ ap (λ xs. stint t 1 u ∷ xs) (sym (meet-other x y ys e)) ∙ front))
ahead-glued t u (x ∷ z ∷ xs) ys =
    by_bool (same_use u x.used)
    (λ e. ahead-same t u x (glued (z ∷ xs) ys) e ∙ ap (λ l. glued l ys) (sym (ahead-same t u x (z ∷ xs) e)))
    (λ e. ahead-other t u x (glued (z ∷ xs) ys) e ∙ ap (λ l. glued l ys) (sym (ahead-other t u x (z ∷ xs) e)))

stints-append : (t : ℕ) (us vs : List Use) → stints_from t (us ++ vs) ≡ glued (stints_from t us) (stints_from (t + length us) vs)
unfolding stints_from glued
stints-append t [] vs =
    let same : t ≡ t + 0 = omega arith in
    ap (λ d. stints_from d vs) same
stints-append t (u ∷ us) vs =
    let next : suc t + length us ≡ t + suc (length us) = omega arith in
    ap (day_ahead t u) (stints-append (suc t) us vs ∙ ap (λ d. glued (stints_from (suc t) us) (stints_from d vs)) next)
    ∙ ahead-glued t u (stints_from (suc t) us) (stints_from (t + suc (length us)) vs)

-- ---- A stretch of one use

one-stint : (t k : ℕ) (u : Use) → stints_from t (replicate (suc k) u) ≡ stint t (suc k) u ∷ []
unfolding stints_from
one-stint t zero u = ahead_none t u
one-stint t (suc k) u =
    let sum : suc k + 1 ≡ suc (suc k) = omega arith in
    ap (day_ahead t u) (one-stint (suc t) k u) ∙ ahead-same t u (stint (suc t) (suc k) u) [] (same_use-self u)
    ∙ ap (λ n. stint t n u ∷ []) sum

pub stints-one : (t k : ℕ) (u : Use) → 1 ≤ k → stints_from t (replicate k u) ≡ stint t k u ∷ []
stints-one t zero u h = absurd (omega arith)
stints-one t (suc k) u h = one-stint t k u

glued-last : (ws : List Stint) (c : Stint) (ys : List Stint) → glued (ws ++ (c ∷ [])) ys ≡ ws ++ glued (c ∷ []) ys
unfolding glued
glued-last [] c ys = refl
glued-last (w ∷ []) c ys = refl
glued-last (w ∷ v ∷ ws) c ys = ap (λ l. w ∷ l) (glued-last (v ∷ ws) c ys)

module _ (t : ℕ) (us : List Use) (ws : List Stint) (c : Stint) (so_far : stints_from t us ≡ ws ++ (c ∷ []))
    (k : ℕ) (some : 1 ≤ k) (u : Use) where
  stints-then : stints_from t (us ++ replicate k u) ≡ ws ++ glued (c ∷ []) (stint (t + length us) k u ∷ [])
  stints-then =
      stints-append t us (replicate k u)
      ∙ ap (glued (stints_from t us)) (stints-one (t + length us) k u some)
      ∙ ap (λ l. glued l (stint (t + length us) k u ∷ [])) so_far
      ∙ glued-last ws c (stint (t + length us) k u ∷ [])

  -- the last stint goes on
  pub stints-longer : same_use c.used u ≡ true
      → stints_from t (us ++ replicate k u) ≡ ws ++ (stint c.first.0 (c.length.0 + k) c.used ∷ [])
  stints-longer e = stints-then ∙ ap (λ l. ws ++ l) (meet-same c (stint (t + length us) k u) [] e)

  -- or there is one more
  pub stints-more : same_use c.used u ≡ false
      → stints_from t (us ++ replicate k u) ≡ (ws ++ (c ∷ [])) ++ (stint (t + length us) k u ∷ [])
  stints-more e =
      stints-then ∙ ap (λ l. ws ++ l) (meet-other c (stint (t + length us) k u) [] e)
      ∙ sym (append_assoc ws (c ∷ []) (stint (t + length us) k u ∷ []))

-- a stretch ahead of other uses is one stint more at most
glued-length : (x : Stint) (ys : List Stint) → length (glued (x ∷ []) ys) ≤ suc (length ys)
unfolding glued
glued-length x [] = omega arith
glued-length x (y ∷ ys) =
    by_bool (same_use x.used y.used)
    (λ e. omega (arith, ap length (meet-same x y ys e)))
    (λ e. omega (arith, ap length (meet-other x y ys e)))

pub stretch-ahead : (t k : ℕ) (u : Use) (vs : List Use)
    → length (stints_from t (replicate k u ++ vs)) ≤ suc (length (stints_from (t + k) vs))
unfolding glued
stretch-ahead t zero u vs =
    let same : t + 0 ≡ t = omega arith in
    rw same (omega arith)
stretch-ahead t (suc k) u vs =
    let us = replicate (suc k) u in
    let days : t + length us ≡ t + suc k = omega (arith, length-replicate (suc k) u) in
    let split = stints-append t us vs ∙ ap (λ l. glued l (stints_from (t + length us) vs)) (one-stint t k u)
    ∙ ap (λ d. glued (stint t (suc k) u ∷ []) (stints_from d vs)) days in
    rw split (glued-length (stint t (suc k) u) (stints_from (t + suc k) vs))

-- ---- One day more

-- how long the second is decides nothing
glued-any : (xs : List Stint) (d n m : ℕ) (u : Use) → length (glued xs (stint d n u ∷ [])) ≡ length (glued xs (stint d m u ∷ []))
unfolding glued
glued-any [] d n m u = refl
glued-any (x ∷ []) d n m u = by_bool (same_use x.used u) (λ e. rw e) (λ e. rw e)
glued-any (x ∷ z ∷ xs) d n m u = ap suc (glued-any (z ∷ xs) d n m u)

glued-one : (xs : List Stint) (y : Stint) → length (glued xs (y ∷ [])) ≤ suc (length xs)
unfolding glued
glued-one [] y = omega arith
glued-one (x ∷ []) y = omega (arith, glued-length x (y ∷ []))
glued-one (x ∷ z ∷ xs) y = omega (arith, glued-one (z ∷ xs) y)

-- a day more is one stint more at most
pub stints-day : (t : ℕ) (us : List Use) (u : Use) → length (stints_from t (us ++ (u ∷ []))) ≤ suc (length (stints_from t us))
stints-day t us u =
    rw (stints-append t us (u ∷ []) ∙ ap (glued (stints_from t us)) (one-stint (t + length us) 0 u))
    (glued-one (stints_from t us) (stint (t + length us) 1 u))

-- and none more where it is used as the day before
pub stints-same-day : (t : ℕ) (us : List Use) (u : Use)
    → length (stints_from t ((us ++ (u ∷ [])) ++ (u ∷ []))) ≡ length (stints_from t (us ++ (u ∷ [])))
stints-same-day t us u =
    let d = t + length us in
    let two = append_assoc us (u ∷ []) (u ∷ []) in
    ap (λ vs. length (stints_from t vs)) two
    ∙ ap length (stints-append t us (replicate 2 u) ∙ ap (glued (stints_from t us)) (one-stint d 1 u))
    ∙ glued-any (stints_from t us) d 2 1 u
    ∙ ap length (sym (stints-append t us (u ∷ []) ∙ ap (glued (stints_from t us)) (one-stint d 0 u)))
