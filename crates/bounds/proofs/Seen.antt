-- Laws of what the code remembers of the releases seen: it decides the next release as the list itself does.
--     Admitted p latest last r   the facts that admits tests
use Rattle.base.proofs.Prelude.{ℕ, zero, suc, ◌+◌, ◌-◌, ◌≤◌, ◌<◌, ◌≡◌, refl, sym, ap, ◌∙◌, Bool, true, false, not, ◌&&◌, List, [], ◌∷◌, arith, dec_le, add-one, le-ltb, ltb-true, ltb-false, eq-eqb, ne_eqb, not-true, ltb, eqb, length, drop, drop-cons, drop_of_length-le, get_or}
use Rattle.std.specs.Prelude.{Some, None, Option}
use Rattle.days.specs.{declared.Day.Day, declared.Length.Length}
use Rattle.rules.specs.{declared.BatteryString.BatteryString, declared.Plan.Plan, declared.Release.Release, Plan.string_at, Release.{too_close, out_of_order, release_lawful, unlawful_from, no_release}}
use Rattle.faults.specs.Checks.{in_bounds}
use Rattle.faults.proofs.Checks.{in_bounds-low, in_bounds-high, in_bounds-yes}
use Rattle.base.proofs.{Lists.{by_bool, and_left, and_right, true-not-false}}
use Rattle.bounds.specs.inner.Seen.{latest_of, last_of, remembered_of, too_soon, admits}
use Rattle.bounds.proofs.ByPlace.{string_at-out}

-- ---- The list, and what is remembered of it

order_is : (r : Release) (seen : List Release) → out_of_order r seen ≡ ltb r.day.0 (latest_of seen).0
unfolding out_of_order latest_of
order_is r [] = sym (le-ltb r.day.0 0 (omega arith))
order_is r (q ∷ seen) = refl

apart-is : (t : Length) (r : Release) (seen : List Release) → too_close t.0 r seen ≡ too_soon (last_of r.place seen) r.due t
unfolding too_close last_of too_soon
apart-is t r [] = refl
apart-is t r (q ∷ seen) = by_bool (eqb q.place r.place) (λ e. rw e) (λ e. rw e (apart-is t r seen))

admits-is : (p : Plan) (seen : List Release) (r : Release)
    → admits p (latest_of seen) (last_of r.place seen) r ≡ release_lawful p seen r
unfolding admits release_lawful
admits-is p seen r = rw (order_is r seen, apart-is (string_at p r.place).t r seen)

-- ---- The facts that the code tests

pub record Admitted (p : Plan) (latest : Day) (last : Option Day) (r : Release) : Type 0 where
  pub place_low : 1 ≤ r.place
  pub place_high : r.place ≤ p.n
  pub need_low : 1 ≤ r.need.0
  pub need_high : r.need.0 ≤ (string_at p r.place).c.0
  pub in_run : r.day.0 < p.run.0
  pub not_before : r.due.0 ≤ r.day.0
  pub late_most : r.day.0 ≤ r.due.0 + (string_at p r.place).j.0
  pub in_order : latest.0 ≤ r.day.0
  pub apart : too_soon last r.due (string_at p r.place).t ≡ false

module _ (p : Plan) (latest : Day) (last : Option Day) (r : Release) where
  P : Bool
  P = in_bounds 1 r.place p.n

  N : Bool
  N = in_bounds 1 r.need.0 (string_at p r.place).c.0

  R : Bool
  R = ltb r.day.0 p.run.0

  L : Bool
  L = in_bounds r.due.0 r.day.0 (r.due.0 + (string_at p r.place).j.0)

  O : Bool
  O = not (ltb r.day.0 latest.0)

  pub admits-facts : admits p latest last r ≡ true → Admitted p latest last r
  unfolding admits P N R L O
  admits-facts h =
      let A = not (too_soon last r.due (string_at p r.place).t) in
      let latest_day = r.due.0 + (string_at p r.place).j.0 in
      let a = and_right (P && N && R && L && O) A h in
      let pnrlo = and_left (P && N && R && L && O) A h in
      let o = and_right (P && N && R && L) O pnrlo in
      let pnrl = and_left (P && N && R && L) O pnrlo in
      let late = and_right (P && N && R) L pnrl in
      let pnr = and_left (P && N && R) L pnrl in
      let run = and_right (P && N) R pnr in
      let pn = and_left (P && N) R pnr in
      let n = and_right P N pn in
      let place = and_left P N pn in
      record {
        place_low = in_bounds-low 1 r.place p.n place;
        place_high = in_bounds-high 1 r.place p.n place;
        need_low = in_bounds-low 1 r.need.0 (string_at p r.place).c.0 n;
        need_high = in_bounds-high 1 r.need.0 (string_at p r.place).c.0 n;
        in_run = ltb-true r.day.0 p.run.0 run;
        not_before = in_bounds-low r.due.0 r.day.0 latest_day late;
        late_most = in_bounds-high r.due.0 r.day.0 latest_day late;
        in_order = ltb-false r.day.0 latest.0 (not-true _ o);
        apart = not-true _ a;
      }

  pub admits-not : (Admitted p latest last r → ⊥) → admits p latest last r ≡ false
  admits-not out = by_bool (admits p latest last r) (λ t. absurd (out (admits-facts t))) (λ e. e)

-- ---- A list walked from its head: what is seen before place i, the latest first

pub seen_to : List Release → ℕ → List Release
seen_to rs zero = []
seen_to rs (suc i) = get_or rs i no_release ∷ seen_to rs i

pub seen_to-none : (rs : List Release) → seen_to rs 0 ≡ []
unfolding seen_to
seen_to-none rs = refl

seen_to-next : (rs : List Release) (i : ℕ) → seen_to rs (i + 1) ≡ get_or rs i no_release ∷ seen_to rs i
unfolding seen_to
seen_to-next rs i = rw add-one

pub latest_of-next : (rs : List Release) (i : ℕ) → latest_of (seen_to rs (i + 1)) ≡ (get_or rs i no_release).day
unfolding latest_of
latest_of-next rs i = rw (seen_to-next rs i)

pub last_of-same : (rs : List Release) (i : ℕ) → last_of (get_or rs i no_release).place (seen_to rs (i + 1))
    ≡ Some (get_or rs i no_release).due
unfolding last_of
last_of-same rs i = rw (seen_to-next rs i, eq-eqb (get_or rs i no_release).place (get_or rs i no_release).place refl)

pub last_of-other : (rs : List Release) (i k : ℕ) → ((get_or rs i no_release).place ≡ k → ⊥)
    → last_of k (seen_to rs (i + 1)) ≡ last_of k (seen_to rs i)
unfolding last_of
last_of-other rs i k other = rw (seen_to-next rs i, ne_eqb (get_or rs i no_release).place k other)

module _ (p : Plan) (rs : List Release) (i : ℕ) (inside : i < length rs) where
  pub unlawful_from-good : (k : ℕ) → release_lawful p (seen_to rs i) (get_or rs i no_release) ≡ true
      → unlawful_from p (seen_to rs i) k (drop i rs) ≡ unlawful_from p (seen_to rs (i + 1)) (k + 1) (drop (i + 1) rs)
  unfolding unlawful_from
  unlawful_from-good k t = rw (drop-cons rs i no_release inside, t, seen_to-next rs i, add-one k, add-one i)

  pub unlawful_from-bad : (k : ℕ) → release_lawful p (seen_to rs i) (get_or rs i no_release) ≡ false
      → unlawful_from p (seen_to rs i) k (drop i rs) ≡ k
  unfolding unlawful_from
  unlawful_from-bad k e = rw (drop-cons rs i no_release inside, e)

pub unlawful_from-end : (p : Plan) (rs : List Release) (i k : ℕ) → length rs ≤ i → unlawful_from p (seen_to rs i) k (drop i rs) ≡ 0
unfolding unlawful_from
unlawful_from-end p rs i k h = rw (drop_of_length-le rs h)

-- what is admitted has one of the ten places
pub admitted-few : (p : Plan) (latest : Day) (last : Option Day) (r : Release) → length p.strings ≡ 10 → Admitted p latest last r
    → r.place ≤ 10
admitted-few p latest last r ten h =
    elim (dec_le r.place 10) [ yes few ↦ few | no many ↦ absurd (nowhere (omega arith)) ]
  where
    nowhere : 10 < r.place → ⊥
    nowhere many =
        let nothing : (string_at p r.place).c.0 ≡ 0 = ap (λ (s : BatteryString). s.c.0) (string_at-out p r.place (omega arith)) in
        let low = h.need_low in
        let high = h.need_high in
        omega arith

-- a place that no plan has is refused, whatever is remembered
pub admits-remembered : (p : Plan) (seen : List Release) (last : List (Option Day)) (r : Release) → length p.strings ≡ 10
    → ((k : ℕ) → k < 10 → get_or last k None ≡ last_of (k + 1) seen)
    → admits p (latest_of seen) (remembered_of last r.place) r ≡ release_lawful p seen r
unfolding remembered_of
admits-remembered p seen last r ten kept =
    by_bool (in_bounds 1 r.place 10)
    (λ t.
    let low = in_bounds-low 1 r.place 10 t in
    let high = in_bounds-high 1 r.place 10 t in
    let back : r.place - 1 + 1 ≡ r.place = omega arith in
    rw (t, kept (r.place - 1) (omega arith), back) (admits-is p seen r))
    (λ e. rw e (out None e ∙ sym (sym (admits-is p seen r) ∙ out (last_of r.place seen) e)))
  where
    out : (v : Option Day) → in_bounds 1 r.place 10 ≡ false → admits p (latest_of seen) v r ≡ false
    out v e =
        admits-not p (latest_of seen) v r
        (λ h. true-not-false (sym (in_bounds-yes 1 r.place 10 h.place_low (admitted-few p (latest_of seen) v r ten h)) ∙ e))
