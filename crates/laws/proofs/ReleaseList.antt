-- What a lawful release list gives: each release is within the bounds, and the due days of two of one place are at least T days apart.
--     str p j               the string with index j: the string of place j + 1
--     Released rs j t       a release of the list is of the place with index j and of day t
--     due_at rs m            the due day of the release with index m
use Rattle.base.proofs.Prelude.{ℕ, zero, suc, ◌+◌, ◌-◌, ◌≤◌, ◌<◌, ◌≡◌, sym, ap, ◌∙◌, true, false, not, ◌&&◌, List, [], ◌∷◌, arith, dec_le, ℕ_discrete, le_refl, not-suc-le-zero, le_of_suc-le-suc, ltb-true, ltb-false, eqb-true, eqb-false, not-true, ltb, eqb, length, get_or, get_or-eq_default}
use Rattle.rules.specs.{declared.BatteryString.BatteryString, declared.Plan.Plan, declared.Release.Release, Plan.{strings_of, string_at, no_string}, Release.{no_release, due_day, too_close, out_of_order, release_lawful, unlawful_from, first_unlawful}}
use Rattle.faults.specs.Checks.{in_bounds}
use Rattle.faults.proofs.Checks.{in_bounds-low, in_bounds-high}
use Rattle.base.proofs.{Order.all_both, Lists.{All, all_map, by_bool, and_left, and_right}}

abbrev pub str : Plan → ℕ → BatteryString
str p j = get_or (strings_of p) j no_string

pub string_at-suc : (p : Plan) (j : ℕ) → string_at p (suc j) ≡ str p j
string_at-suc p j =
    let e : suc j - 1 ≡ j = omega arith in
    ap (λ i. get_or (strings_of p) i no_string) e

-- ---- One release

pub record LawfulRelease (p : Plan) (r : Release) : Type 0 where
  pub place_pos : 1 ≤ r.place
  pub place_max : r.place ≤ p.n
  pub need_pos : 1 ≤ r.need.0
  pub need_max : r.need.0 ≤ (string_at p r.place).c.0
  pub early : r.day.0 < p.run.0
  pub not_before : due_day r ≤ r.day.0
  pub late_max : r.day.0 ≤ due_day r + (string_at p r.place).j.0
  pub within : r.place ≤ length (strings_of p)

-- where no string is, no need is lawful
string-there : (p : Plan) (i : ℕ) → 1 ≤ i → 1 ≤ (string_at p i).c.0 → i ≤ length (strings_of p)
string-there p i a c =
    elim (dec_le i (length (strings_of p))) [
      | yes h ↦ h
      | no h ↦
          let none : string_at p i ≡ no_string = get_or-eq_default (strings_of p) no_string (omega arith) in
          let zero-c : (string_at p i).c.0 ≡ 0 = ap (λ s. s.c.0) none in
          absurd (omega arith)
    ]

-- the latest before r is no later, and the due day of r keeps T to those of its own place
abbrev pub Keeps : Plan → Release → Release → Type 0
Keeps p r q = (q.day.0 ≤ r.day.0) × (q.place ≡ r.place → due_day q + (string_at p r.place).t.0 ≤ due_day r)

-- each of seen keeps its distance to those listed before it
abbrev pub Chain : Plan → List Release → Type 0
Chain p [] = Unit {0}
Chain p (q ∷ seen) = All (Keeps p q) seen × Chain p seen

ordered-all : (p : Plan) (r : Release) (seen : List Release) → Chain p seen → out_of_order r seen ≡ false
    → All (λ q. q.day.0 ≤ r.day.0) seen
unfolding out_of_order
ordered-all p r [] c h = tt
ordered-all p r (q ∷ seen) c h =
    let last : q.day.0 ≤ r.day.0 = ltb-false _ _ h in
    (last, all_map (Keeps p q) (λ e. e.day.0 ≤ r.day.0) (λ e k. omega (arith, k.0)) seen c.0)

apart-all : (p : Plan) (t : ℕ) (r : Release) (seen : List Release) → Chain p seen → too_close t r seen ≡ false
    → All (λ q. q.place ≡ r.place → due_day q + t ≤ due_day r) seen
unfolding too_close
apart-all p t r [] c h = tt
apart-all p t r (q ∷ seen) c h =
    by_bool (eqb q.place r.place)
    (λ e.
    let last : due_day q + t ≤ due_day r = ltb-false _ _ (rw e at h) in (
      (λ s. last),
      all_map (Keeps p q) (λ o. o.place ≡ r.place → due_day o + t ≤ due_day r)
          (λ o k s. omega (arith, k.1 (s ∙ sym (eqb-true _ _ e)))) seen c.0,
    ))
    (λ e. ((λ s. absurd (eqb-false _ _ e s)), apart-all p t r seen c.1 (rw e at h)))

release_lawful-is : (p : Plan) (seen : List Release) (r : Release) → Chain p seen → release_lawful p seen r ≡ true
    → LawfulRelease p r × All (Keeps p r) seen
unfolding release_lawful
release_lawful-is p seen r c h =
    let P = in_bounds 1 r.place p.n in
    let N = in_bounds 1 r.need.0 (string_at p r.place).c.0 in
    let D = ltb r.day.0 p.run.0 in
    let latest = due_day r + (string_at p r.place).j.0 in
    let L = in_bounds (due_day r) r.day.0 latest in
    let O = not (out_of_order r seen) in
    let A = not (too_close (string_at p r.place).t.0 r seen) in
    let apart : too_close (string_at p r.place).t.0 r seen ≡ false = not-true _ (and_right (P && N && D && L && O) A h) in
    let pndlo = and_left (P && N && D && L && O) A h in
    let order : out_of_order r seen ≡ false = not-true _ (and_right (P && N && D && L) O pndlo) in
    let pndl = and_left (P && N && D && L) O pndlo in
    let late = and_right (P && N && D) L pndl in
    let pnd = and_left (P && N && D) L pndl in
    let pn = and_left (P && N) D pnd in
    let place : 1 ≤ r.place = in_bounds-low 1 r.place p.n (and_left P N pn) in
    let need_low : 1 ≤ r.need.0 = in_bounds-low 1 r.need.0 (string_at p r.place).c.0 (and_right P N pn) in
    let need_high : r.need.0 ≤ (string_at p r.place).c.0 =
    in_bounds-high 1 r.need.0 (string_at p r.place).c.0 (and_right P N pn) in (
      record {
        place_pos = place;
        place_max = in_bounds-high 1 r.place p.n (and_left P N pn);
        need_pos = need_low;
        need_max = need_high;
        early = ltb-true _ _ (and_right (P && N) D pnd);
        not_before = in_bounds-low (due_day r) r.day.0 latest late;
        late_max = in_bounds-high (due_day r) r.day.0 latest late;
        within = string-there p r.place place (omega arith);
      },
      all_both (λ q. q.day.0 ≤ r.day.0) (λ q. q.place ≡ r.place → due_day q + (string_at p r.place).t.0 ≤ due_day r) (Keeps p r)
          (λ q before far. (before, far)) seen (ordered-all p r seen c order) (apart-all p (string_at p r.place).t.0 r seen c apart),
    )

-- ---- A list of releases, listed after those seen

abbrev pub Spaced : Plan → List Release → List Release → Type 0
Spaced p seen [] = Unit {0}
Spaced p seen (r ∷ rs) = LawfulRelease p r × All (Keeps p r) seen × Spaced p (r ∷ seen) rs

unlawful_from-spaced : (p : Plan) (seen : List Release) (k : ℕ) (rs : List Release) → 1 ≤ k → Chain p seen → unlawful_from p seen k rs ≡ 0
    → Spaced p seen rs
unfolding unlawful_from
unlawful_from-spaced p seen k [] a c h = tt
unlawful_from-spaced p seen k (r ∷ rs) a c h =
    by_bool (release_lawful p seen r)
    (λ t.
    let good = release_lawful-is p seen r c t in
    (good.0, good.1, unlawful_from-spaced p (r ∷ seen) (suc k) rs (omega arith) (good.1, c) (rw t at h)))
    (λ f.
    let now : k ≡ 0 = rw f at h in
    absurd (omega arith))

spaced-lawful : (p : Plan) (seen rs : List Release) → Spaced p seen rs → (m : ℕ) → m < length rs → LawfulRelease p (get_or rs m no_release)
spaced-lawful p seen [] s m h = absurd (not-suc-le-zero h)
spaced-lawful p seen (r ∷ rs) s zero h = s.0
spaced-lawful p seen (r ∷ rs) s (suc m) h = spaced-lawful p (r ∷ seen) rs s.2 m (le_of_suc-le-suc h)

spaced-seen : (p : Plan) (seen rs : List Release) → Spaced p seen rs → (m : ℕ) → m < length rs → All (Keeps p (get_or rs m no_release)) seen
spaced-seen p seen [] s m h = absurd (not-suc-le-zero h)
spaced-seen p seen (r ∷ rs) s zero h = s.1
spaced-seen p seen (r ∷ rs) s (suc m) h = (spaced-seen p (r ∷ seen) rs s.2 m (le_of_suc-le-suc h)).1

spaced-keeps : (p : Plan) (seen rs : List Release) → Spaced p seen rs → (i m : ℕ) → i < m → m < length rs
    → Keeps p (get_or rs m no_release) (get_or rs i no_release)
spaced-keeps p seen [] s i m k h = absurd (not-suc-le-zero h)
spaced-keeps p seen (r ∷ rs) s i zero k h = absurd (not-suc-le-zero k)
spaced-keeps p seen (r ∷ rs) s zero (suc m) k h = (spaced-seen p (r ∷ seen) rs s.2 m (le_of_suc-le-suc h)).0
spaced-keeps p seen (r ∷ rs) s (suc i) (suc m) k h =
    spaced-keeps p (r ∷ seen) rs s.2 i m (le_of_suc-le-suc k) (le_of_suc-le-suc h)

-- ---- By index

abbrev pub Released : List Release → ℕ → ℕ → Type 0
Released rs j t = (m : ℕ) × (m < length rs) × ((get_or rs m no_release).place ≡ suc j) × ((get_or rs m no_release).day.0 ≡ t)

abbrev pub due_at : List Release → ℕ → ℕ
due_at rs m = due_day (get_or rs m no_release)

-- the string of a release, by the index of its place
pub release-string : (p : Plan) (rs : List Release) (j m : ℕ) → (get_or rs m no_release).place ≡ suc j
    → string_at p (get_or rs m no_release).place ≡ str p j
release-string p rs j m e = ap (string_at p) e ∙ string_at-suc p j

module _ (p : Plan) (rs : List Release) (lawful : first_unlawful p rs ≡ 0) where
  list-spaced : Spaced p [] rs
  unfolding first_unlawful
  list-spaced = unlawful_from-spaced p [] 1 rs (omega arith) tt lawful

  pub release-lawful : (m : ℕ) → m < length rs → LawfulRelease p (get_or rs m no_release)
  release-lawful = spaced-lawful p [] rs list-spaced

  -- days never fall
  pub listed-sorted : (i m : ℕ) → i ≤ m → m < length rs → (get_or rs i no_release).day.0 ≤ (get_or rs m no_release).day.0
  listed-sorted i m k h =
      elim (ℕ_discrete i m) [
        | yes same ↦ rw same (le_refl (get_or rs m no_release).day.0)
        | no other ↦ (spaced-keeps p [] rs list-spaced i m (omega arith) h).0
      ]

  -- no release is before its due day, or more than J days after it
  pub released-due : (j t : ℕ) (a : Released rs j t) → due_at rs a.0 ≤ t
  released-due j t a = omega (arith, (release-lawful a.0 a.1).not_before, a.3)

  pub released-late : (j t : ℕ) (a : Released rs j t) → t ≤ due_at rs a.0 + (str p j).j.0
  released-late j t a =
      let latest = (release-lawful a.0 a.1).late_max in
      omega (arith, rw (release-string p rs j a.0 a.2) at latest, a.3)

  -- the due days of two releases of one place, the earlier listed first, are T days apart
  listed-apart : (j i m : ℕ) → i < m → m < length rs → (get_or rs i no_release).place ≡ suc j → (get_or rs m no_release).place ≡ suc j
      → due_at rs i + (str p j).t.0 ≤ due_at rs m
  listed-apart j i m k h a b =
      let far = (spaced-keeps p [] rs list-spaced i m k h).1 (a ∙ sym b) in
      rw (release-string p rs j m b) at far

  -- so are those of an earlier and a later release
  pub released-apart : (j t u : ℕ) (a : Released rs j t) (b : Released rs j u) → t < u → due_at rs a.0 + (str p j).t.0 ≤ due_at rs b.0
  released-apart j t u a b h =
      elim (dec_le (suc a.0) b.0) [
        | yes before ↦ listed-apart j a.0 b.0 before b.1 a.2 b.2
        | no after ↦
            elim (ℕ_discrete a.0 b.0) [
              | yes same ↦
                  let day-same : (get_or rs a.0 no_release).day.0 ≡ (get_or rs b.0 no_release).day.0 =
                  ap (λ m. (get_or rs m no_release).day.0) same in
                  absurd (omega (arith, a.3, b.3))
              | no other ↦
                  let back = (spaced-keeps p [] rs list-spaced b.0 a.0 (omega arith) a.1).0 in
                  absurd (omega (arith, a.3, b.3))
            ]
      ]

  -- a place has one release a day: a second one would be due T days later, and J is below T
  pub released-once : (j t : ℕ) → (str p j).j.0 < (str p j).t.0 → (a b : Released rs j t) → a.0 ≡ b.0
  released-once j t below a b =
      elim (ℕ_discrete a.0 b.0) [
        | yes same ↦ same
        | no other ↦
            elim (dec_le a.0 b.0) [
              | yes before ↦
                  let far = listed-apart j a.0 b.0 (omega arith) b.1 a.2 b.2 in
                  absurd (omega (arith, released-late j t a, released-due j t b))
              | no after ↦
                  let far = listed-apart j b.0 a.0 (omega arith) a.1 b.2 a.2 in
                  absurd (omega (arith, released-late j t b, released-due j t a))
            ]
      ]
