-- What the stints of a list of uses are: they follow each other and spell the uses, neighbours differ, and no list of stints that spells
-- the uses is shorter. Of any list that follows and spells, each day lies in exactly one stint.
use Rattle.base.proofs.Prelude.{ℕ, zero, suc, ◌+◌, ◌-◌, ◌≤◌, ◌<◌, ◌≡◌, refl, sym, ap, ◌∙◌, subst, List, [], ◌∷◌, ◌++◌, false, arith, add-one, dec_le, not-suc-le-zero, le_of_suc-le-suc, length, length-append, length-replicate, get_or, replicate}
use mathlib.Core.List.{flat_map}
use lib.ListN.{get_or-append, get_or-replicate}
use lib.Seq.{get_or-append-add}
use Rattle.rules.specs.{declared.Use.Use, declared.Use.TheVariants.Idle, declared.Stint.Stint, Stints.{same_use, day_ahead, stints_from}}
use Rattle.base.specs.Count.{sum_of}
use Rattle.base.proofs.Lists.{by_bool, true-not-false}
use Rattle.stretch.specs.Stints.{spelled, Following, Differing, LiesIn, no_stint, InOne}
use Rattle.stretch.proofs.StintJoin.{same_use-is, same_use-self, ahead-same, ahead-other, ahead_none, stretch-ahead}

-- ---- They follow each other

ahead-following : (t : ℕ) (u : Use) (ss : List Stint) → Following (suc t) ss → Following t (day_ahead t u ss)
ahead-following t u [] f = rw (ahead_none t u) (refl, omega arith, tt)
ahead-following t u (s ∷ ss) f =
    by_bool (same_use u s.used)
    (λ e.
    let sum : suc t + s.length.0 ≡ t + (s.length.0 + 1) = omega arith in
    rw (ahead-same t u s ss e) (refl, omega arith, subst (λ d. Following d ss) sum f.2))
    (λ e.
    let sum : suc t ≡ t + 1 = omega arith in
    rw (ahead-other t u s ss e) (refl, omega arith, subst (λ d. Following d (s ∷ ss)) sum f))

pub stints-follow : (t : ℕ) (us : List Use) → Following t (stints_from t us)
unfolding stints_from
stints-follow t [] = tt
stints-follow t (u ∷ us) = ahead-following t u (stints_from (suc t) us) (stints-follow (suc t) us)

-- ---- They spell the uses

ahead-spelled : (t : ℕ) (u : Use) (ss : List Stint) → spelled (day_ahead t u ss) ≡ u ∷ spelled ss
unfolding spelled flat_map
ahead-spelled t u [] = ap spelled (ahead_none t u)
ahead-spelled t u (s ∷ ss) =
    by_bool (same_use u s.used)
    (λ e.
    let is : u ≡ s.used = same_use-is u s.used e in
    ap spelled (ahead-same t u s ss e)
    ∙ ap (λ n. replicate n u ++ spelled ss) (add-one s.length.0)
    ∙ ap (λ v. u ∷ (replicate s.length.0 v ++ spelled ss)) is)
    (λ e. ap spelled (ahead-other t u s ss e))

pub stints-spell : (t : ℕ) (us : List Use) → spelled (stints_from t us) ≡ us
unfolding stints_from
stints-spell t [] = unfold spelled flat_map in refl
stints-spell t (u ∷ us) = ahead-spelled t u (stints_from (suc t) us) ∙ ap (λ vs. u ∷ vs) (stints-spell (suc t) us)

-- the lengths of stints are the days that they spell
pub lengths-spelled : (ss : List Stint) → sum_of (λ s. s.length.0) ss ≡ length (spelled ss)
unfolding sum_of spelled flat_map
lengths-spelled [] = refl
lengths-spelled (s ∷ ss) =
    let rest = lengths-spelled ss in
    omega (arith, length-append (replicate s.length.0 s.used) (spelled ss), length-replicate s.length.0 s.used)

-- ---- Neighbours differ

other-uses : (u v : Use) → same_use u v ≡ false → u ≡ v → ⊥
other-uses u v e is = true-not-false (sym (same_use-self u) ∙ ap (same_use u) is ∙ e)

ahead-differing : (t : ℕ) (u : Use) (ss : List Stint) → Differing ss → Differing (day_ahead t u ss)
ahead-differing t u [] d = rw (ahead_none t u) tt
ahead-differing t u (s ∷ []) d =
    by_bool (same_use u s.used) (λ e. rw (ahead-same t u s [] e) tt) (λ e. rw (ahead-other t u s [] e) (other-uses u s.used e, tt))
ahead-differing t u (s ∷ r ∷ ss) d =
    by_bool (same_use u s.used)
    (λ e. rw (ahead-same t u s (r ∷ ss) e) ((λ is. d.0 (sym (same_use-is u s.used e) ∙ is)), d.1))
    (λ e. rw (ahead-other t u s (r ∷ ss) e) (other-uses u s.used e, d))

pub stints-differ : (t : ℕ) (us : List Use) → Differing (stints_from t us)
unfolding stints_from
stints-differ t [] = tt
stints-differ t (u ∷ us) = ahead-differing t u (stints_from (suc t) us) (stints-differ (suc t) us)

-- ---- No list that spells the uses is shorter

pub stints-shortest : (t : ℕ) (ss : List Stint) → length (stints_from t (spelled ss)) ≤ length ss
unfolding spelled flat_map
stints-shortest t [] = unfold stints_from in omega arith
stints-shortest t (s ∷ ss) =
    omega (arith, stretch-ahead t s.length.0 s.used (spelled ss), stints-shortest (t + s.length.0) ss)

-- ---- Each day lies in one

following-since : (t : ℕ) (ss : List Stint) → Following t ss → (i : ℕ) → i < length ss → t ≤ (get_or ss i no_stint).first.0
following-since t [] f i h = absurd (not-suc-le-zero h)
following-since t (s ∷ ss) f zero h = omega (arith, f.0)
following-since t (s ∷ ss) f (suc i) h = omega (arith, following-since (t + s.length.0) ss f.2 i (le_of_suc-le-suc h))

pub each-day : (t : ℕ) (ss : List Stint) → Following t ss → (d : ℕ) → d < length (spelled ss)
    → InOne ss (t + d) (get_or (spelled ss) d Idle)
unfolding spelled flat_map
each-day t [] f d h = absurd (not-suc-le-zero h)
each-day t (s ∷ ss) f d h =
    let n = s.length.0 in
    let front = replicate n s.used in
    let size = length-replicate n s.used in
    elim (dec_le (suc d) n) [
      | yes early ↦
          record {
            index = 0;
            within = omega arith;
            lies = record { since = omega (arith, f.0); before = omega (arith, f.0) };
            did = sym (get_or-append front (spelled ss) Idle d (omega (arith, size)) ∙ get_or-replicate n d s.used Idle early);
            only = alone early;
          }
      | no late ↦
          let rest : d ≡ length front + (d - n) = omega (arith, size) in
          let day : t + n + (d - n) ≡ t + d = omega arith in
          let there : get_or (front ++ spelled ss) d Idle ≡ get_or (spelled ss) (d - n) Idle =
          ap (λ j. get_or (front ++ spelled ss) j Idle) rest ∙ get_or-append-add front (spelled ss) (d - n) Idle in
          let later = each-day (t + n) ss f.2 (d - n) (omega (arith, length-append front (spelled ss), size)) in
          after (subst (λ e. InOne ss e (get_or (spelled ss) (d - n) Idle)) day later) there late
    ]
  where
    alone : d < s.length.0 → (i : ℕ) → i < suc (length ss) → LiesIn (t + d) (get_or (s ∷ ss) i no_stint) → i ≡ 0
    alone early zero g l = refl
    alone early (suc i) g l =
        absurd (omega (arith, following-since (t + s.length.0) ss f.2 i (le_of_suc-le-suc g), l.since))

    after : InOne ss (t + d) (get_or (spelled ss) (d - s.length.0) Idle)
        → get_or (replicate s.length.0 s.used ++ spelled ss) d Idle ≡ get_or (spelled ss) (d - s.length.0) Idle
        → (d < s.length.0 → ⊥)
        → InOne (s ∷ ss) (t + d) (get_or (replicate s.length.0 s.used ++ spelled ss) d Idle)
    after one there late =
        record {
          index = suc one.index;
          within = omega (arith, one.within);
          lies = one.lies;
          did = one.did ∙ sym there;
          only = others one late;
        }
      where
        others : InOne ss (t + d) (get_or (spelled ss) (d - s.length.0) Idle) → (d < s.length.0 → ⊥) → (i : ℕ) → i < suc (length ss)
            → LiesIn (t + d) (get_or (s ∷ ss) i no_stint) → i ≡ suc one.index
        others o l zero g lies = absurd (omega (arith, lies.before, f.0))
        others o l (suc i) g lies = ap suc (one.only i (le_of_suc-le-suc g) lies)
