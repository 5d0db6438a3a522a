-- A list in which each release is within the bounds, and keeps its distance to every one before it, is lawful.
use Rattle.base.proofs.Prelude.{ℕ, suc, ◌+◌, ◌≡◌, refl, true, false, List, [], ◌∷◌, lt-ltb, le-ltb, eqb-true, eqb}
use Rattle.faults.proofs.Checks.{in_bounds-yes}
use Rattle.rules.specs.{declared.Plan.Plan, declared.Release.Release, Plan.string_at, Release.{due_day, too_close, out_of_order, release_lawful, unlawful_from, first_unlawful}}
use Rattle.base.proofs.{Lists.{All, by_bool}, Order.{Rising, all_both, all_of}}
use Rattle.laws.proofs.ReleaseList.{LawfulRelease, Keeps, Spaced}

module _ (p : Plan) where
  in_order : (r : Release) (seen : List Release) → All (Keeps p r) seen → out_of_order r seen ≡ false
  unfolding out_of_order
  in_order r [] k = refl
  in_order r (q ∷ seen) k = le-ltb r.day.0 q.day.0 k.0.0

  far-enough : (r : Release) (seen : List Release) → All (Keeps p r) seen → too_close (string_at p r.place).t.0 r seen ≡ false
  unfolding too_close
  far-enough r [] k = refl
  far-enough r (q ∷ seen) k =
      by_bool (eqb q.place r.place)
      (λ e. rw e (le-ltb (due_day r) (due_day q + (string_at p r.place).t.0) (k.0.1 (eqb-true _ _ e))))
      (λ e. rw e (far-enough r seen k.1))

  release_lawful-yes : (seen : List Release) (r : Release) → LawfulRelease p r → All (Keeps p r) seen → release_lawful p seen r ≡ true
  unfolding release_lawful
  release_lawful-yes seen r good k =
      rw (
        in_bounds-yes 1 r.place p.n good.place_pos good.place_max,
        in_bounds-yes 1 r.need.0 (string_at p r.place).c.0 good.need_pos good.need_max,
        lt-ltb r.day.0 p.run.0 good.early,
        in_bounds-yes (due_day r) r.day.0 (due_day r + (string_at p r.place).j.0) good.not_before good.late_max,
        in_order r seen k,
        far-enough r seen k,
      )

  spaced-none : (seen : List Release) (k : ℕ) (rs : List Release) → Spaced p seen rs → unlawful_from p seen k rs ≡ 0
  unfolding unlawful_from
  spaced-none seen k [] s = refl
  spaced-none seen k (r ∷ rs) s = rw (release_lawful-yes seen r s.0 s.1) (spaced-none (r ∷ seen) (suc k) rs s.2)

  -- the earlier of two in a list, as the later one asks
  abbrev pub Ahead : Release → Release → Type 0
  Ahead q r = Keeps p r q

  rising_spaced : (seen rs : List Release) → All (LawfulRelease p) rs → Rising Ahead rs → All (λ r. All (Keeps p r) seen) rs
      → Spaced p seen rs
  rising_spaced seen [] good rise before = tt
  rising_spaced seen (r ∷ rs) good rise before = (
    good.0,
    before.0,
    rising_spaced (r ∷ seen) rs good.1 rise.1
        (all_both (Ahead r) (λ x. All (Keeps p x) seen) (λ x. All (Keeps p x) (r ∷ seen)) (λ x k ks. (k, ks)) rs rise.0 before.1),
  )

  pub rising-lawful : (rs : List Release) → All (LawfulRelease p) rs → Rising Ahead rs → first_unlawful p rs ≡ 0
  unfolding first_unlawful
  rising-lawful rs good rise =
      spaced-none [] 1 rs (rising_spaced [] rs good rise (all_of (λ r. All (Keeps p r) []) (λ r. tt) rs))
