-- What the notes of a set's line mean, for a lawful plan.
--     fewest takers         stands at exactly the set that the search finds
--     misses                stands only where a list of releases that is lawful for the plan with the set misses a deadline
--     never misses          stands only where none does, whatever N
use Rattle.base.proofs.Prelude.{ℕ, ◌≡◌, refl, ap, ◌∙◌, ◌⊎◌, inl, inr, ◌↔◌, true, arith, eqb, eq-eqb, eqb-true}
use Rattle.std.specs.Prelude.{Result, Ok, Err, Some, None}
use Rattle.faults.specs.declared.Refusal.{Refusal}
use Rattle.rules.specs.Found.{Assign}
use Rattle.base.proofs.Lists.{by_bool}
use Rattle.days.specs.declared.Length.{Length}
use Rattle.rules.specs.declared.Plan.{Plan}
use Rattle.rules.specs.declared.Releases.{Releases}
use Rattle.rules.specs.declared.Verdict.{Verdict}
use Rattle.rules.specs.Verdict.{is_pass}
use Rattle.rules.specs.Search.{with_set, set_passes, search_of}
use Rattle.laws.proofs.Lawful.{LawfulPlan}
use Rattle.demand.specs.Quick.{quick_of}
use Rattle.demand.proofs.{Agreeing.quick-passes, Sets.with_set-lawful, Search.search-passes}
use Rattle.tries.specs.{declared.Missing.Missing, Tries.missing_answer, Shown.{Shows, MissesOverMany}}
use Rattle.exact.specs.Missing.{NeverMisses}
use Rattle.tries.proofs.Meaning.{answer-found, answer-many, answer-never}
use Rattle.tries.specs.declared.Missing.TheVariants as missing
use Rattle.lines.specs.declared.sets.SetNote.{SetNote}
use Rattle.lines.specs.declared.sets.SetNote.TheVariants.{Nothing, FewestTakers, Misses}
use Rattle.lines.specs.declared.sets.SetNote.TheVariants as note
use Rattle.sets.specs.Sets.{found_note, miss_note, note_of}

found-fewest : (a : Assign) (m : ℕ) → found_note a m ≡ FewestTakers → a ≡ Some m
unfolding found_note
found-fewest None m is = absurd (cc is)
found-fewest (Some best) m is =
    by_bool (eqb best m)
    (λ t. ap Some (eqb-true best m t))
    (λ f. absurd (cc (rw f at is)))

found-never : (a : Assign) (m : ℕ) → found_note a m ≡ Misses → ⊥
unfolding found_note
found-never None m is = cc is
found-never (Some best) m is =
    by_bool (eqb best m) (λ t. cc (rw t at is)) (λ f. cc (rw f at is))

miss-fewest : (k : Result Missing Refusal) → miss_note k ≡ FewestTakers → ⊥
unfolding miss_note
miss-fewest (Err e) is = cc is
miss-fewest (Ok missing.Passes) is = cc is
miss-fewest (Ok missing.Never) is = cc is
miss-fewest (Ok missing.NoneFound) is = cc is
miss-fewest (Ok missing.TooMany) is = cc is
miss-fewest (Ok (missing.Found n rs)) is = cc is

miss-said : (k : Result Missing Refusal) → miss_note k ≡ Misses
    → ((n : Length) × (rs : Releases) × (k ≡ Ok (missing.Found n rs))) ⊎ (k ≡ Ok missing.TooMany)
unfolding miss_note
miss-said (Err e) is = absurd (cc is)
miss-said (Ok missing.Passes) is = absurd (cc is)
miss-said (Ok missing.Never) is = absurd (cc is)
miss-said (Ok missing.NoneFound) is = absurd (cc is)
miss-said (Ok missing.TooMany) is = inr refl
miss-said (Ok (missing.Found n rs)) is = inl (n, rs, refl)

found-silent : (a : Assign) (m : ℕ) → found_note a m ≡ note.NeverMisses → ⊥
unfolding found_note
found-silent None m is = cc is
found-silent (Some best) m is =
    by_bool (eqb best m) (λ t. cc (rw t at is)) (λ f. cc (rw f at is))

never-said : (k : Result Missing Refusal) → miss_note k ≡ note.NeverMisses → k ≡ Ok missing.Never
unfolding miss_note
never-said (Err e) is = absurd (cc is)
never-said (Ok missing.Passes) is = absurd (cc is)
never-said (Ok missing.Never) is = refl
never-said (Ok missing.NoneFound) is = absurd (cc is)
never-said (Ok missing.TooMany) is = absurd (cc is)
never-said (Ok (missing.Found n rs)) is = absurd (cc is)

module _ (p : Plan) (lawful : LawfulPlan p) (m : ℕ) where
  -- `fewest takers` stands at the set that the search finds, and at no other
  pub fewest-exactly : (note_of p (search_of p) m (quick_of (with_set p m)) ≡ FewestTakers) ↔ (search_of p ≡ Some m)
  unfolding note_of found_note
  fewest-exactly = (only, there)
    where
      only : note_of p (search_of p) m (quick_of (with_set p m)) ≡ FewestTakers → search_of p ≡ Some m
      only is =
          by_bool (is_pass (quick_of (with_set p m)))
          (λ t. found-fewest (search_of p) m (rw t at is))
          (λ f. absurd (miss-fewest (missing_answer (with_set p m)) (rw f at is)))

      there : search_of p ≡ Some m → note_of p (search_of p) m (quick_of (with_set p m)) ≡ FewestTakers
      there found =
          let passes : is_pass (quick_of (with_set p m)) ≡ true =
          quick-passes (with_set p m) (with_set-lawful p m lawful).each ∙ unfold set_passes in (search-passes p m found).0 in
          rw (passes, found, eq-eqb m m refl)

  -- where it says `misses`, a list misses: one of at most 1,000 releases, or one of more
  pub noted-misses : (a : Assign) (v : Verdict) → note_of p a m v ≡ Misses
      → ((n : Length) × (rs : Releases) × Shows (with_set p m) n.0 rs) ⊎ MissesOverMany (with_set p m)
  unfolding note_of
  noted-misses a v is =
      by_bool (is_pass v)
      (λ t. absurd (found-never a m (rw t at is)))
      (λ f. by_said (miss-said (missing_answer (with_set p m)) (rw f at is)))
    where
      by_said : ((n : Length) × (rs : Releases) × (missing_answer (with_set p m) ≡ Ok (missing.Found n rs)))
          ⊎ (missing_answer (with_set p m) ≡ Ok missing.TooMany)
          → ((n : Length) × (rs : Releases) × Shows (with_set p m) n.0 rs) ⊎ MissesOverMany (with_set p m)
      by_said (inl found) = inl (found.0, found.1, (answer-found (with_set p m) found.0 found.1 found.2).1)
      by_said (inr many) = inr (answer-many (with_set p m) many)

  -- where it says `never misses`, no list does
  pub noted-never : (a : Assign) (v : Verdict) → note_of p a m v ≡ note.NeverMisses → NeverMisses (with_set p m)
  unfolding note_of
  noted-never a v is =
      by_bool (is_pass v)
      (λ t. absurd (found-silent a m (rw t at is)))
      (λ f. answer-never (with_set p m) (never-said (missing_answer (with_set p m)) (rw f at is)))
