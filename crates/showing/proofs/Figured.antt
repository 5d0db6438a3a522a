-- What the figures of a plan say of its check, and which figures they are.
use Rattle.base.proofs.Prelude.{◌≡◌, refl, ap}
use Rattle.faults.specs.Checks.{Lawful, Checked, Refused, or_refused}
use Rattle.faults.specs.declared.Refusal.{Refusal}
use Rattle.std.specs.Prelude.{Ok, Err}
use Rattle.rules.specs.declared.Plan.{Plan}
use Rattle.rules.specs.declared.Figures.{Figures}
use Rattle.rules.specs.Figures.{holds_of, figures_of, figures_answer}
use Rattle.rules.specs.Plan.{multiple_of}
use Rattle.rules.specs.Demand.{load}
use Rattle.rules.specs.Refusal.{plan_check}

given : (check : Checked) (v found : Figures) → or_refused Refused check (Ok v) ≡ Ok found → (check ≡ Lawful) × (found ≡ v)
given (Ok _) v found e = (refl, cc)
given (Err r) v found e = absurd (cc)

refused : (check : Checked) (v : Figures) (r : Refusal) → or_refused Refused check (Ok v) ≡ Err r → check ≡ Err r
refused (Ok _) v r e = absurd (cc)
refused (Err s) v r e = cc

module _ (p : Plan) where
  pub figures-lawful : (found : Figures) → figures_answer p ≡ Ok found → plan_check p ≡ Lawful
  unfolding figures_answer
  figures-lawful found e = (given (plan_check p) (figures_of p) found e).0

  pub figures_refused : (r : Refusal) → figures_answer p ≡ Err r → plan_check p ≡ Err r
  unfolding figures_answer
  figures_refused r e = refused (plan_check p) (figures_of p) r e

  module _ (found : Figures) (e : figures_answer p ≡ Ok found) where
    found-is : found ≡ figures_of p
    unfolding figures_answer
    found-is = (given (plan_check p) (figures_of p) found e).1

    pub holds-are : found.holds ≡ holds_of p
    unfolding figures_of
    holds-are = ap (λ (v : Figures). v.holds) found-is

    pub multiple-is : found.multiple ≡ multiple_of p
    unfolding figures_of
    multiple-is = ap (λ (v : Figures). v.multiple) found-is

    pub load_is : found.load ≡ load p
    unfolding figures_of
    load_is = ap (λ (v : Figures). v.load) found-is

pub ruleset figured = (figures-lawful, figures_refused, holds-are, multiple-is, load_is)
