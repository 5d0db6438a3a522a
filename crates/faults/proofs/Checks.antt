-- Laws of checks: what a check that finds nothing says, and which check decides.
use Rattle.base.proofs.Prelude.{ℕ, ◌≤◌, ◌≡◌, refl, ap, Bool, true, false, arith, leb-true, le-leb, leb}
use Rattle.faults.specs.Checks.{Refused, Lawful, Checked}
use Rattle.std.specs.Prelude.{Result, Ok, Err}
use Rattle.base.proofs.Lists.{by_bool, and_left, and_right, and_both}
use Rattle.faults.specs.declared.Fault.{Fault}
use Rattle.faults.specs.declared.Refusal.{Refusal}
use Rattle.faults.specs.Checks.{then, refuse_if, or_refused, in_bounds}

-- a refusal is no Lawful
pub refused-not-lawful : (f : Fault) (at : ℕ) → Refused f at ≡ Lawful → ⊥
refused-not-lawful f at h =
    let z : ◌≡◌ {A = ℕ} 0 1 = cc in
    omega arith

-- what follows where nothing is found and where a fault is, follows
pub by-checked {κ} : {B : Type κ} (c : Checked) → (c ≡ Lawful → B) → ((f : Fault) (at : ℕ) → c ≡ Refused f at → B) → B
by-checked (Ok _) lawful refused = lawful refl
by-checked (Err e) lawful refused = refused e.fault e.at refl

pub then-first : (a b : Checked) → then a b ≡ Lawful → a ≡ Lawful
then-first (Ok _) b h = refl
then-first (Err e) b h = h

pub then-second : (a b : Checked) → then a b ≡ Lawful → b ≡ Lawful
then-second (Ok _) b h = h
then-second (Err e) b h = absurd (refused-not-lawful e.fault e.at h)

pub then-lawful : {A : Type 0} (a : Checked) (b : Result A Refusal) → a ≡ Lawful → then a b ≡ b
then-lawful a b h = ap (λ v. then v b) h

pub then-refused : {A : Type 0} (a : Checked) (b : Result A Refusal) (f : Fault) (at : ℕ) → a ≡ Refused f at → then a b ≡ Refused f at
then-refused a b f at h = ap (λ v. then v b) h

pub refuse_if-not : (bad : Bool) (f : Fault) (at : ℕ) → refuse_if bad f at ≡ Lawful → bad ≡ false
refuse_if-not true f at h = absurd (refused-not-lawful f at h)
refuse_if-not false f at h = refl

-- what is lawful does not depend on the place that a fault would be reported at
pub refuse_if-anywhere : (bad : Bool) (f : Fault) (at elsewhere : ℕ) → refuse_if bad f at ≡ Lawful → refuse_if bad f elsewhere ≡ Lawful
refuse_if-anywhere bad f at elsewhere h = rw (refuse_if-not bad f at h)

-- a refusal is no value
pub err-not-ok : {A : Type 0} (e : Refusal) (x : A) → Err e ≡ Ok x → ⊥
err-not-ok e x h =
    let z : ◌≡◌ {A = ℕ} 0 1 = cc in
    omega arith

-- a value that no refusal makes comes from a check that found nothing
pub or_refused-lawful {ℓ} : {A : Type ℓ} (refused : Fault → ℕ → A) (c : Checked) (x y : A) → ((f : Fault) (at : ℕ) → refused f at ≡ y → ⊥)
    → or_refused refused c x ≡ y → (c ≡ Lawful) × (x ≡ y)
or_refused-lawful refused (Ok _) x y none h = (refl, h)
or_refused-lawful refused (Err e) x y none h = absurd (none e.fault e.at h)

pub in_bounds-low : (low v high : ℕ) → in_bounds low v high ≡ true → low ≤ v
in_bounds-low low v high h = leb-true low v (and_left (leb low v) (leb v high) h)

pub in_bounds-high : (low v high : ℕ) → in_bounds low v high ≡ true → v ≤ high
in_bounds-high low v high h = leb-true v high (and_right (leb low v) (leb v high) h)

pub in_bounds-yes : (low v high : ℕ) → low ≤ v → v ≤ high → in_bounds low v high ≡ true
in_bounds-yes low v high h k = and_both (leb low v) (leb v high) (le-leb low v h) (le-leb v high k)

pub in_bounds-not : (low v high : ℕ) → (low ≤ v → v ≤ high → ⊥) → in_bounds low v high ≡ false
in_bounds-not low v high out =
    by_bool (in_bounds low v high)
    (λ t. absurd (out (in_bounds-low low v high t) (in_bounds-high low v high t)))
    (λ e. e)
