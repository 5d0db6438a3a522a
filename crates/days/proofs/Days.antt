-- Laws of day plus length and day minus day.
use mathlib.{Core.Path.{◌≡◌, sym, ap, ◌∙◌}, Core.Bool.true}
use Prim.Native.Nat.{ℕ, ◌+◌, ◌-◌, ◌^◌, ◌≤◌, ◌<◌}
use native.{Mathlib.Omega.arith, Mathlib.Decide.dec_le}
use lib.Dec.{ltb}
use Rattle.std.specs.Prelude.{Some, None}
use borrow.Author.Tests.{lt-ltb, le-ltb, le-leb, lt-leb}
use Rattle.days.specs.{declared.Day.Day, declared.Length.Length, Days.{day, days, later_of, gap_of}}

pub later_of-fits : (t : Day) (n : Length) → t.0 + n.0 < 2 ^ 32 → later_of t n ≡ Some (day (t.0 + n.0))
unfolding later_of
later_of-fits t n h = rw (lt-ltb _ _ h)

pub later_of-over : (t : Day) (n : Length) → 2 ^ 32 ≤ t.0 + n.0 → later_of t n ≡ None
unfolding later_of
later_of-over t n h = rw (le-ltb _ _ h)

pub gap_of-ordered : (t s : Day) → s.0 ≤ t.0 → gap_of t s ≡ Some (days (t.0 - s.0))
unfolding gap_of
gap_of-ordered t s h = rw (le-leb _ _ h)

pub gap_of-backwards : (t s : Day) → t.0 < s.0 → gap_of t s ≡ None
unfolding gap_of
gap_of-backwards t s h = rw (lt-leb _ _ h)

-- a length after s is shorter than n where the day lies before s plus n
pub gap_of-shorter : (t s : Day) (g n : Length) → gap_of t s ≡ Some g → ltb g.0 n.0 ≡ ltb t.0 (s.0 + n.0)
gap_of-shorter t s g n h =
    elim (dec_le s.0 t.0) [ yes k ↦ ordered k | no k ↦ absurd (backwards (omega arith)) ]
  where
    ordered : s.0 ≤ t.0 → ltb g.0 n.0 ≡ ltb t.0 (s.0 + n.0)
    ordered k =
        let e : days (t.0 - s.0) ≡ g = cc (gap_of-ordered t s k) in
        let sum : t.0 ≡ s.0 + g.0 = omega (arith, ap (λ (m : Length). m.0) e) in
        elim (dec_le n.0 g.0) [
          | yes long ↦ le-ltb _ _ long ∙ sym (le-ltb t.0 (s.0 + n.0) (omega arith))
          | no short ↦ lt-ltb g.0 n.0 (omega arith) ∙ sym (lt-ltb t.0 (s.0 + n.0) (omega arith))
        ]

    backwards : t.0 < s.0 → ⊥
    backwards k =
        let z : ◌≡◌ {A = ℕ} 0 1 = cc (gap_of-backwards t s k) in
        omega arith

-- and a day before s lies before it too
pub gap_of-sooner : (t s : Day) (n : Length) → gap_of t s ≡ None → ltb t.0 (s.0 + n.0) ≡ true
gap_of-sooner t s n h =
    elim (dec_le s.0 t.0) [ yes k ↦ absurd (ordered k) | no k ↦ lt-ltb t.0 (s.0 + n.0) (omega arith) ]
  where
    ordered : s.0 ≤ t.0 → ⊥
    ordered k =
        let z : ◌≡◌ {A = ℕ} 0 1 = cc (gap_of-ordered t s k) in
        omega arith
