-- Numbers of a few decimal digits without leading zeros: what decides that a field is one, and which.
use Rattle.base.proofs.Prelude.{ℕ, ◌+◌, ◌-◌, ◌*◌, ◌^◌, ◌≤◌, ◌<◌, ◌≡◌, refl, Bool, true, false, ◌&&◌, List, arith, add-one, pow-suc, leb, length, get_or, drop, drop-cons, drop_of_length-le}
use native.Mathlib.Nat.{pow-le-pow_right}
use Rattle.std.specs.Prelude.{Some, None}
use Rattle.faults.specs.Checks.{in_bounds}
use Rattle.base.specs.{Count.{every}, Digits.{number_on, decimal_on, decimal_in}}
use Rattle.base.proofs.Lists.{and_left, and_right}
use Rattle.faults.proofs.Checks.{in_bounds-low, in_bounds-high}
use Rattle.register.specs.{Table.{is_figure, plain_number}, inner.Fields.{lead, register_number_in}}

-- ---- Of three tests one fails

and_last : (a b : Bool) → (a && b && false) ≡ false
and_last true true = refl
and_last true false = refl
and_last false true = refl
and_last false false = refl

-- ---- A field that is none, and one that is

module _ (most : ℕ) (field : List ℕ) where
  other : plain_number most field ≡ false → None ≡ register_number_in most field
  unfolding register_number_in
  other e = rw e

  pub number-other : every is_figure field ≡ false → None ≡ register_number_in most field
  number-other e = other (unfold plain_number in rw e (and_last (in_bounds 1 (length field) most) (lead field)))

  pub number_is : in_bounds 1 (length field) most ≡ true → lead field ≡ true → every is_figure field ≡ true
      → Some (decimal_in field) ≡ register_number_in most field
  unfolding register_number_in plain_number
  number_is sizes first figures = rw (sizes, first, figures)

-- ---- Digit by digit

pub every-next : (field : List ℕ) (i : ℕ) → i < length field → is_figure (get_or field i 0) ≡ true
    → every is_figure (drop i field) ≡ every is_figure (drop (i + 1) field)
unfolding every
every-next field i h here = rw (add-one i, drop-cons field i 0 h, here)

pub every-not : (field : List ℕ) (i : ℕ) → i < length field → is_figure (get_or field i 0) ≡ false → every is_figure (drop i field) ≡ false
unfolding every
every-not field i h here = rw (drop-cons field i 0 h, here)

pub every-end : (field : List ℕ) (i : ℕ) → length field ≤ i → every is_figure (drop i field) ≡ true
unfolding every
every-end field i h = rw (drop_of_length-le field h)

pub decimal-next : (n : ℕ) (field : List ℕ) (i : ℕ) → i < length field
    → decimal_on n (drop i field) ≡ decimal_on (n * 10 + (get_or field i 0 - 0x30)) (drop (i + 1) field)
unfolding number_on
decimal-next n field i h = rw (add-one i, drop-cons field i 0 h)

pub decimal-end : (n : ℕ) (field : List ℕ) (i : ℕ) → length field ≤ i → decimal_on n (drop i field) ≡ n
unfolding number_on
decimal-end n field i h = rw (drop_of_length-le field h)

-- a digit more, a place more
pub power-next : (n d i : ℕ) → n < 10 ^ i → d ≤ 9 → n * 10 + d < 10 ^ (i + 1)
power-next n d i h k =
    let more = pow-suc 10 i in
    rw (add-one i) (omega arith)

pub power-low : (i : ℕ) → i < 9 → 10 ^ i ≤ 100000000
power-low i h =
    let upto : i ≤ 8 = omega arith in
    let some : 0 < 10 = omega arith in
    let power : 10 ^ i ≤ 10 ^ 8 = pow-le-pow_right some upto in
    power

-- ---- What a plain number has

module _ (most : ℕ) (field : List ℕ) where
  abbrev short : Bool
  short = leb 1 (length field) && leb (length field) most

  pub plain-short : plain_number most field ≡ true → (1 ≤ length field) × (length field ≤ most)
  unfolding plain_number
  plain-short h =
      let both = and_left short (lead field) (and_left (short && lead field) (every is_figure field) h) in
      (in_bounds-low 1 (length field) most both, in_bounds-high 1 (length field) most both)

  pub plain-figures : plain_number most field ≡ true → every is_figure field ≡ true
  unfolding plain_number
  plain-figures h = and_right (short && lead field) (every is_figure field) h

  pub plain-lead : plain_number most field ≡ true → lead field ≡ true
  unfolding plain_number
  plain-lead h = and_right short (lead field) (and_left (short && lead field) (every is_figure field) h)
