-- Which string of one list is which of another (document 02, W-209: sites order their strings differently).
--     alike s u             two strings have the same T, C, D, X, moving cost and J
--     places_like s ys       the places of ys at which a string like s stands, rising
--     likes_ahead xs i       how many strings like the one at place i of xs stand ahead of it
--     partner xs ys i       the place in ys of the partner of the string at place i of xs: of several alike the first of xs has the first
--                           of ys, the second the second, and so on; 0 where no partner is left for it
--     partners xs ys        the places of all partners, by place
--     first_alone xs ys      the first place of xs whose string has no partner left
--     LeftAlone xs ys i     why the string at place i is that one: up to it xs has more strings like it than all of ys has, and the strings
--                           ahead of it are not too many of their kind
-- Where no string is without a partner, `partners` is the smallest list of places (`SmallestTo` in Places).
use Rattle.std.specs.Prelude.{ℕ, ◌-◌, ◌≤◌, ◌<◌, Bool, ◌&&◌, List, map, eqb, length, get_or, take}
use Rattle.std.proofs.Math.Option.{Option}
use Rattle.base.specs.Count.{keep, count_of, first_of, up_from}
use Rattle.rules.specs.declared.BatteryString.{BatteryString}
use Rattle.results.specs.Places.{string_in, Place}

unfoldable pub alike : BatteryString → BatteryString → Bool
alike s u =
    eqb s.t.0 u.t.0
    && eqb s.c.0 u.c.0
    && eqb s.d.0 u.d.0
    && eqb s.x u.x
    && eqb s.a.0 u.a.0
    && eqb s.j.0 u.j.0

unfoldable pub places_like : BatteryString → List BatteryString → List ℕ
places_like s ys = keep (λ j. alike s (string_in ys j)) (up_from 1 (length ys))

unfoldable pub likes_ahead : List BatteryString → ℕ → ℕ
likes_ahead xs i = count_of (alike (string_in xs i)) (take (i - 1) xs)

unfoldable pub partner : List BatteryString → List BatteryString → ℕ → ℕ
partner xs ys i = get_or (places_like (string_in xs i) ys) (likes_ahead xs i) 0

unfoldable pub partners : List BatteryString → List BatteryString → List ℕ
partners xs ys = map (partner xs ys) (up_from 1 (length xs))

unfoldable pub first_alone : List BatteryString → List BatteryString → Option ℕ
first_alone xs ys = first_of (λ i. eqb (partner xs ys i) 0) (up_from 1 (length xs))

pub record LeftAlone (xs ys : List BatteryString) (i : ℕ) : Type 0 where
  pub place : Place xs i
  pub too_many : count_of (alike (string_in xs i)) ys < count_of (alike (string_in xs i)) (take i xs)
  pub first : (j : ℕ) → Place xs j → j < i → count_of (alike (string_in xs j)) (take j xs) ≤ count_of (alike (string_in xs j)) ys
