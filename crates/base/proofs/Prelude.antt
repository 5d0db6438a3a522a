-- What nearly every proof brings in from the kit, passed on under one name.
pub use Prim.Native.Nat.{ℕ, ◌≤◌, ◌+◌, ◌-◌, ◌<◌, suc, ◌*◌, zero, ◌%◌, ◌/◌, ◌^◌, min, zero-le, max}
pub use borrow.Author.Rules.{rules}
pub use borrow.Author.Tests.{eq-eqb, ne_eqb, lt-ltb, le-ltb, eqb-true, not-false, ltb-true, ltb-false, le-leb, not-true, lt-leb}
pub use borrow.Author.Tests.{leb-true, eqb-false}
pub use borrow.Rule.Slice.PartMut.{put_mid}
pub use lib.Count.{ones}
pub use lib.Dec.{eqb, ltb, leb}
pub use lib.ListN.{length, get_or, take, drop, length-map, set, length-drop, length-append, length-set, length-take, replicate}
pub use lib.ListN.{drop_of_length-le, get_or-eq_default, length-replicate, take-append-drop, get_or-map}
pub use lib.Seq.{length-take-le, get_or-take, take_at, take_all, drop-cons, get_or-set_other, drop-drop, drop_at, get_or-set_same, take-suc}
pub use lib.Seq.{get_or-drop, take-append_seam}
pub use mathlib.Core.Bool.{true, false, Bool, cond, ◌&&◌, not, ◌||◌}
pub use mathlib.Core.List.{List, [], ◌∷◌, ◌++◌, map, append_assoc, append-nil, flat_map, map-append}
pub use mathlib.Core.Logic.{inl, inr, ◌↔◌, ◌⊎◌, ◌≢◌, ⊎_elim}
pub use mathlib.Core.Option.{some, none, Option}
pub use mathlib.Core.Path.{◌≡◌, ◌∙◌, sym, ap, refl, subst, fun_ext}
pub use native.Mathlib.Decide.{dec_le, ℕ_discrete}
pub use native.Mathlib.Nat.{le_refl, zero-mul, suc-mul, mul-le-mul, not-suc-le-zero, one-mul, le_of_suc-le-suc, mod-lt, div-add-mod'}
pub use native.Mathlib.Nat.{le_antisymm, pow-suc, add-mul, mod-eq_of_lt, mul-zero, mul-le-mul_right, dvd_refl, le_of_dvd}
pub use native.Mathlib.Nat.{div-lt_iff_lt-mul}
pub use native.Mathlib.Numerals.{add-one}
pub use native.Mathlib.Omega.{arith}
