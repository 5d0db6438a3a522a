-- A read behind what stands in a room already.
use Rattle.std.proofs.Common.{◌≡◌, ℕ, ◌+◌, ◌≤◌, List, ◌++◌, length, take, subst, sym, ap, ◌∙◌, length-take-le}
use Rattle.std.proofs.lemmas.List.{take-append-le}
use Rattle.std.proofs.Math.Seq.{take-append-add}
use Rattle.std.specs.declared.option.Option.{Option}
use Rattle.std.specs.Io.KnownBytes.{Consumes}
use Rattle.std.proofs.KnownBytes.{Consumes-trans}

pub room_taken : (count n : ℕ) (room buf rest : List ℕ) → count ≤ length room → n ≤ length buf
    → take (count + n) (take count room ++ (buf ++ rest)) ≡ take count room ++ take n buf
room_taken count n room buf rest h k =
    ap (λ m. take (m + n) (take count room ++ (buf ++ rest))) (sym (length-take-le count room h))
    ∙ take-append-add (take count room) (buf ++ rest) n ∙ ap (λ l. take count room ++ l) (take-append-le n buf rest k)

pub room_filled : (a b c : Option (List ℕ)) (count n : ℕ) (room buf rest : List ℕ) → count ≤ length room → n ≤ length buf
    → Consumes a b (take count room) → Consumes b c (take n buf) → Consumes a c (take (count + n) (take count room ++ (buf ++ rest)))
room_filled a b c count n room buf rest h k p q =
    subst (Consumes a c) (sym (room_taken count n room buf rest h k)) (Consumes-trans a b c _ _ p q)
