-- What two answers from outside share: of a reader whose bytes are known those that came and those that are left, of a write that went
-- through or not its status, of a name that is no text the kind of the error.
--     xs the bytes that a reader has; n of them come into a room, ys are left; m come into another as long, zs are left
use Rattle.base.proofs.Prelude.{◌≡◌, ◌≤◌, ◌<◌, ◌+◌, refl, sym, ap, ◌∙◌, subst, ℕ, List, [], ◌++◌, arith, length, take, drop, ◌⊎◌, inl, inr, ⊎_elim}
use Rattle.std.proofs.Math.Nat.{eq-or-lt_of_le}
use Rattle.std.proofs.Math.Seq.{drop-append_seam, take-append_seam}
use Rattle.std.proofs.lemmas.List.{length-append, length-take-le}
use Rattle.std.specs.Prelude.{Result, Ok, Err, Option, Some, None, cond, is_ok, IfErr, MatchResult}
use Rattle.std.specs.IoError.{error_kind}
use Rattle.std.specs.declared.io.ErrorKind.{ErrorKind}
use Rattle.std.specs.declared.io.Error.{Error}
use Rattle.std.specs.Io.KnownBytes.{Consumes, IsAtEnd}
use Rattle.doors.specs.declared.Stop.{Stop}
use Rattle.doors.specs.declared.Stop.TheVariants.{Refused, Failed, Unwritten, Gone}
use Rattle.doors.specs.Stops.{status_of, IsUnwritten}

-- a room is full, or the reader is at its end
full-or-end : (n room : ℕ) (ys : List ℕ) → n ≤ room → (n < room → ys ≡ []) → (n ≡ room) ⊎ (length ys ≡ 0)
full-or-end n room ys h k = ⊎_elim inl (λ less. inr (ap length (k less))) (eq-or-lt_of_le h)

-- two counts of x bytes are one where each filled the room or left nothing
count-one : (n m y z x room : ℕ) → n + y ≡ x → m + z ≡ x → n ≤ room → m ≤ room → (n ≡ room) ⊎ (y ≡ 0) → (m ≡ room) ⊎ (z ≡ 0) → n ≡ m
count-one n m y z x room g h i j (inl p) (inl q) = p ∙ sym q
count-one n m y z x room g h i j (inl p) (inr q) = omega (arith, g, h, i, j, p, q)
count-one n m y z x room g h i j (inr p) (inl q) = omega (arith, g, h, i, j, p, q)
count-one n m y z x room g h i j (inr p) (inr q) = omega (arith, g, h, i, j, p, q)

-- two beginnings of one list that are as long are one, and so is what is left
cut-one : (bs cs ys zs : List ℕ) → length bs ≡ length cs → bs ++ ys ≡ cs ++ zs → (bs ≡ cs) × (ys ≡ zs)
cut-one bs cs ys zs h k = (
  sym (take-append_seam bs ys) ∙ ap (λ l. take (length bs) l) k ∙ ap (λ n. take n (cs ++ zs)) h ∙ take-append_seam cs zs,
  sym (drop-append_seam bs ys) ∙ ap (λ l. drop (length bs) l) k ∙ ap (λ n. drop n (cs ++ zs)) h ∙ drop-append_seam cs zs,
)

pub part-one : (n m : ℕ) (room other xs : List ℕ) (ys zs : Option (List ℕ)) → length room ≡ length other → n ≤ length room
    → m ≤ length other → Consumes (Some xs) ys (take n room) → Consumes (Some xs) zs (take m other) → (n < length room → IsAtEnd ys)
    → (m < length other → IsAtEnd zs) → (n ≡ m) × (take n room ≡ take m other) × (ys ≡ zs)
part-one n m room other xs None zs l g h i j u v = absurd i
part-one n m room other xs (Some ys) None l g h i j u v = absurd j
part-one n m room other xs (Some ys) (Some zs) l g h i j u v =
    let front = length-take-le n room g in
    let behind = length-take-le m other h in
    let same = count-one n m (length ys) (length zs) (length xs) (length room)
    (ap (λ k. k + length ys) (sym front) ∙ sym (length-append (take n room) ys) ∙ ap length (sym i))
    (ap (λ k. k + length zs) (sym behind) ∙ sym (length-append (take m other) zs) ∙ ap length (sym j))
    g (omega (arith, h, l)) (full-or-end n (length room) ys g u)
    (full-or-end m (length room) zs (omega (arith, h, l)) (λ less. v (omega (arith, less, l)))) in
    let cut = cut-one (take n room) (take m other) ys zs (front ∙ same ∙ sym behind) (sym i ∙ j) in
    (same, cut.0, ap Some cut.1)

-- whether a write went through decides its status
pub written-status : (r : Result (Unit {0}) Stop) → IfErr r IsUnwritten → status_of r ≡ cond (is_ok r) 0 2
written-status (Ok _) h = refl
written-status (Err Refused) h = absurd h
written-status (Err Failed) h = absurd h
written-status (Err Unwritten) h = refl
written-status (Err Gone) h = refl

-- the kind of what went wrong; none of a count
abbrev pub error_said : Result ℕ Error → Option ErrorKind
error_said (Ok _) = None
error_said (Err e) = Some (error_kind e)

pub unnamed-kind : (r : Result ℕ Error) → MatchResult r (λ _. ⊥) (λ e. error_kind e ≡ ErrorKind.InvalidFilename)
    → error_said r ≡ Some ErrorKind.InvalidFilename
unnamed-kind (Ok _) h = absurd h
unnamed-kind (Err _) h = ap Some h
