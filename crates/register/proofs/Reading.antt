-- The whole table: its parts, read one after the other, decide as the definition does.
use Rattle.base.proofs.Prelude.{ℕ, ◌≤◌, ◌<◌, ◌≡◌, refl, ap, List, [], ◌∷◌, arith, lt-ltb, le-ltb, ne_eqb, length}
use Rattle.faults.specs.Checks.{Refused, Lawful, Checked, or_refused}
use Rattle.faults.specs.declared.Refusal.{Refusal}
use Rattle.std.specs.Prelude.{Ok, Err, Result}
use Rattle.faults.specs.declared.Fault.{Fault}
use Rattle.faults.specs.declared.Fault.TheVariants.{TextTooLong, StringCount}
use Rattle.rules.specs.{declared.Plan.Plan, Refusal.{count_check, head_check, multiple_check}, Text.{Line, lines_of, no_releases, refused_reading, said_in}}
use Rattle.register.specs.{Table.{rows_check, table_plan, row_lines_check, table_check, table_reading}, inner.Strings.rows_in}
use Rattle.register.proofs.Splitting.{lines-some}

-- ---- The rows

module _ (run : ℕ) (lines : List Line) where
  rows-err : (e : Refusal) → rows_in run lines ≡ Err e → rows_check 1 lines ≡ Err e
  unfolding rows_in
  rows-err e h = each (rows_check 1 lines) h
    where
      each : (c : Checked) → or_refused Refused c (Ok (table_plan run lines)) ≡ Err e → c ≡ Err e
      each (Ok _) h = absurd (let other : ◌≡◌ {A = Result Plan Refusal} (Ok (table_plan run lines)) (Err e) = h in cc)
      each (Err e') h =
          let same : ◌≡◌ {A = Result Plan Refusal} (Err e') (Err e) = h in
          let is : e' ≡ e = cc in
          ap Err is

  rows-ok : (p : Plan) → rows_in run lines ≡ Ok p → (rows_check 1 lines ≡ Lawful) × (p ≡ table_plan run lines)
  unfolding rows_in
  rows-ok p h = each (rows_check 1 lines) h
    where
      each : (c : Checked) → or_refused Refused c (Ok (table_plan run lines)) ≡ Ok p → (c ≡ Lawful) × (p ≡ table_plan run lines)
      each (Ok _) h =
          let same : ◌≡◌ {A = Result Plan Refusal} (Ok (table_plan run lines)) (Ok p) = h in
          let is : p ≡ table_plan run lines = cc in
          (refl, is)
      each (Err e) h = absurd (let other : ◌≡◌ {A = Result Plan Refusal} (Err e) (Ok p) = h in cc)

-- ---- The text

module _ (run : ℕ) (text : List ℕ) where
  pub table-long : 65536 < length text → refused_reading TextTooLong 0 ≡ table_reading run text
  unfolding table_reading table_check
  table-long h = rw (lt-ltb 65536 (length text) h)

  module _ (short : length text ≤ 65536) where
    pub table-run : (f : Fault) (at : ℕ) → head_check 0 1 run ≡ Refused f at → refused_reading f at ≡ table_reading run text
    unfolding table_reading table_check count_check
    table-run f at h = rw (le-ltb 65536 (length text) short, h)

module _ (run : ℕ) (text : List ℕ) (short : length text ≤ 65536) (head : head_check 0 1 run ≡ Lawful) where
  pub table-empty : length text ≡ 0 → Refused StringCount 0 ≡ said_in (table_reading run text)
  unfolding table_reading table_check count_check row_lines_check lines_of
  table-empty none = rw (le-ltb 65536 (length text) short, head, empty text none)
    where
      empty : (xs : List ℕ) → length xs ≡ 0 → lines_of xs ≡ []
      empty [] h = refl
      empty (x ∷ xs) h = absurd (omega arith)

  module _ (some : 1 ≤ length text) where
    pub table-refused : (e : Refusal) → rows_in run (lines_of text) ≡ Err e → Err e ≡ said_in (table_reading run text)
    unfolding table_reading table_check count_check row_lines_check
    table-refused e h =
        rw (
          le-ltb 65536 (length text) short,
          head,
          ne_eqb (length (lines_of text)) 0 (λ e. omega (arith, lines-some text some)),
          rows-err run (lines_of text) e h,
        )

    module _ (p : Plan) (read : rows_in run (lines_of text) ≡ Ok p) where
      pub table-over : (e : Refusal) → multiple_check p.n p ≡ Err e → Err e ≡ said_in (table_reading run text)
      unfolding table_reading table_check count_check row_lines_check table_plan
      table-over e h =
          let rows = rows-ok run (lines_of text) p read in
          rw (
            le-ltb 65536 (length text) short,
            head,
            ne_eqb (length (lines_of text)) 0 (λ e. omega (arith, lines-some text some)),
            rows.0,
            rw rows.1 at h,
          )

      pub table-said : multiple_check p.n p ≡ Lawful → Ok (record { plan = p; releases = no_releases }) ≡ said_in (table_reading run text)
      unfolding table_reading table_check count_check row_lines_check table_plan
      table-said h =
          let rows = rows-ok run (lines_of text) p read in
          rw (
            le-ltb 65536 (length text) short,
            head,
            ne_eqb (length (lines_of text)) 0 (λ e. omega (arith, lines-some text some)),
            rows.0,
            rw rows.1 at h,
          )
          (ap (λ q. Ok (record { plan = q; releases = no_releases })) rows.1)
