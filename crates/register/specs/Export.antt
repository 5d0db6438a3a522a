-- A plan's strings written as the asset register's table into the caller's page (document 02, W-210 and W-201).
--     table_text p           a row for each string
--     export_check p rs page at    4 to 8 as for numbers, then 9 with 0 where the rows do not fit
--     export_answer, export_page    what is answered, and the page afterwards: a refusal keeps every byte
use Rattle.std.specs.Prelude.{ℕ}
use Rattle.faults.specs.Checks.{Checked}
use Rattle.faults.specs.declared.Refusal.{Refusal}
use Rattle.std.specs.Prelude.{Result}
use mathlib.Core.List.{List, flat_map}
use Rattle.rules.specs.declared.Plan.{Plan}
use Rattle.rules.specs.declared.Releases.{Releases}
use Rattle.rules.specs.Plan.{strings_of}
use Rattle.rules.specs.Refusal.{run_check}
use Rattle.rules.specs.Lines.{row_line}
use Rattle.writing.specs.Saved.{fit_check, text_answer, text_page}

unfoldable pub table_text : Plan → List ℕ
table_text p = flat_map row_line (strings_of p)

unfoldable pub export_check : Plan → Releases → List ℕ → ℕ → Checked
export_check p rs page at = fit_check (run_check p rs) (table_text p) page at

unfoldable pub export_answer : Plan → Releases → List ℕ → ℕ → Result ℕ Refusal
export_answer p rs page at = text_answer (export_check p rs page at) (table_text p)

unfoldable pub export_page : Plan → Releases → List ℕ → ℕ → List ℕ
export_page p rs page at = text_page (export_check p rs page at) (table_text p) page at
