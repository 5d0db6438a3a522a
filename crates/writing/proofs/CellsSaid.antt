-- The frames of a version, cell by cell, as the code makes them: a field that a frame does not have is a cell of no bytes.
--     header_cells w n a run, string_cells w s, release_cells w r    the cells of the frames in the code's version w
use Rattle.base.proofs.Prelude.{ℕ, ◌≡◌, refl, sym, subst, arith, List, [], ◌∷◌}
use mathlib.Core.List.{flat_map}
use Rattle.base.specs.Count.{sum_of}
use Rattle.rules.specs.{declared.BatteryString.BatteryString, declared.Plan.Plan, declared.Release.Release, Plan.string_at, Layout.{Version, held_to, header_frame, string_frame, release_frame}}
use Rattle.layouts.specs.{declared.Layouts.Layouts, inner.Versions.{layouts_for, layouts_number_of, meant_by}}
use Rattle.layouts.proofs.Versions.{number_size, count-size, run-size, cost-sizes, late-sizes, due-sizes, x-size, t-size, c-size, d-size, place-size, day-size, need-size}
use Rattle.writing.specs.{declared.cells.Cell.Cell, Written.{frame_bytes, header_says, string_says, release_says}, inner.Cells.{cells_size, SaysFrame}}
use Rattle.writing.proofs.Texts.{cells-frame}
use Rattle.layouts.specs.declared.Version as code

abbrev cell : ℕ → ℕ → Cell
cell size value = record { size = size; value = value }

abbrev pub header_cells : Layouts → ℕ → ℕ → ℕ → List Cell
header_cells w n a run =
    cell 1 w.header.kind ∷ cell 1 w.number ∷ cell 1 n ∷ cell w.common.size a ∷ cell w.run.size run ∷ []

abbrev pub string_cells : Layouts → BatteryString → List Cell
string_cells w s =
    cell 1 w.string.kind
    ∷ cell 1 s.x ∷ cell 2 s.t.0 ∷ cell 2 s.c.0 ∷ cell 2 s.d.0 ∷ cell w.own.size s.a.0
    ∷ cell w.late.size s.j.0 ∷ []

abbrev pub release_cells : Layouts → Release → List Cell
release_cells w r =
    cell 1 w.release.kind
    ∷ cell 1 r.place ∷ cell 4 r.day.0 ∷ cell 2 r.need.0 ∷ cell w.due.size r.due.0 ∷ []

-- ---- In every version

abbrev HeaderSaid : Plan → Layouts → Version → Type 0
HeaderSaid p w v = SaysFrame (header_cells w p.n (string_at p 1).a.0 p.run.0) (header_frame v) (header_says v.number p)

abbrev StringSaid : BatteryString → Layouts → Version → Type 0
StringSaid s w v = SaysFrame (string_cells w s) (string_frame v) (string_says s)

abbrev ReleaseSaid : Release → Layouts → Version → Type 0
ReleaseSaid r w v = SaysFrame (release_cells w r) (release_frame v) (release_says r)

module _ (k : ℕ) where
  header-every : (p : Plan) → HeaderSaid p (layouts_for (held_to k)) (held_to k)
  unfolding cells_size sum_of frame_bytes flat_map
  header-every p =
      record {
        small = (omega arith, (omega arith, (omega arith, (omega (arith, cost-sizes k), (omega (arith, run-size k), tt)))));
        size = rw (number_size k, count-size k);
        text = rw (number_size k, count-size k) (cells-frame 1 _ refl);
      }

  string-every : (s : BatteryString) → StringSaid s (layouts_for (held_to k)) (held_to k)
  unfolding cells_size sum_of frame_bytes flat_map
  string-every s =
      record {
        small =
            let own = cost-sizes k in
            let late = late-sizes k in
            (omega arith, (omega arith, (omega arith, (omega arith, (omega arith, (omega arith, (omega arith, tt)))))));
        size = rw (x-size k, t-size k, c-size k, d-size k);
        text = rw (x-size k, t-size k, c-size k, d-size k) (cells-frame 2 _ refl);
      }

  release-every : (r : Release) → ReleaseSaid r (layouts_for (held_to k)) (held_to k)
  unfolding cells_size sum_of frame_bytes flat_map
  release-every r =
      record {
        small = (omega arith, (omega arith, (omega arith, (omega arith, (omega (arith, due-sizes k), tt)))));
        size = rw (place-size k, day-size k, need-size k);
        text = rw (place-size k, day-size k, need-size k) (cells-frame 3 _ refl);
      }

-- ---- In a version, as the code holds its layouts

module _ (version : code.Version) (w : Layouts) (known : w ≡ layouts_for (meant_by version)) where
  pub header-says : (p : Plan) (a : ℕ) → a ≡ (string_at p 1).a.0
      → SaysFrame (header_cells w p.n a p.run.0) (header_frame (meant_by version)) (header_says (meant_by version).number p)
  header-says p a first =
      rw first (subst (λ (w : Layouts). HeaderSaid p w (meant_by version)) (sym known) (header-every (layouts_number_of version) p))

  pub string-says : (s : BatteryString) → SaysFrame (string_cells w s) (string_frame (meant_by version)) (string_says s)
  string-says s = subst (λ (w : Layouts). StringSaid s w (meant_by version)) (sym known) (string-every (layouts_number_of version) s)

  pub release-says : (r : Release) → SaysFrame (release_cells w r) (release_frame (meant_by version)) (release_says r)
  release-says r = subst (λ (w : Layouts). ReleaseSaid r w (meant_by version)) (sym known) (release-every (layouts_number_of version) r)
