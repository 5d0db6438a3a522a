-- For the proofs inside this crate: a frame as the code holds it.
--     number_text size n     the digits of a number in size bytes
--     cell_text c            the digits of a cell
--     cells_size cs          the bytes of the cells' numbers
--     cells_text cs          the digits of the cells, one after the other
--     WritingSmall cells            each cell has at most the four bytes of a number
--     Room cells k           k bytes of the page hold the cells' line
--     SaysFrame cells l says    the cells write the frame of the layout l that says so
--     StringsFit v p k, ReleasesFit v rs k, PlanFits v p rs k    k bytes of the page hold their lines, and each number is one that a
--                           cell holds
use Rattle.std.specs.Prelude.{ℕ, ◌+◌, ◌*◌, ◌≤◌, ◌≡◌, length}
use mathlib.Core.List.{List, flat_map}
use Rattle.base.specs.Count.{All, sum_of}
use Rattle.rules.specs.declared.Plan.{Plan}
use Rattle.rules.specs.declared.Releases.{Releases}
use Rattle.rules.specs.Release.{releases_of}
use Rattle.rules.specs.Layout.{Layout, Version, line_size, frame_size, string_frame, release_frame}
use Rattle.writing.specs.declared.cells.Cell.{Cell}
use Rattle.writing.specs.Written.{number_bytes, byte_text, frame_bytes, plan_text}

unfoldable pub number_text : ℕ → ℕ → List ℕ
number_text size n = flat_map byte_text (number_bytes size n)

abbrev pub cell_text : Cell → List ℕ
cell_text c = number_text c.size c.value

unfoldable pub cells_size : List Cell → ℕ
cells_size cs = sum_of (λ c. c.size) cs

unfoldable pub cells_text : List Cell → List ℕ
cells_text cs = flat_map cell_text cs

abbrev pub WritingSmall : List Cell → Type 0
WritingSmall cells = All (λ c. c.size ≤ 4) cells

pub record Room (cells : List Cell) (k : ℕ) : Type 0 where
  pub small : WritingSmall cells
  pub bytes : cells_size cells * 2 + 1 ≤ k

module _ {F : Type 0} where
  pub record SaysFrame (cells : List Cell) (l : Layout F) (says : F → ℕ) : Type 0 where
    pub small : WritingSmall cells
    pub size : cells_size cells ≡ frame_size l
    pub text : cells_text cells ≡ flat_map byte_text (frame_bytes l says)

pub record StringsFit (v : Version) (p : Plan) (k : ℕ) : Type 0 where
  pub some : 1 ≤ p.n
  pub few : p.n ≤ 10
  pub ten : length p.strings ≡ 10
  pub bytes : p.n * line_size (string_frame v) ≤ k

pub record ReleasesFit (v : Version) (rs : Releases) (k : ℕ) : Type 0 where
  pub few : rs.count ≤ 1000
  pub thousand : length rs.list ≡ 1000
  pub places : All (λ r. r.place ≤ 10) (releases_of rs)
  pub bytes : rs.count * line_size (release_frame v) ≤ k

pub record PlanFits (v : Version) (p : Plan) (rs : Releases) (k : ℕ) : Type 0 where
  pub strings : StringsFit v p k
  pub releases : ReleasesFit v rs k
  pub bytes : length (plan_text v p (releases_of rs)) ≤ k
