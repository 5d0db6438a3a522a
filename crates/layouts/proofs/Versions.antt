-- The versions that the code knows: where their fields stand, and how long their lines are. A further version has its row among the
-- definitions' `versions`, and one more `omega` in `all_sound`.
use Rattle.base.proofs.Prelude.{ℕ, ◌+◌, ◌*◌, ◌%◌, ◌≤◌, ◌<◌, ◌≡◌, refl, ap, List, [], ◌∷◌, arith, mul-le-mul, lt-ltb, le-ltb, eqb}
use Rattle.base.specs.Count.{All}
use Rattle.base.proofs.Lists.{by_bool}
use Rattle.rules.specs.Layout as rule
use Rattle.rules.specs.{Layout.{line_size, has_field, versions, later_versions, version_among, held_to, header_frame, string_frame, release_frame, Number, Count, Common, Run, X, T, C, D, Own, Late, Place, Day, Need, Due}, Text.{Line, a_in, field_of, cost_of, due_in}}
use Rattle.layouts.specs.declared.Version.TheVariants.{First, Second, Third}
use Rattle.layouts.specs.{declared.Field.Field, declared.Layout.Layout, declared.Layouts.Layouts, declared.Version.Version, inner.Versions.{field_for, layout_for, layouts_for, layouts_number_of, meant_by, Sound}}

-- what holds of every version holds of the one that a number is held to
pub by-version : (P : rule.Version → Type 0) → All P versions → (k : ℕ) → P (held_to k)
unfolding held_to
by-version P all k = among later_versions all.1
  where
    among : (vs : List rule.Version) → All P vs → P (version_among k vs)
    among [] h = all.0
    among (v ∷ vs) h = by_bool (eqb k v.number) (λ t. rw t h.0) (λ e. rw e (among vs h.1))

-- a version is the one that its own number is held to
pub number-again : (k : ℕ) → held_to (held_to k).number ≡ held_to k
unfolding held_to
number-again k = by-version (λ v. held_to v.number ≡ v) (refl, (refl, (refl, tt))) k

all_sound : All Sound versions
all_sound = (omega arith, (omega arith, (omega arith, tt)))

module _ (k : ℕ) where
  sound : Sound (held_to k)
  sound = by-version Sound all_sound k

  pub number_small : (held_to k).number < 256
  number_small = sound.0

  -- ---- What all versions have alike

  pub number_size : (held_to k).header Number ≡ 1
  number_size = sound.1

  pub count-size : (held_to k).header Count ≡ 1
  count-size = sound.2

  pub run-size : (held_to k).header Run ≡ 4
  run-size = sound.3

  pub x-size : (held_to k).string X ≡ 1
  x-size = sound.4

  pub t-size : (held_to k).string T ≡ 2
  t-size = sound.5

  pub c-size : (held_to k).string C ≡ 2
  c-size = sound.6

  pub d-size : (held_to k).string D ≡ 2
  d-size = sound.7

  pub place-size : (held_to k).release Place ≡ 1
  place-size = sound.8

  pub day-size : (held_to k).release Day ≡ 4
  day-size = sound.9

  pub need-size : (held_to k).release Need ≡ 2
  need-size = sound.10

  -- ---- Where it stands

  pub number-place : record { at = 1; size = 1 } ≡ field_for (header_frame (held_to k)) Number
  number-place = rw number_size

  pub count-place : record { at = 2; size = 1 } ≡ field_for (header_frame (held_to k)) Count
  count-place = rw (number_size, count-size)

  pub x-place : record { at = 1; size = 1 } ≡ field_for (string_frame (held_to k)) X
  x-place = rw x-size

  pub t-place : record { at = 2; size = 2 } ≡ field_for (string_frame (held_to k)) T
  t-place = rw (x-size, t-size)

  pub c-place : record { at = 4; size = 2 } ≡ field_for (string_frame (held_to k)) C
  c-place = rw (x-size, t-size, c-size)

  pub d-place : record { at = 6; size = 2 } ≡ field_for (string_frame (held_to k)) D
  d-place = rw (x-size, t-size, c-size, d-size)

  pub place-place : record { at = 1; size = 1 } ≡ field_for (release_frame (held_to k)) Place
  place-place = rw place-size

  pub day-place : record { at = 2; size = 4 } ≡ field_for (release_frame (held_to k)) Day
  day-place = rw (place-size, day-size)

  pub need-place : record { at = 6; size = 2 } ≡ field_for (release_frame (held_to k)) Need
  need-place = rw (place-size, day-size, need-size)

  -- ---- What they have not

  -- the moving cost has two bytes, in one of the two frames
  pub cost-sizes : ((held_to k).header Common + (held_to k).string Own ≡ 2) × ((held_to k).header Common % 2 ≡ 0)
  cost-sizes = (sound.11, sound.12)

  -- late days and the due day have a number's bytes, or none
  pub late-sizes : ((held_to k).string Late ≤ 2) × ((held_to k).string Late % 2 ≡ 0)
  late-sizes = (sound.13, sound.14)

  pub due-sizes : ((held_to k).release Due ≤ 4) × ((held_to k).release Due % 4 ≡ 0)
  due-sizes = (sound.15, sound.16)

  pub header-short : line_size (header_frame (held_to k)) ≤ 60
  header-short = sound.17

  pub string-short : line_size (string_frame (held_to k)) ≤ 60
  string-short = sound.18

  pub release-short : line_size (release_frame (held_to k)) ≤ 60
  release-short = sound.19

-- ---- Which frame says the moving cost

module _ (v : rule.Version) (header line : Line) where
  pub cost-common : 0 < v.header Common → cost_of v header line ≡ a_in v header
  unfolding cost_of has_field
  cost-common h = rw (lt-ltb 0 (v.header Common) h)

  pub cost-own : v.header Common ≤ 0 → cost_of v header line ≡ field_of (string_frame v) Own line
  unfolding cost_of has_field
  cost-own h = rw (le-ltb 0 (v.header Common) h)

-- ---- Whether a release line says its due day

module _ (v : rule.Version) (line : Line) where
  pub due-said : 0 < v.release Due → due_in v line ≡ field_of (release_frame v) Due line
  unfolding due_in has_field
  due-said h = rw (lt-ltb 0 (v.release Due) h)

  pub due-unsaid : v.release Due ≤ 0 → due_in v line ≡ field_of (release_frame v) Day line
  unfolding due_in has_field
  due-unsaid h = rw (le-ltb 0 (v.release Due) h)

-- at most ten lines of at most 60 bytes, and a thousand
pub ten-short : (i step : ℕ) → i ≤ 10 → step ≤ 60 → i * step ≤ 600
ten-short i step few short = mul-le-mul few short

pub thousand-short : (i step : ℕ) → i ≤ 1000 → step ≤ 60 → i * step ≤ 60000
thousand-short i step few short = mul-le-mul few short

-- ---- The layouts of a version, as the code holds them

module _ (version : Version) (said : Layouts) (known : said ≡ layouts_for (meant_by version)) where
  pub number-known : said.number ≡ (meant_by version).number
  number-known = ap (λ (w : Layouts). w.number) known

  pub header-known : said.header ≡ layout_for (header_frame (meant_by version))
  header-known = ap (λ (w : Layouts). w.header) known

  pub string-known : said.string ≡ layout_for (string_frame (meant_by version))
  string-known = ap (λ (w : Layouts). w.string) known

  pub release-known : said.release ≡ layout_for (release_frame (meant_by version))
  release-known = ap (λ (w : Layouts). w.release) known

  pub common-known : said.common ≡ field_for (header_frame (meant_by version)) Common
  common-known = ap (λ (w : Layouts). w.common) known

  pub run-known : said.run ≡ field_for (header_frame (meant_by version)) Run
  run-known = ap (λ (w : Layouts). w.run) known

  pub own-known : said.own ≡ field_for (string_frame (meant_by version)) Own
  own-known = ap (λ (w : Layouts). w.own) known

  pub late-known : said.late ≡ field_for (string_frame (meant_by version)) Late
  late-known = ap (λ (w : Layouts). w.late) known

  pub due-known : said.due ≡ field_for (release_frame (meant_by version)) Due
  due-known = ap (λ (w : Layouts). w.due) known

  pub common-size : said.common.size ≡ (meant_by version).header Common
  common-size = ap (λ (f : Field). f.size) common-known

  pub common-small : said.common.size ≤ 4
  common-small = omega (arith, common-size, cost-sizes (layouts_number_of version))

  pub run_small : said.run.size ≤ 4
  run_small = omega (arith, ap (λ (f : Field). f.size) run-known, run-size (layouts_number_of version))

  pub own-small : said.own.size ≤ 4
  own-small = omega (arith, ap (λ (f : Field). f.size) own-known, cost-sizes (layouts_number_of version))

  pub late-small : said.late.size ≤ 4
  late-small = omega (arith, ap (λ (f : Field). f.size) late-known, late-sizes (layouts_number_of version))

  pub due-size : said.due.size ≡ (meant_by version).release Due
  due-size = ap (λ (f : Field). f.size) due-known

  pub due-small : said.due.size ≤ 4
  due-small = omega (arith, due-size, due-sizes (layouts_number_of version))

  -- the lines' lengths
  pub header-line : said.header.line ≡ line_size (header_frame (meant_by version))
  header-line = ap (λ (l : Layout). l.line) header-known

  pub string-line : said.string.line ≡ line_size (string_frame (meant_by version))
  string-line = ap (λ (l : Layout). l.line) string-known

  pub release-line : said.release.line ≡ line_size (release_frame (meant_by version))
  release-line = ap (λ (l : Layout). l.line) release-known

  pub header-line-short : said.header.line ≤ 60
  header-line-short = omega (arith, header-line, header-short (layouts_number_of version))

  pub string-line-short : said.string.line ≤ 60
  string-line-short = omega (arith, string-line, string-short (layouts_number_of version))

  pub release-line-short : said.release.line ≤ 60
  release-line-short = omega (arith, release-line, release-short (layouts_number_of version))

-- versions that stand for one version are one
pub version_one : (version other : Version) → meant_by version ≡ meant_by other → version ≡ other
unfolding held_to
version_one First First h = refl
version_one First Second h = absurd (omega (arith, ap (λ (v : rule.Version). v.number) h))
version_one First Third h = absurd (omega (arith, ap (λ (v : rule.Version). v.number) h))
version_one Second First h = absurd (omega (arith, ap (λ (v : rule.Version). v.number) h))
version_one Second Second h = refl
version_one Second Third h = absurd (omega (arith, ap (λ (v : rule.Version). v.number) h))
version_one Third First h = absurd (omega (arith, ap (λ (v : rule.Version). v.number) h))
version_one Third Second h = absurd (omega (arith, ap (λ (v : rule.Version). v.number) h))
version_one Third Third h = refl
