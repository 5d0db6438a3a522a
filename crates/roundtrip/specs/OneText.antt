-- A plan has one text within a version (document 02, W-201, W-207, W-213): what a text keeps of a plan and of its releases.
--     trimmed_plan p         p with no string after its n-th
--     trimmed_releases rs    rs with no release after those that count
--     read_again p rs        what reading the text of p and rs gives
--     OneCost p             every string of the plan p has the moving cost of place 1
--     CanSay v p rs         the version v can say the plan p and its releases: where its header says one moving cost for all strings, they
--                           have one; where its frames do not say late days or due days, there are none, and each release is due on its day
use Rattle.std.specs.Prelude.{◌≡◌, true, false}
use Rattle.faults.specs.Checks.{Lawful}
use Rattle.base.specs.Count.{All, filled}
use Rattle.rules.specs.declared.Plan.{Plan}
use Rattle.rules.specs.declared.Releases.{Releases}
use Rattle.rules.specs.Text.{Reading}
use Rattle.rules.specs.Plan.{strings_of, string_at, no_string}
use Rattle.rules.specs.Release.{releases_of, no_release}
use Rattle.rules.specs.Layout.{Version, has_field, header_frame, string_frame, release_frame, Common, Late, Due}
use Rattle.laws.specs.Lawful.{OnTime}

abbrev pub trimmed_plan : Plan → Plan
trimmed_plan p = record { n = p.n; run = p.run; strings = filled 10 no_string (strings_of p) }

abbrev pub trimmed_releases : Releases → Releases
trimmed_releases rs = record { count = rs.count; list = filled 1000 no_release (releases_of rs) }

abbrev pub read_again : Plan → Releases → Reading
read_again p rs = record { checked = Lawful; plan = trimmed_plan p; releases = trimmed_releases rs }

abbrev pub OneCost : Plan → Type 0
OneCost p = All (λ s. s.a ≡ (string_at p 1).a) (strings_of p)

pub record CanSay (v : Version) (p : Plan) (rs : Releases) : Type 0 where
  pub costs : has_field (header_frame v) Common ≡ true → OneCost p
  pub late : has_field (string_frame v) Late ≡ false → OnTime p
  pub due : has_field (release_frame v) Due ≡ false → All (λ r. r.due.0 ≡ r.day.0) (releases_of rs)
