-- Whether one of a list of releases is left over, one after the other.
--     any_left g n i         one of the numbers behind i, up to n, passes g
--     left_by p rs us n i t k     the k-th release is one that is left over
use Rattle.base.proofs.Prelude.{ℕ, suc, ◌+◌, ◌-◌, ◌≤◌, ◌<◌, ◌≡◌, sym, ap, ◌∙◌, Bool, true, false, cond, ◌&&◌, ltb, List, arith, add-one, length, get_or, take, length-take-le, get_or-take}
use Rattle.base.specs.Count.{any, count_of, up_from}
use Rattle.rules.specs.{declared.Plan.Plan, declared.Release.Release, declared.Releases.Releases, declared.Use.Use, declared.Use.TheVariants.Idle, Release.{releases_of, released, no_release}}
use Rattle.sound.specs.Served.{works_for}
use Rattle.bars.specs.Bars.{drawn_on, to_do, left_over, used_bar, bar_in}

unfoldable pub any_left : (ℕ → Bool) → ℕ → ℕ → Bool
any_left g n i = any g (up_from (suc i) (n - i))

module _ (g : ℕ → Bool) (n : ℕ) where
  pub any-all : any_left g n 0 ≡ any g (up_from 1 n)
  unfolding any_left
  any-all =
      let all : n - 0 ≡ n = omega arith in
      rw all

  pub any-over : (i : ℕ) → n ≤ i → any_left g n i ≡ false
  unfolding any_left up_from any
  any-over i h =
      let none : n - i ≡ 0 = omega arith in
      rw none

  pub left-found : (i : ℕ) → i < n → g (suc i) ≡ true → any_left g n i ≡ true
  unfolding any_left up_from any
  left-found i h is =
      let more : n - i ≡ suc (n - suc i) = omega arith in
      rw (more, is)

  pub left_passed : (i : ℕ) → i < n → g (suc i) ≡ false → any_left g n i ≡ any_left g n (i + 1)
  unfolding any_left up_from any
  left_passed i h is =
      let more : n - i ≡ suc (n - suc i) = omega arith in
      rw (more, is, add-one i)

module _ (rs : Releases) (few : rs.count ≤ length rs.list) where
  pub count-is : length (releases_of rs) ≡ rs.count
  count-is = length-take-le rs.count rs.list few

  pub release-at : (i : ℕ) → i < rs.count → released (releases_of rs) (suc i) ≡ get_or rs.list i no_release
  release-at i h =
      let index : suc i - 1 ≡ i = omega arith in
      ap (λ k. get_or (releases_of rs) k no_release) index ∙ get_or-take rs.count rs.list i no_release h

-- ---- The release that is looked at

abbrev pub left_by : Plan → List Release → List Use → ℕ → ℕ → ℕ → ℕ → Bool
left_by p rs us n i t k = drawn_on p i (ltb t n) t (released rs k) && to_do rs us k t

pub left-from-first : (p : Plan) (rs : List Release) (us : List Use) (n i t m : ℕ) → length rs ≡ m
    → any_left (left_by p rs us n i t) m 0 ≡ left_over p rs us n i t
unfolding left_over
left-from-first p rs us n i t m many =
    any-all (left_by p rs us n i t) m ∙ ap (λ k. any (left_by p rs us n i t) (up_from 1 k)) (sym many)

pub left-now : (p : Plan) (rs : Releases) (us : List Use) (n i t j : ℕ) (b : Bool) → rs.count ≤ length rs.list → j < rs.count
    → b ≡ (drawn_on p i (ltb t n) t (get_or rs.list j no_release)
    && ltb (count_of (works_for (j + 1)) (take t us)) (get_or rs.list j no_release).need.0)
    → left_by p (releases_of rs) us n i t (suc j) ≡ b
unfolding to_do
left-now p rs us n i t j b few inside said =
    ap (λ (r : Release). drawn_on p i (ltb t n) t r && ltb (count_of (works_for (suc j)) (take t us)) r.need.0)
    (release-at rs few j inside)
    ∙ ap (λ k. drawn_on p i (ltb t n) t (get_or rs.list j no_release)
    && ltb (count_of (works_for k) (take t us)) (get_or rs.list j no_release).need.0) (sym (add-one j))
    ∙ sym said

-- ---- The bar of a day

yes-first : (b : Bool) (x y : ℕ) → b ≡ true → x ≡ cond b x y
yes-first b x y is = rw is

not_first : (b : Bool) (x y : ℕ) → b ≡ false → y ≡ cond b x y
not_first b x y is = rw is

module _ (p : Plan) (rs : List Release) (us : List Use) (n i t : ℕ) where
  abbrev other : ℕ
  other = cond (left_over p rs us n i t) (cond {A = ℕ} (ltb t n) 0x2e 0x21) 0x20

  pub bar-going : (u : Use) (o r : ℕ) → ltb t n ≡ true → o ≡ other → u ≡ get_or us t Idle → r ≡ used_bar i u o → r ≡ bar_in p rs us n i t
  unfolding bar_in
  bar-going u o r going left used said =
      said ∙ ap (λ x. used_bar i x o) used ∙ ap (used_bar i (get_or us t Idle)) left
      ∙ yes-first (ltb t n) (used_bar i (get_or us t Idle) other) other going

  pub bar-ended : (o : ℕ) → ltb t n ≡ false → o ≡ other → o ≡ bar_in p rs us n i t
  unfolding bar_in
  bar-ended o over left = left ∙ not_first (ltb t n) (used_bar i (get_or us t Idle) other) other over
