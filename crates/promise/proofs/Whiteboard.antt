-- Where a verdict comes from: the lines that the code gave, put together, are the whole text; what is named is what the verdict names; and
-- the numbers add up.
use Rattle.base.proofs.Prelude.{ℕ, ◌+◌, ◌≡◌, refl, sym, ap, ◌∙◌, List, [], ◌∷◌, ◌++◌}
use Rattle.std.specs.Prelude.{Result, Ok}
use Rattle.faults.specs.declared.Refusal.{Refusal}
use Rattle.faults.specs.Checks.{Lawful}
use mathlib.Core.List.{flat_map}
use Rattle.base.specs.Count.{sum_of, up_from}
use Rattle.days.specs.declared.Length.{Length}
use Rattle.days.specs.Days.{days}
use Rattle.rules.specs.declared.Plan.{Plan}
use Rattle.rules.specs.declared.Figures.{Figures}
use Rattle.rules.specs.Figures.{figures_of, figures_answer}
use Rattle.rules.specs.declared.Verdict.TheVariants.{Overload, Fail}
use Rattle.rules.specs.Plan.{strings_of, multiple_of}
use Rattle.rules.specs.Demand.{demand, load}
use Rattle.rules.specs.Verdict.{verdict_of}
use Rattle.rules.specs.Refusal.{plan_check}
use Rattle.laws.proofs.Lawful.{plan_check-lawful}
use Rattle.lines.specs.{declared.Page.Page, Pages.text_of}
use Rattle.lines.proofs.Growing.{text-is}
use Rattle.lines.proofs.pair_line.Reads as pair_line
use Rattle.lines.proofs.blocking_line.Reads as blocking-line
use Rattle.lines.proofs.multiple_line.Reads as multiple-line
use Rattle.lines.proofs.over_line.Reads as over-line
use Rattle.verdict.proofs.figures.Reads as figures
use Rattle.why.specs.{declared.Subject.Subject, Shares.{share_text, pair_text, over_text, blocker_shown, share_shown, demand_shown}, Named.{named_by, named_answer, text_named, why_text}, Stairs.{last_interval, stair_text, stretch_text, stairs_text, last_answer, stair_shown, stretch_shown, nowhere_shown}}
use Rattle.why.specs.declared.Subject.TheVariants as subject
use Rattle.why.proofs.Shares.{share_of, adds-up, load-adds-up}
use Rattle.why.proofs.named.Reads as named
use Rattle.why.proofs.last_interval.Reads as last-interval
use Rattle.why.proofs.blocker_shown.Reads as blocker-shown
use Rattle.why.proofs.share_shown.Reads as share-shown
use Rattle.why.proofs.demand_shown.Reads as demand-shown
use Rattle.why.proofs.stair_shown.Reads as stair-shown
use Rattle.why.proofs.stretch_shown.Reads as stretch-shown
use Rattle.why.proofs.nowhere_shown.Reads as nowhere-shown
use contract.Lifetimes.{Lfts}

pub pages-same : (f : ℕ → Page) (g : ℕ → List ℕ) → ((i : ℕ) → text_of (f i) ≡ g i) → (xs : List ℕ)
    → flat_map (λ i. text_of (f i)) xs ≡ flat_map g xs
unfolding flat_map
pages-same f g h [] = refl
pages-same f g h (x ∷ xs) = rw (h x, pages-same f g h xs)

-- ---- A lawful plan

module _ (κs : Lfts 0) (p : Plan) (lawful : plan_check p ≡ Lawful) where
  -- the pair of a fail, and the overload
  pub fail-named : (r : Result Subject Refusal) (e : _) (l b d : Length) (k : ℕ) → named.Learnt κs (p, tt) r e → verdict_of p ≡ Fail l b d k
      → r ≡ Ok (subject.At l b)
  unfolding named_answer named_by
  fail-named r e l b d k h v = rw (lawful, v) at h

  pub overload-named : (r : Result Subject Refusal) (e : _) → named.Learnt κs (p, tt) r e → verdict_of p ≡ Overload → r
      ≡ Ok subject.Overload
  unfolding named_answer named_by
  overload-named r e h v = rw (lawful, v) at h

  -- the numbers that are shown of a pair, the blocking and each string's, add up to the demand that is shown; over H days to the load
  pub shown-adds-up : (l b : ℕ) → b + sum_of (share_of p l b) (strings_of p) ≡ demand p l b
  shown-adds-up l b = adds-up p (plan_check-lawful p lawful) l b

  pub load-shown-adds-up : sum_of (share_of p (multiple_of p) 0) (strings_of p) ≡ load p
  load-shown-adds-up = load-adds-up p (plan_check-lawful p lawful)

  -- the pages of a pair, in the order in which the clerk writes them; strings i is that of place i
  module _ (l b : Length) (head who blocked sum : Page) (strings : ℕ → Page) (d e f g : _) (h : ℕ → _)
      (headed : pair_line.Learnt κs (l, (b, tt)) head d) (blocks : blocker-shown.Learnt κs (p, (l, (b, tt))) who e)
      (blocking : blocking-line.Learnt κs (b, tt) blocked f)
      (placed : (i : ℕ) → share-shown.Learnt κs (p, (l, (b, (i, tt)))) (strings i) (h i))
      (summed : demand-shown.Learnt κs (p, (l, (b, tt))) sum g) where
    pub pair-whole : text_of head ++ text_of who ++ text_of blocked ++ flat_map (λ i. text_of (strings i)) (up_from 1 p.n) ++ text_of sum
        ≡ pair_text p l.0 b.0
    unfolding pair_text blocker_shown share_shown demand_shown
    pair-whole =
        let by_place = pages-same strings (share_text p l.0 b.0) (λ i. rw lawful at (text-is (strings i) _ (placed i)))
        (up_from 1 p.n) in
        rw (
          text-is head _ headed,
          rw lawful at (text-is who _ blocks),
          text-is blocked _ blocking,
          by_place,
          rw lawful at (text-is sum _ summed),
        )

  -- what is written where this is named is the whole text
  pub why-pair : (e : _) (l b : Length) → named.Learnt κs (p, tt) (Ok (subject.At l b)) e → why_text p ≡ pair_text p l.0 b.0
  unfolding why_text text_named named_answer
  why-pair e l b h =
      let is = rw lawful at h in
      let same : subject.At l b ≡ named_by p (verdict_of p) = cc in
      ap (text_named p) (sym same)

  pub why-overload : (e : _) → named.Learnt κs (p, tt) (Ok subject.Overload) e → why_text p ≡ over_text p
  unfolding why_text text_named named_answer
  why-overload e h =
      let is = rw lawful at h in
      let same : subject.Overload ≡ named_by p (verdict_of p) = cc in
      ap (text_named p) (sym same)

  -- the figures are given, whatever is answered
  pub over-figured : (r : Result Figures Refusal) (e : _) → figures.Learnt κs (p, tt) r e → (found : Figures) × (r ≡ Ok found)
  unfolding figures_answer
  over-figured r e h = (figures_of p, h ∙ rw lawful)

  -- the pages of an overload, in the order in which the clerk writes them
  module _ (found : Figures) (head sum : Page) (strings : ℕ → Page) (d e f : _) (h : ℕ → _)
      (figured : figures.Learnt κs (p, tt) (Ok found) d) (headed : multiple-line.Learnt κs (found.multiple, tt) head e)
      (placed : (i : ℕ) → share-shown.Learnt κs (p, (days found.multiple, (days 0, (i, tt)))) (strings i) (h i))
      (summed : over-line.Learnt κs (found.load, (found.multiple, tt)) sum f) where
    pub over-whole : text_of head ++ flat_map (λ i. text_of (strings i)) (up_from 1 p.n) ++ text_of sum ≡ over_text p
    unfolding over_text share_shown figures_answer figures_of
    over-whole =
        let said = rw lawful at figured in
        let shown : found ≡ figures_of p = cc in
        let by_place = pages-same strings (share_text p found.multiple 0) (λ i. rw lawful at (text-is (strings i) _ (placed i)))
        (up_from 1 p.n) in
        rw (
          text-is head _ headed,
          by_place,
          text-is sum _ summed,
          ap (λ g. g.multiple) shown,
          ap (λ g. g.load) shown,
        )

  -- the pages of the demand; stairs l and stretches l are those of the interval l
  module _ (last : ℕ) (stairs stretches : ℕ → Page) (nowhere : Page) (d e : _) (f g : ℕ → _)
      (ends : last-interval.Learnt κs (p, tt) last d)
      (stepped : (l : ℕ) → stair-shown.Learnt κs (p, (record { 0 = l }, tt)) (stairs l) (f l))
      (stretched : (l : ℕ) → stretch-shown.Learnt κs (p, (record { 0 = l }, tt)) (stretches l) (g l))
      (unbroken : nowhere-shown.Learnt κs (p, tt) nowhere e) where
    pub stairs-whole :
        flat_map (λ l. text_of (stairs l)) (up_from 1 last) ++ flat_map (λ l. text_of (stretches l)) (up_from 1 last) ++ text_of nowhere
        ≡ stairs_text p
    unfolding stairs_text stair_shown stretch_shown nowhere_shown last_answer
    stairs-whole =
        let range = rw lawful at ends in
        let steps = pages-same stairs (stair_text p) (λ l. rw lawful at (text-is (stairs l) _ (stepped l)))
        (up_from 1 (last_interval p)) in
        let stretching = pages-same stretches (stretch_text p) (λ l. rw lawful at (text-is (stretches l) _ (stretched l)))
        (up_from 1 (last_interval p)) in
        rw (range, steps, stretching, rw lawful at (text-is nowhere _ unbroken))
