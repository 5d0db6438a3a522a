-- The rows below the largest D one after the other, each handing on its count of pairs.
use Rattle.base.proofs.Prelude.{ℕ, ◌+◌, ◌-◌, ◌≤◌, ◌<◌, ◌≡◌, sym, ap, ◌∙◌, subst, List, ◌++◌, arith, length, get_or, replicate, length-set, length-replicate}
use lib.ListN.{get_or-replicate}
use Rattle.base.specs.Count.{keep}
use Rattle.rules.specs.{declared.Plan.Plan, declared.Verdict.Verdict, declared.Verdict.TheVariants.Pass, Plan.{multiple_of, leeway_min, d_max}, Verdict.Pair}
use Rattle.demand.proofs.Pairs.{row_from, rows, scan_from, all_pairs-rows}
use Rattle.demand.specs.Quick.{grows, quick_pairs}
use Rattle.verdict.specs.{inner.Asked.{Ready, asked_by}, inner.Steps.{Due, Mark, onward, pairs_of}}
use Rattle.verdict.proofs.{Asked.asked_by-le, KeptRows.{kept_row, kept-rows}, Stepping.asked-early, Looking.{early-still, mark-early, mark-next, looked-next}, Onward.{onward-ended, pairs_of-ended, leeway_min-pos, leeway_min-d_max}}
use Rattle.laws.proofs.Lawful.{d_max-le}
use Rattle.verdict.proofs.steps.Parts.early.Goals as goal

-- below the largest D an interval is short
short : (p : Plan) (l last : ℕ) → Ready p → last ≡ d_max p → l < last → l ≤ 999
short p l last ready e h = omega (arith, d_max-le p ready.lawful)

pub overflow_sub-self : goal.overflow_sub-self
overflow_sub-self c =
    let r = c.args.self.now.ready in
    omega (arith, r.first_is, leeway_min-pos r.plan r.ready)

pub steps_after-next-requires : goal.steps_after-next-requires
steps_after-next-requires c =
    let r = c.args.self.now.ready in
    omega (arith, r.first_is, leeway_min-d_max r.plan r.ready, d_max-le r.plan r.ready.lawful)

pub loop-l-init : goal.loop-l-init
unfolding quick_pairs
loop-l-init c =
    let r = c.args.self.now.ready in
    let p = r.plan in
    let ready = r.ready in
    let first = r.first in
    let least : first ≡ leeway_min p = r.first_is in
    let some = leeway_min-pos p ready in
    let low : leeway_min p ≤ 1000 = omega (arith, leeway_min-d_max p ready, d_max-le p ready.lawful) in
    let before : (x w : ℕ) → w < first → asked_by p x w ≡ 0 = λ x w h. asked-early p x w (omega arith) in
    let none : (i : ℕ) (xs : List ℕ) → i ≤ 1000 → xs ≡ replicate 1024 0 → get_or xs i 0 ≡ 0 =
    λ i xs h e. ap (λ ys. get_or ys i 0) e ∙ get_or-replicate 1024 i 0 0 (omega arith) in
    let end = d_max p + multiple_of p in
    let skipped = kept-rows p (grows p) 1 first end (omega arith) (omega (arith, leeway_min-d_max p ready))
    (λ w b one below held. early-still p ready.lawful w b one (omega arith)) in
    record {
      pos = omega arith;
      upto = omega (arith, r.last_is, leeway_min-d_max p ready);
      few = omega arith;
      due = c.steps_after-next.ensures;
      kept = sym (before 0 (first - 1) (omega arith));
      took = sym (before 1 (first - 1) (omega arith));
      mark = mark-early p first (omega arith);
      takers_size = ap length c.none_known-takers.ensures ∙ length-replicate {A = ℕ} 1024 0;
      marks_size = ap length c.none_known-marks.ensures ∙ length-replicate {A = ℕ} 1024 0;
      looked = record {
        known = λ w h. none w _ (omega arith) c.none_known-takers.ensures ∙ sym (before 1 w h);
        marked = λ j h. subst (Mark p j) (sym (none j _ (omega arith) c.none_known-marks.ensures)) (mark-early p j (omega arith));
      };
      rest = ap (scan_from p 0) (sym skipped) ∙ ap (λ qs. scan_from p 0 (keep (grows p) qs)) (sym (all_pairs-rows p));
    }

pub advance-step-requires-clause-l_bound : goal.advance-step-requires-clause-l_bound
advance-step-requires-clause-l_bound c =
    let r = c.args.self.now.ready in
    omega (arith, short r.plan c.loop-l.l r.last r.ready r.last_is c.loop-l-test.true)

pub overflow_add-keepers : goal.overflow_add-keepers
overflow_add-keepers c =
    let r = c.args.self.now.ready in
    let low : c.loop-l.l ≤ 101000 = omega (arith, short r.plan c.loop-l.l r.last r.ready r.last_is c.loop-l-test.true) in
    omega (arith, c.loop-l.invariant.kept, c.advance-step.ensures.keepers, asked_by-le r.plan 0 c.loop-l.l r.ready.lawful low)

pub overflow_add-asked : goal.overflow_add-asked
overflow_add-asked c =
    let r = c.args.self.now.ready in
    let low : c.loop-l.l ≤ 101000 = omega (arith, short r.plan c.loop-l.l r.last r.ready r.last_is c.loop-l-test.true) in
    omega (arith, c.loop-l.invariant.took, c.advance-step.ensures.takers, asked_by-le r.plan 1 c.loop-l.l r.ready.lawful low)

pub marked-mark-requires : goal.marked-mark-requires
marked-mark-requires c =
    let r = c.args.self.now.ready in
    omega (arith, short r.plan c.loop-l.l r.last r.ready r.last_is c.loop-l-test.true)

pub bounds-takers-l : goal.bounds-takers-l
bounds-takers-l c =
    let r = c.args.self.now.ready in
    omega (arith, short r.plan c.loop-l.l r.last r.ready r.last_is c.loop-l-test.true)

pub bounds-marks-l : goal.bounds-marks-l
bounds-marks-l c =
    let r = c.args.self.now.ready in
    omega (arith, short r.plan c.loop-l.l r.last r.ready r.last_is c.loop-l-test.true)

pub row-found-requires-clause-row_known : goal.row-found-requires-clause-row_known
row-found-requires-clause-row_known c =
    let r = c.args.self.now.ready in
    let p = r.plan in
    let inv = c.loop-l.invariant in
    let step = c.advance-step.ensures in
    let near = short p c.loop-l.l r.last r.ready r.last_is c.loop-l-test.true in
    let mark = subst (Mark p (c.loop-l.l + 1)) (sym c.marked-mark.ensures)
    (mark-next p c.loop-l.l c.advance-step.result.takers c.loop-l.mark step.takers inv.mark) in
    record {
      pos = inv.pos;
      short = omega arith;
      kept = omega (arith, inv.kept, step.keepers);
      grown = step.keepers;
      looked = looked-next p c.loop-l.l _ _ c.loop-l.takers c.loop-l.marks inv.takers_size inv.marks_size (omega arith)
          (omega (arith, inv.took, step.takers)) mark inv.looked;
    }

-- a row and the rows after it
onto :
    (p : Plan) (l last pairs : ℕ) (found : Verdict) → last ≡ d_max p → l < last
    → ((qs : List Pair) → onward p found qs ≡ scan_from p pairs (keep (grows p) (row_from p l 0) ++ qs))
    → scan_from p pairs (keep (grows p) (rows p l (d_max p + multiple_of p - l))) ≡ scan_from p 0 (quick_pairs p)
    → onward p found (keep (grows p) (rows p (l + 1) (d_max p + multiple_of p - (l + 1)))) ≡ scan_from p 0 (quick_pairs p)
onto p l last pairs found e h row so =
    let below : l < d_max p + multiple_of p = omega arith in
    row _ ∙ sym (ap (scan_from p pairs) (kept_row p (grows p) l (d_max p + multiple_of p) below)) ∙ so

pub returns-in_default : goal.returns-in_default
returns-in_default c =
    let r = c.args.self.now.ready in
    let p = r.plan in
    let found = c.row-found.result in
    let ended = c.in_default.not-Pass in
    let row = c.row-found.ensures.onward in
    let on = onto p c.loop-l.l r.last c.loop-l.pairs found r.last_is c.loop-l-test.true row c.loop-l.invariant.rest in
    record {
      onward = onward-ended p found _ ended ∙ sym (onward-ended p found _ ended) ∙ on;
      few = omega (arith, pairs_of-ended found ended);
    }

pub loop-l-preserved : goal.loop-l-preserved
unfolding onward pairs_of
loop-l-preserved c =
    let r = c.args.self.now.ready in
    let p = r.plan in
    let l = c.loop-l.l in
    let inv = c.loop-l.invariant in
    let step = c.advance-step.ensures in
    let inside = c.loop-l-test.true in
    let near = short p l r.last r.ready r.last_is inside in
    let mark = subst (Mark p (l + 1)) (sym c.marked-mark.ensures)
    (mark-next p l c.advance-step.result.takers c.loop-l.mark step.takers inv.mark) in
    let back : l + 1 - 1 ≡ l = omega arith in
    let passed = c.in-Pass.is in
    record {
      pos = omega arith;
      upto = omega arith;
      few = c.in-Pass.ensures.few;
      due = subst (λ w. Due p w c.advance-step.new.next) (sym back) step.due;
      kept = omega (arith, inv.kept, step.keepers, ap (asked_by p 0) back);
      took = omega (arith, inv.took, step.takers, ap (asked_by p 1) back);
      mark = mark;
      takers_size = length-set c.loop-l.takers l _ ∙ inv.takers_size;
      marks_size = length-set c.loop-l.marks (l + 1) _ ∙ inv.marks_size;
      looked = looked-next p l _ _ c.loop-l.takers c.loop-l.marks inv.takers_size inv.marks_size (omega arith)
          (omega (arith, inv.took, step.takers)) mark inv.looked;
      rest = onto p l r.last c.loop-l.pairs (Pass c.in-Pass.compared) r.last_is inside c.in-Pass.ensures.onward inv.rest;
    }

pub returns-clause-onward : goal.returns-clause-onward
unfolding onward
returns-clause-onward c =
    let r = c.args.self.now.ready in
    let p = r.plan in
    let inv = c.loop-l.invariant in
    let end : c.loop-l.l ≡ d_max p = omega (arith, inv.upto, r.last_is, c.loop-l-test.false) in
    let left : d_max p + multiple_of p - c.loop-l.l ≡ multiple_of p = omega arith in
    ap (λ l. scan_from p c.loop-l.pairs (keep (grows p) (rows p l (multiple_of p)))) (sym end)
    ∙ ap (λ m. scan_from p c.loop-l.pairs (keep (grows p) (rows p c.loop-l.l m))) (sym left)
    ∙ inv.rest

pub returns-clause-few : goal.returns-clause-few
unfolding pairs_of
returns-clause-few c =
    let r = c.args.self.now.ready in
    let end : c.loop-l.l ≡ d_max r.plan = omega (arith, c.loop-l.invariant.upto, r.last_is, c.loop-l-test.false) in
    omega (arith, end, c.loop-l.invariant.few)
