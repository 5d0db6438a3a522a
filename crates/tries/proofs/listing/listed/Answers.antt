-- day by day and place by place, a release that comes is stored behind those before it
use Rattle.base.proofs.Prelude.{ℕ, ◌+◌, ◌≤◌, ◌<◌, ◌≡◌, sym, ap, ◌∙◌, subst, List, ◌∷◌, ◌++◌, arith, take, get_or}
use Rattle.days.specs.Days.{day}
use Rattle.rules.specs.{declared.Release.Release, declared.Releases.Releases, Plan.no_string}
use Rattle.exact.specs.Missing.{delay_of, due_coming}
use Rattle.exact.proofs.Freely.{delay_of-le}
use Rattle.tries.specs.{Tries.list_of, inner.Openings.{head_of, try_of}}
use Rattle.tries.proofs.{Places.{many-strings}, Packing.{Packing, packing-as, packing-more, packing-end, packing-full, packed-begins, head-few}, DayByDay.{days_from, places_from, days-all, days-next, days-end, place-stays, place-comes, places-end, release_at}}
use Rattle.tries.proofs.listing.listed.Goals as goal

pub loop-t-init : goal.loop-t-init
unfolding list_of
loop-t-init c =
    let o = c.args.o in
    let all = ap (λ xs. head_of o ++ xs) (sym (days-all c.args.p (head_of o) o.lead o.delay c.args.l)) in
    subst (λ (rs : Releases). Packing (list_of c.args.p (try_of o c.args.l))
    (days_from c.args.p (head_of o) o.lead o.delay c.args.l o.lead) rs.list rs.count) (sym c.begun-count.ensures)
    (packed-begins (head_of o) _ _ (omega (arith, head-few o)) all)

pub loop-i-preserved-then-not-comes_behind : goal.loop-i-preserved-then-not-comes_behind
loop-i-preserved-then-not-comes_behind c =
    let o = c.args.o in
    let within : c.loop-i.i < c.args.p.n = omega (arith, many-strings c.requires.ready c.loop-i.invariant.counted, c.loop-i-test.true) in
    let stays = place-stays c.args.p (head_of o) o.lead o.delay c.args.l c.requires.ready c.loop-i.invariant.counted c.loop-t.t c.loop-i.i
    within (sym c.comes_behind.ensures ∙ c.if-not-comes_behind.true) in
    record {
      counted = c.loop-i.invariant.counted;
      few = c.loop-i.invariant.few;
      packing = λ all left s. packing-as _ _ _ _ (c.loop-i.invariant.packing all left s) _ (ap (λ xs. xs ++ left) stays);
    }

-- a job comes, so it is the next to be stored
pub returns-then-count-eq1000 : goal.returns-then-count-eq1000
returns-then-count-eq1000 c =
    let p = c.args.p in
    let o = c.args.o in
    let l = c.args.l in
    let t = c.loop-t.t in
    let within : c.loop-i.i < p.n = omega (arith, many-strings c.requires.ready c.loop-i.invariant.counted, c.loop-i-test.true) in
    let comes = place-comes p (head_of o) o.lead o.delay l c.requires.ready c.loop-i.invariant.counted t c.loop-i.i
    within (sym c.comes_behind.ensures ∙ c.if-not-comes_behind.false) in
    let today = packing-as _ _ _ _ c.loop-t.invariant _
    (days-next p (head_of o) o.lead o.delay l c.requires.ready t c.loop-t-test.true) in
    packing-full _ _ _ _ (c.loop-i.invariant.packing _ _ today) _ _
    (ap (λ xs. xs ++ days_from p (head_of o) o.lead o.delay l (t + 1)) comes) (omega (arith, c.if-count-eq1000.true))

pub overflow_add-o : goal.overflow_add-o
overflow_add-o c =
    let late = delay_of-le c.args.o.delay (get_or (take c.args.p.n c.args.p.strings) c.loop-i.i no_string) in
    omega (arith, c.delay_of.ensures, late, c.requires.small.soon, c.requires.small.short)

pub loop-i-preserved : goal.loop-i-preserved
loop-i-preserved c =
    let p = c.args.p in
    let o = c.args.o in
    let t = c.loop-t.t in
    let s = get_or (take p.n p.strings) c.loop-i.i no_string in
    let within : c.loop-i.i < p.n = omega (arith, many-strings c.requires.ready c.loop-i.invariant.counted, c.loop-i-test.true) in
    let comes = place-comes p (head_of o) o.lead o.delay c.args.l c.requires.ready c.loop-i.invariant.counted t c.loop-i.i
    within (sym c.comes_behind.ensures ∙ c.if-not-comes_behind.false) in
    let due : c.due_coming.result ≡ due_coming (o.lead + delay_of o.delay s) s t =
    c.due_coming.ensures ∙ ap (λ d. due_coming (o.lead + d) s t) c.delay_of.ensures in
    let released : ℕ → Release = λ u. record { day = day t; place = c.loop-i.i + 1; need = s.c; due = day u } in
    record {
      counted = c.loop-i.invariant.counted;
      few = omega (arith, c.loop-i.invariant.few, c.if-count-eq1000.false);
      packing = λ all left r.
          let now = c.loop-i.invariant.packing all left r in
          packing-more _ _ _ _ now _ _
          (ap (λ xs. xs ++ left) comes
          ∙ ap (λ q. q ∷ (places_from p (head_of o) o.lead o.delay c.args.l t (c.loop-i.i + 1 + 1) ++ left)) (ap released (sym due)))
          (omega (arith, c.loop-i.invariant.few, c.if-count-eq1000.false));
    }

pub loop-t-preserved : goal.loop-t-preserved
loop-t-preserved c =
    let p = c.args.p in
    let o = c.args.o in
    let l = c.args.l in
    let t = c.loop-t.t in
    let past : p.n + 1 ≤ c.loop-i.i + 1 = omega (arith, many-strings c.requires.ready c.loop-i.invariant.counted, c.loop-i-test.false) in
    let today = packing-as _ _ _ _ c.loop-t.invariant _
    (days-next p (head_of o) o.lead o.delay l c.requires.ready t c.loop-t-test.true) in
    packing-as _ _ _ _ (c.loop-i.invariant.packing _ _ today) _
    (ap (λ xs. xs ++ days_from p (head_of o) o.lead o.delay l (t + 1))
    (places-end p (head_of o) o.lead o.delay l c.requires.ready t (c.loop-i.i + 1) past))

pub returns : goal.returns
returns c =
    let o = c.args.o in
    packing-end _ _ _ _ c.loop-t.invariant (days-end c.args.p (head_of o) o.lead o.delay c.args.l c.loop-t.t c.loop-t-test.false)
