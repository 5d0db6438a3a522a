use Rattle.std.proofs.Common.{ℕ, Bor, List, ◌≡◌, ◌∙◌, sym, ◌+◌, ◌-◌, length, drop, take, get_or, take_all, length-drop, ap, arith, get_or-drop}
use Rattle.base.proofs.Prelude.{ltb-true}
use Rattle.lines.specs.{declared.Page.Page, Pages.text_of}
use Rattle.lines.proofs.{Digits.decimal-64, Filled.{marked, plain, used_up, ended}}
use Rattle.lines.proofs.Page.fill_in.Goals as goal
use Rattle.lines.proofs.Page.fill_in.Goals.{in-len1-up, in_default, in_default-via-then-left-lt1, in_default-via-in-len1-up+else-b-eq35}

abbrev len_of : Page → ℕ
len_of page = page.len

pub append_number-page-requires : goal.append_number-page-requires
append_number-page-requires c =
    omega (arith, decimal-64 (get_or c.loop-b.left.now 0 0) (c.loop-b.invariant.small 0))

pub loop-b-preserved : goal.loop-b-preserved
loop-b-preserved c =
    let at = c.loop-b.b-index in
    let bs = c.args.template.now in
    let ns = c.loop-b.left.now in
    let so_far = text_of c.loop-b.page in
    let inv = c.loop-b.invariant in
    let more = c.loop-b-test.true in
    elim c.if-left-lt1.branch [
      | in-len1-up w ↦
          let part : c.if-left-lt1.left.now ≡ take (length ns - 1) (drop 1 ns) = ap (λ (b : Bor (List ℕ)). b.now) w.left-is in
          let left : c.if-left-lt1.left.now ≡ drop 1 ns =
          part ∙ take_all (length ns - 1) (drop 1 ns) (omega (arith, length-drop 1 ns)) in
          record {
            room = omega (arith, ap len_of w.page-is, ap length left, length-drop 1 ns, decimal-64 (get_or ns 0 0) (inv.small 0));
            small = rw left (λ k. rw (get_or-drop 1 ns k 0) (inv.small (1 + k)));
            whole = rw (left, w.page-is, w.append_number-page.ensures.exact)
                (marked bs at more so_far ns w.in-len1-up.len_at_least w.if-b-eq35.true ∙ inv.whole);
          }
      | in_default w ↦
          let left = ap (λ (b : Bor (List ℕ)). b.now) w.left-is in
          record {
            room = omega (arith, ap len_of w.page-is, ap length left);
            small = rw left inv.small;
            whole = rw (left, w.page-is, w.append-page.ensures.exact)
                (elim w.in_default.branch [
                  | in_default-via-then-left-lt1 u ↦ used_up bs at more so_far ns (omega (arith, ltb-true)) ∙ inv.whole
                  | in_default-via-in-len1-up+else-b-eq35 u ↦ plain bs at more so_far ns u.if-b-eq35.false ∙ inv.whole
                ]);
          }
    ]

pub returns-clause-exact : goal.returns-clause-exact
returns-clause-exact c =
    sym (ended c.args.template.now c.loop-b.left.now c.loop-b.b-index (text_of c.loop-b.page) (omega arith)) ∙ c.loop-b.invariant.whole
