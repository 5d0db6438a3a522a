use Rattle.std.proofs.Common.{◌≡◌, ◌+◌, ◌-◌, length, arith}
use Rattle.lines.specs.Pages.{text_of}
use Rattle.lines.proofs.Growing.{longer-within, longer-written, longer-text}
use Rattle.lines.proofs.Page.append.Goals as goal

pub invariant_of-result : goal.invariant_of-result
invariant_of-result c =
    let k : c.args.self.len + length c.args.text.now - c.args.self.len ≡ length c.args.text.now = omega arith in
    record {
      within = longer-within c.args.self c.args.text.now _ _ c.requires k c.copy_from_slice.ensures.after;
      written = longer-written c.args.self c.args.text.now _ _ c.requires k c.copy_from_slice.ensures.after;
    }

pub returns-clause-exact : goal.returns-clause-exact
unfolding text_of
returns-clause-exact c = longer-text c.args.self c.args.text.now _ _ c.requires (omega arith) c.copy_from_slice.ensures.after
