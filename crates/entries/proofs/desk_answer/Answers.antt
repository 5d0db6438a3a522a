-- the page that the lines are written on holds the answer's lines and no other text
use Rattle.base.proofs.Prelude.{◌≡◌, refl, ap, ◌∙◌, arith, length}
use Rattle.rules.specs.Lines.{lines_for}
use Rattle.lines.specs.Pages.{page_of, text_of}
use Rattle.lines.proofs.Growing.{text_of-page_of, len_is, text-length}
use Rattle.entries.proofs.Telling.{text-as}
use Rattle.entries.proofs.desk_answer.Goals as goal

pub returns : goal.returns
returns c =
    let lines = c.written.ensures.exact ∙ ap (λ a. page_of (lines_for a)) c.answer.ensures.exact in
    let long : length c.written.result.bytes ≡ 256 = c.written.type_inv.1.1.1.0.1.0.1 in
    let said = text-as _ _ _ _ _ (ap text_of lines ∙ text_of-page_of _) (c.tell_text.ensures.exact, c.tell_text.ensures.page) in
    record { exact = said.0; page = said.1; kept = refl; enough = omega (arith, len_is _ _ lines, c.written.result.within, long) }
