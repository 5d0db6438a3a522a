-- The digits end at the first byte that is none.
use Rattle.std.proofs.Common.{length, ap, ◌∙◌, unwrap_or}
use Rattle.reading.proofs.Hex.{ahead_position}
use Rattle.reading.proofs.digits.digits_ahead.Goals as goal

pub returns : goal.returns
returns c =
    let line = c.args.line.now in
    record {
      exact = c.unwrap_or.ensures ∙ ap (λ o. unwrap_or o (length line)) c.first_other.ensures.exact ∙ ahead_position line;
    }
