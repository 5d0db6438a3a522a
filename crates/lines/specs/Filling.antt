-- What a page promises of itself, of the page that holds a text: no more bytes count than it has, and behind those that count stand zeros.
use Rattle.std.specs.Prelude.{ℕ, ◌≡◌, ◌-◌, ◌≤◌, List, length, take, replicate}
use Rattle.std.proofs.Common.{sym, ap, arith, length-append}
use lib.Seq.{take-append_seam}
use Rattle.base.specs.Count.{filled}

pub text-within : (text : List ℕ) → length text ≤ length (filled 256 0 text)
text-within text = omega (arith, length-append text (replicate (256 - length text) 0))

pub text-first : (text : List ℕ) → filled 256 0 text ≡ filled 256 0 (take (length text) (filled 256 0 text))
text-first text = ap (filled 256 0) (sym (take-append_seam text (replicate (256 - length text) 0)))
